use Rattle.std.proofs.Common.{◌≡◌, ℕ, ◌-◌, List, length, sym, ◌∙◌, subst, arith}
use Rattle.std.proofs.lemmas.List.{length-take-le, take_at}
use Rattle.std.proofs.lemmas.Result.{MatchResult-weaker}
use Rattle.keying.specs.Keying.{Inverts}
use Rattle.keying.proofs.inverse.inverse_of.Goals as goal

pub returns : goal.returns
returns c =
    let f = c.args.f.now in
    let n = length f in
    let size : length c.solve.new.u ≡ n = c.solve.auto.u ∙ length-take-le (n - 0) c.args.u.now (omega (arith, c.requires, c.told-u)) ∙ omega arith in
    MatchResult-weaker c.solve.result c.solve.ensures (λ _ i. subst (λ (x : List ℕ). Inverts n f x) (sym (take_at c.solve.new.u _ n size)) i) (λ _ q. q)
