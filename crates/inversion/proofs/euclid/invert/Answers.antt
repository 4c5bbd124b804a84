use Rattle.std.proofs.Common.{◌≡◌, ◌<◌, ◌≤◌, length, arith}
use Rattle.std.proofs.lemmas.Result.{MatchResult-weaker}
use Rattle.inversion.specs.Inverse.{refused}
use Rattle.inversion.proofs.Inverting.{only-inverse, exactly_none, searched}
use Rattle.inversion.proofs.euclid.invert.Goals as goal

pub returns : goal.returns
returns c =
    let f = c.args.f.now in
    let n = length f in
    let places = length c.args.u.now in
    let r = c.solve.result in
    let not-empty = c.if-n-eq0.false in
    let some : 0 < n = omega (arith, not-empty) in
    let within : n ≤ 1024 = omega arith in
    let same : places ≡ n = omega arith in
    let which = searched n places r _ not-empty within same c.solve.ensures.refuses in
    record {
      refuses = which;
      found = MatchResult-weaker r c.solve.ensures.found (λ _ g. (g, only-inverse f c.solve.new.u some g)) (λ _ _. tt);
      none = exactly_none f c.solve.new.u (refused n places) r which (MatchResult-weaker r c.solve.ensures.found (λ _ g. g) (λ _ g _. g));
      untouched = MatchResult-weaker r c.solve.ensures.refuses (λ _ _. tt) (λ _ g. g.1);
    }
