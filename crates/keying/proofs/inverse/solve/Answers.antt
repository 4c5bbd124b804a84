use Rattle.std.proofs.Common.{◌≡◌, ◌<◌, ◌≤◌, length, Err, Result, ap, ◌∙◌, arith}
use Rattle.std.proofs.lemmas.Result.{err_from_is_err_and}
use Rattle.ring.specs.declared.refusal.Refusal.{Refusal}
use Rattle.ring.specs.declared.refusal.Refusal.TheVariants.{NoInverse}
use Rattle.keying.specs.Keying.{Inverts, Uninvertible}
use Rattle.keying.proofs.Inverting.{solved, unsolved, no_other, at_err}
use Rattle.keying.proofs.inverse.solve.Goals as goal

pub returns-in_err-invert : goal.returns-in_err-invert
returns-in_err-invert c =
    let f = c.args.f.now in
    let row = c.load.new.target in
    let long : length row ≡ length f = c.load.auto.target ∙ c.requires.rooms.0 in
    let refusal = c.in_err-invert.ensures in
    let why =
    no_other (length row) (length c.args.inverse.now) _ (let h : 0 < length row = omega (arith, c.requires.degree) in h) (let h : length row ≤ 1024 = omega (arith, c.requires.degree) in h)
    (let h : length c.args.inverse.now ≡ length row = omega (arith, c.requires.rooms) in h) refusal.refuses in
    let none = refusal.none.0 (ap {B = Result (Unit {0}) Refusal} Err why) in
    let exit = err_from_is_err_and c.from_residual.result c.from_residual.ensures.1 in
    at_err (λ _. Inverts (length f) f c.reduce_secret.new.out) (λ e. (e ≡ NoInverse) × Uninvertible (length f) f) c.from_residual.result exit.0 exit.1
    (exit.2 ∙ why, unsolved f c.reduce_secret.new.out c.args.u.now row c.requires.degree.2 c.reduce_secret.ensures c.load.ensures none)

pub returns : goal.returns
returns c =
    solved c.args.f.now c.reduce_secret.new.out c.args.u.now c.store.new.target c.load.new.target c.invert.new.u
    c.requires.degree.2 c.reduce_secret.ensures c.load.ensures c.in_ok-invert.ensures.found.0 c.store.ensures
