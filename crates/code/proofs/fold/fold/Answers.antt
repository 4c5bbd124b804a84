use Rattle.std.proofs.Common.{◌≡◌, ℕ, ◌≤◌, ℤ, nat_abs, ap, ◌∙◌, arith, w32}
use Rattle.std.proofs.lemmas.Int.{ints, to_z-of_z}
use Rattle.code.specs.Widths.{radius}
use Rattle.code.specs.Folds.{fold}
use Rattle.code.proofs.FoldLaws.{fold-low, fold-high, fold_bound, radius-pos}
use Rattle.code.proofs.fold.fold.Goals as goal

-- what the code computes is the fold, and so it is bounded by the radius
folded : (w : ℕ) (x y f : ℤ) → f ≡ fold (radius w) y → y ≡ x → (f ≡ fold (radius w) x) × (nat_abs f ≤ radius w)
folded w x y f e s = (e ∙ ap (fold (radius w)) s, omega (arith, ap nat_abs (e ∙ ap (fold (radius w)) s), fold_bound (radius w) x (radius-pos w)))

pub returns-then-rest-r : goal.returns-then-rest-r
returns-then-rest-r c =
    let e = folded c.args.width.bits _ _ _
    (fold-low (radius c.args.width.bits) _ _ c.rem_euclid-rest.result (radius-pos c.args.width.bits) (omega (arith, ints, c.radius-r.ensures.value)) c.rem_euclid-rest.ensures.value (omega (arith, ints)))
    (to_z-of_z w32 c.args.x c.ranges.x) in
    record { value = omega (arith, ints, e.0); small = omega (arith, ints, e.1) }

pub returns-else-rest-r : goal.returns-else-rest-r
returns-else-rest-r c =
    let e = folded c.args.width.bits _ _ _
    (fold-high (radius c.args.width.bits) _ _ c.rem_euclid-rest.result (radius-pos c.args.width.bits) (omega (arith, ints, c.radius-r.ensures.value)) c.rem_euclid-rest.ensures.value (omega (arith, ints)))
    (to_z-of_z w32 c.args.x c.ranges.x) in
    record { value = omega (arith, ints, e.0); small = omega (arith, ints, e.1) }
