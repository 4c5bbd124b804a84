use Rattle.std.proofs.Common.{◌≡◌, ℕ, ◌+◌, cond, eqb, List, length, get_or, refl, ap, ◌∙◌, arith, rules}
use Rattle.code.specs.Distances.{distance}
use Rattle.code.specs.Words.{word}
use Rattle.code.proofs.Bests.{best_none, best_keeps, best_takes, best_same}
use Rattle.code.proofs.Searches.{tally, tally_is}
use Rattle.code.proofs.nearest.best_even.Goals as goal
use Rattle.code.proofs.nearest.best_even.Goals.{then-distance-best, else-distance-best}

-- what a turn sums up
picked : (k a0 a1 b0 b1 c0 c1 d0 d1 p q s t : ℕ) (bits : List ℕ) → bits ≡ word k
    → p ≡ cond (eqb (get_or bits 0 0) 0) a0 a1 → q ≡ cond (eqb (get_or bits 2 0) 0) b0 b1 → s ≡ cond (eqb (get_or bits 4 0) 0) c0 c1 → t ≡ cond (eqb (get_or bits 6 0) 0) d0 d1
    → p + q + s + t ≡ tally a0 a1 b0 b1 c0 c1 d0 d1 k
picked k a0 a1 b0 b1 c0 c1 d0 d1 p q s t bits e ep eq es et =
    omega (arith, ep, eq, es, et, at 0 a0 a1, at 2 b0 b1, at 4 c0 c1, at 6 d0 d1)
  where
    at : (i x y : ℕ) → cond (eqb (get_or bits i 0) 0) x y ≡ cond (eqb (get_or (word k) i 0) 0) x y
    at i x y = ap (λ (bs : List ℕ). cond (eqb (get_or bs i 0) 0) x y) e

pub loop-k-init : goal.loop-k-init
unfolding word
loop-k-init c = (best_none _ _ refl, omega arith)

pub loop-k-preserved : goal.loop-k-preserved
loop-k-preserved c =
    let e = picked c.loop-k.k _ _ _ _ _ _ _ _ _ _ _ _ c.word-bits.result c.word-bits.ensures c.pick.ensures.value c.pick-in-loop-k.ensures.value c.pick-in-loop-k-2.ensures.value c.pick-in-loop-k-3.ensures.value in
    elim c.if-distance-best.branch [
      | then-distance-best w ↦ (
        best_takes _ c.loop-k.k _ _ _ _ c.loop-k.invariant.0 (omega (arith, e, w.if-distance-best.true)) (ap (λ b. b.number.value) w.best-is) (ap (λ b. b.distance) w.best-is ∙ e),
        omega (arith, ap (λ b. b.distance) w.best-is),
      )
      | else-distance-best w ↦ (
        best_keeps _ c.loop-k.k _ _ _ _ c.loop-k.invariant.0 (omega (arith, e, w.if-distance-best.false)) (ap (λ b. b.number.value) w.best-is) (ap (λ b. b.distance) w.best-is),
        omega (arith, c.loop-k.invariant.1, ap (λ b. b.distance) w.best-is),
      )
    ]

pub returns-clause-best : goal.returns-clause-best
returns-clause-best c =
    let l : length c.args.octet ≡ 8 = search rules in
    best_same _ (distance c.args.width.bits c.args.octet) c.loop-k.k 8 _ _ (omega arith)
    (tally_is c.args.width.bits c.args.octet _ _ _ _ _ _ _ _ l
    (c.pair_costs-a.ensures.zero, c.pair_costs-a.ensures.one)
    (c.pair_costs-b.ensures.zero, c.pair_costs-b.ensures.one)
    (c.pair_costs-c.ensures.zero, c.pair_costs-c.ensures.one)
    (c.pair_costs-d.ensures.zero, c.pair_costs-d.ensures.one))
    c.loop-k.invariant.0
