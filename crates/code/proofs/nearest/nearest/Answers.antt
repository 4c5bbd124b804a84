use Rattle.std.proofs.Common.{◌≡◌, ℕ, ◌+◌, ◌*◌, ◌<◌, ◌≤◌, List, length, get_or, ℤ, pos, sym, refl, ap, ◌∙◌, arith, w32, SFits, to_z}
use Rattle.std.proofs.lemmas.Int.{ints}
use Rattle.code.specs.Widths.{radius}
use Rattle.code.specs.Distances.{distance}
use Rattle.code.specs.Tries.{raised, lowered}
use Rattle.code.proofs.Bests.{best_first, best_second}
use Rattle.code.proofs.DistanceLaws.{sure, nearest_of}
use Rattle.code.proofs.Shifts.{raised-distance, raised-lowered}
use Rattle.code.proofs.nearest.nearest.Goals as goal

-- the distances of the shifted octet are those of the words from 8 on
later : (w : ℕ) (v u : List ℤ) (s : ℤ) → 0 < w → w ≤ 32 → s ≡ pos (radius w) → u ≡ raised s v → (j : ℕ) → j < 8 → distance w u j ≡ distance w v (j + 8)
later w v u s p h es eu j l = ap (λ (u : List ℤ). distance w u j) (eu ∙ ap (λ (s : ℤ). raised s v) es) ∙ raised-distance w v j p h l

-- put back
again : (v u x : List ℤ) (s t : ℤ) → x ≡ lowered t u → t ≡ s → u ≡ raised s v → length v ≡ 8 → ((i : ℕ) → i < 8 → SFits w32 (get_or v i (pos 0))) → x ≡ v
again v u x s t ex et eu l f = ex ∙ ap (λ (t : ℤ). lowered t u) et ∙ ap (lowered s) eu ∙ raised-lowered s v l f

pub returns-then-even-r : goal.returns-then-even-r
returns-then-even-r c =
    let b = c.best_even-even.ensures.best in
    record {
      number = sym (sure c.args.width.bits c.args.octet.now c.best_even-even.result.number.value c.told-octet (omega (arith, b.below))
          (omega (arith, b.value, c.if-even-r.true, ap (λ (x : ℕ). x * x) c.radius-r.ensures.value)));
      kept = refl;
    }

pub returns-then-odd-even : goal.returns-then-odd-even
returns-then-odd-even c =
    let w : ℕ = c.args.width.bits in
    let e : to_z w32 c.radius-r.result ≡ pos (radius c.args.width.bits) = omega (arith, ints, c.radius-r.ensures.value) in
    let n = c.new-guard.ensures.lent in
    let k : c.drop-guard.new.self.0 ≡ c.args.octet.now = again c.args.octet.now _ _ _ _ c.drop-guard.ensures c.new-guard.ensures.by c.new-guard.ensures.held c.told-octet c.new-guard.ensures.fits in
    record {
      number = nearest_of w c.args.octet.now _ _
          (best_second _ _ _ _ _ _ (later w c.args.octet.now _ _ (omega arith) (omega arith) e c.new-guard.ensures.held) c.best_even-even.ensures.best c.best_even-odd.ensures.best (omega (arith, c.if-odd-even.true)));
      kept = grind (arith, n, k);
    }

pub returns : goal.returns
returns c =
    let w : ℕ = c.args.width.bits in
    let e : to_z w32 c.radius-r.result ≡ pos (radius c.args.width.bits) = omega (arith, ints, c.radius-r.ensures.value) in
    let n = c.new-guard.ensures.lent in
    let k : c.drop-guard-2.new.self.0 ≡ c.args.octet.now = again c.args.octet.now _ _ _ _ c.drop-guard-2.ensures c.new-guard.ensures.by c.new-guard.ensures.held c.told-octet c.new-guard.ensures.fits in
    record {
      number = nearest_of w c.args.octet.now _ _
          (best_first _ _ _ _ _ _ (later w c.args.octet.now _ _ (omega arith) (omega arith) e c.new-guard.ensures.held) c.best_even-even.ensures.best c.best_even-odd.ensures.best (omega (arith, c.if-odd-even.false)));
      kept = grind (arith, n, k);
    }
