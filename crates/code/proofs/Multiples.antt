-- Whole numbers that differ by a multiple of a number.
use Rattle.std.proofs.Common.{◌≡◌, ℕ, ◌+◌, ◌-◌, ◌*◌, ◌/◌, ◌%◌, ◌^◌, ◌<◌, ◌≤◌, ℤ, pos, negsuc, ◌+ℤ◌, ◌-ℤ◌, nat_abs, sym, refl, ap, ◌∙◌, subst, mod-lt, arith, pow-add}
use native.Mathlib.Nat.{div-add-mod}
use Rattle.std.specs.Int.{int_rem_euclid}
use Rattle.std.proofs.lemmas.Int.{ints}
use Rattle.code.specs.Folds.{Same}

pub same_refl : (n : ℕ) (a : ℤ) → Same n a a
same_refl n a = record { here = 0; there = 0; tie = refl }

pub same-sym : (n : ℕ) (a b : ℤ) → Same n a b → Same n b a
same-sym n a b s = record { here = s.there; there = s.here; tie = sym s.tie }

pub same_trans : (n : ℕ) (a b c : ℤ) → Same n a b → Same n b c → Same n a c
same_trans n a b c s t = record { here = s.here + t.here; there = s.there + t.there; tie = omega (arith, ints, s.tie, t.tie) }

pub same_add : (n : ℕ) (a b c d : ℤ) → Same n a b → Same n c d → Same n (a +ℤ c) (b +ℤ d)
same_add n a b c d s t = record { here = s.here + t.here; there = s.there + t.there; tie = omega (arith, ints, s.tie, t.tie) }

pub same_sub : (n : ℕ) (a b c d : ℤ) → Same n a b → Same n c d → Same n (a -ℤ c) (b -ℤ d)
same_sub n a b c d s t = record { here = s.here + t.there; there = s.there + t.here; tie = omega (arith, ints, s.tie, t.tie) }

-- one multiple more
pub same_less : (n : ℕ) (a : ℤ) → Same n a (a -ℤ pos n)
same_less n a = record { here = 0; there = 1; tie = omega (arith, ints) }

-- a multiple of m n is one of n
pub same_coarser : (m n : ℕ) (a b : ℤ) → Same (m * n) a b → Same n a b
same_coarser m n a b s = record { here = s.here * m; there = s.there * m; tie = omega (arith, ints, s.tie) }

-- a power of two divides every higher one
pub same_power : (w v : ℕ) (a b : ℤ) → w ≤ v → Same (2 ^ v) a b → Same (2 ^ w) a b
same_power w v a b h s =
    same_coarser (2 ^ (v - w)) (2 ^ w) a b (subst (λ (n : ℕ). Same n a b) (ap (λ (e : ℕ). 2 ^ e) split ∙ pow-add 2 (v - w) w) s)
  where
    split : v ≡ v - w + w
    split = omega arith

-- the remainder
pub same_rest : (n : ℕ) (z : ℤ) → 0 < n → Same n z (pos (nat_abs (int_rem_euclid z (pos n))))
same_rest n (pos a) h = record { here = 0; there = a / n; tie = omega (arith, ints, div-add-mod a n) }
same_rest n (negsuc a) h = record { here = a / n + 1; there = 0; tie = omega (arith, ints, div-add-mod a n, below a) }
  where
    below : (a : ℕ) → a % n < n
    below a = mod-lt a (omega arith)

pub same_mod : (n a b : ℕ) → a % n ≡ b % n → Same n (pos a) (pos b)
same_mod n a b e = record { here = b / n; there = a / n; tie = omega (arith, ints, div-add-mod a n, div-add-mod b n, e) }
