-- Products with the secret polynomial, which is 1 and twice another.
use Rattle.std.proofs.Common.{◌≡◌, ℕ, suc, ◌-◌, ◌^◌, ◌<◌, List, [], ◌∷◌, map, length, ℤ, pos, ◌+ℤ◌, ◌*ℤ◌, sym, refl, ap, ◌∙◌, subst, ap₂, arith}
use Rattle.std.proofs.lemmas.List.{length-map}
use Rattle.std.proofs.lemmas.Int.{ints}
use Rattle.ring.specs.Rows.{plus, times, zeros, product, unit}
use Rattle.ring.specs.Integers.{integers}
use Rattle.ring.proofs.RowLaws.{length-times, plus_comm, times-plus, times-times}
use Rattle.ring.proofs.Products.{length-product, product-plus, product-times, product-unit, length-unit}
use Rattle.code.specs.Widths.{radius}
use Rattle.code.specs.Rows.{Alike, whole}
use Rattle.code.proofs.FoldLaws.{radius_twice}
use Rattle.wrapping.specs.Secrets.{secret}
use Rattle.wrapping.specs.Wraps.{measured}
use Rattle.wrapping.proofs.Alikes.{alike_multiple}

pub length-secret : (f' : List ℤ) → length (secret f') ≡ length f'
unfolding secret
length-secret [] = refl
length-secret (z ∷ zs) = ap suc (length-map zs (λ (y : ℤ). y +ℤ y))

pub length-measured : (n : ℕ) (f' : List ℤ) (c : List ℕ) → 0 < n → length f' ≡ n → length (measured n f' c) ≡ n
unfolding measured
length-measured n f' c some l = length-product integers n some (whole c) (secret f') (length-secret f' ∙ l)

doubled : (zs : List ℤ) → map (λ (y : ℤ). y +ℤ y) zs ≡ plus integers (times integers (pos 2) zs) (zeros integers (length zs))
unfolding plus times
doubled [] = refl
doubled (z ∷ zs) = ap₂ {C = List ℤ} ◌∷◌ (omega (arith, ints)) (doubled zs)

pub secret_parts : (n : ℕ) (f' : List ℤ) → 0 < n → length f' ≡ n → secret f' ≡ plus integers (times integers (pos 2) f') (unit integers n)
unfolding secret plus times unit
secret_parts n [] some l = absurd (omega arith)
secret_parts n (z ∷ zs) some l = ap₂ {C = List ℤ} ◌∷◌ (omega (arith, ints)) (doubled zs ∙ ap (λ (m : ℕ). plus integers (times integers (pos 2) zs) (zeros integers m)) less)
  where
    less : length zs ≡ n - 1
    less = omega arith

-- the radius times a row times f agrees with the radius times the row
pub radius-secret : (n w : ℕ) (f' s : List ℤ) → 0 < w → 0 < n → length f' ≡ n → length s ≡ n → Alike (2 ^ w) (times integers (pos (radius w)) (product integers n s (secret f'))) (times integers (pos (radius w)) s)
radius-secret n w f' s hw some lf ls =
    subst (λ (row : List ℤ). Alike (2 ^ w) row (times integers R s)) (sym split)
    (alike_multiple (2 ^ w) (times integers R s) k (length-product integers n some s f' lf ∙ sym (length-times integers R s ∙ ls)))
  where
    R : ℤ
    R = pos (radius w)

    k : List ℤ
    k = product integers n s f'

    twice : R *ℤ pos 2 ≡ pos (2 ^ w)
    twice = omega (arith, ints, radius_twice w hw)

    split : times integers R (product integers n s (secret f')) ≡ plus integers (times integers R s) (times integers (pos (2 ^ w)) k)
    split =
        ap (λ (row : List ℤ). times integers R (product integers n s row)) (secret_parts n f' some lf)
        ∙ ap (times integers R) (product-plus integers n some s (times integers (pos 2) f') (unit integers n) (length-times integers (pos 2) f' ∙ lf) (length-unit integers n some)
        ∙ ap₂ (plus integers) (product-times integers n some s (pos 2) f') (product-unit integers n some s ls))
        ∙ times-plus integers R (times integers (pos 2) k) s
        ∙ plus_comm integers (times integers R (times integers (pos 2) k)) (times integers R s)
        ∙ ap (plus integers (times integers R s)) (sym (times-times integers R (pos 2) k) ∙ ap (λ (x : ℤ). times integers x k) twice)
