-- Lists of digits and the numbers that they stand for determine each other.
use Rattle.std.proofs.Common.{◌≡◌, ℕ, zero, suc, ◌+◌, ◌*◌, ◌/◌, ◌%◌, ◌^◌, ◌<◌, true, List, [], ◌∷◌, length, refl, ap, ◌∙◌, ap₂, mod-lt, mod-eq_of_lt, mul-le-mul_left, arith}
use native.Mathlib.Nat.{mod-add-div, pow-succ', pow-zero, div-eq_of_lt, add-mul-div_left, add-mul-mod_self_left}
use Rattle.std.proofs.lemmas.Nat.{div_below}
use Rattle.std.proofs.lemmas.Bool.{ltb-true, lt-ltb, and_parts, and_from}
use Rattle.ring.specs.Engines.{all_below}
use Rattle.packing.specs.Digits.{value, digits}

pub length_digits : (b count v : ℕ) → length (digits b count v) ≡ count
unfolding digits
length_digits b zero v = refl
length_digits b (suc count) v = ap suc (length_digits b count (v / b))

pub digits-below : (b count v : ℕ) → 0 < b → all_below b (digits b count v) ≡ true
unfolding digits
digits-below b zero v some = refl
digits-below b (suc count) v some = and_from _ _ (lt-ltb _ _ (mod-lt v some)) (digits-below b count (v / b) some)

pub value_lt : (b : ℕ) (xs : List ℕ) → all_below b xs ≡ true → value b xs < b ^ length xs
unfolding value
value_lt b [] low = rw pow-zero (omega arith)
value_lt b (x ∷ xs) low =
    let parts = and_parts _ _ low in
    let here = ltb-true x b parts.0 in
    let above = mul-le-mul_left b (value_lt b xs parts.1) in
    omega (arith, here, above, pow-succ' b (length xs))

pub digits_value : (b : ℕ) (xs : List ℕ) → all_below b xs ≡ true → digits b (length xs) (value b xs) ≡ xs
unfolding value digits
digits_value b [] low = refl
digits_value b (x ∷ xs) low =
    let parts = and_parts _ _ low in
    let here = ltb-true x b parts.0 in
    let some : 0 < b = omega (arith, here) in
    let v = value b xs in
    let rest : (x + b * v) / b ≡ v = add-mul-div_left x v some ∙ omega (arith, div-eq_of_lt here) in
    ap₂ (λ y ys. y ∷ ys) (add-mul-mod_self_left x b v ∙ mod-eq_of_lt here) (ap (digits b (length xs)) rest ∙ digits_value b xs parts.1)

pub value-digits : (b count v : ℕ) → 0 < b → v < b ^ count → value b (digits b count v) ≡ v
unfolding value digits
value-digits b zero v some small = let z = pow-zero b in omega arith
value-digits b (suc count) v some small =
    let less : v / b < b ^ count = div_below v b (b ^ count) some (omega (arith, pow-succ' b count)) in
    ap (λ q. v % b + b * q) (value-digits b count (v / b) some less) ∙ mod-add-div v b
