-- Bits that were loaded and not yet taken: a number p below 2 ^ c, with more digits above it.
use Rattle.std.proofs.Common.{◌≡◌, ℕ, ◌+◌, ◌-◌, ◌*◌, ◌/◌, ◌%◌, ◌^◌, ◌<◌, ◌≤◌, List, ◌∷◌, ap, ◌∙◌, subst, arith}
use native.Mathlib.Nat.{add-mul-div_right, add-mul-mod_self_right}
use lib.Bits.{bit_and}
use Rattle.std.proofs.lemmas.Nat.{pow_pos, pow-add, one_shl, and_mask, mul-add-lt, shr_below}
use Rattle.packing.specs.Digits.{value}

-- the number that p, c bits long, and then digits of w bits make
abbrev pub stream : ℕ → ℕ → ℕ → List ℕ → ℕ
stream p c w xs = p + 2 ^ c * value (2 ^ w) xs

-- a number put above the pending bits
pub above_lt : (p c w x : ℕ) → p < 2 ^ c → x < 2 ^ w → p + x * 2 ^ c < 2 ^ (c + w)
above_lt p c w x low small = omega (arith, mul-add-lt x (2 ^ c) p (2 ^ w) small low, pow-add 2 c w)

-- a mask has the low bits
pub low_bits : (p w : ℕ) → w < 32 → bit_and p ((1 * 2 ^ w) % 2 ^ 32 - 1) ≡ p % 2 ^ w
low_bits p w room = ap (λ m. bit_and p (m - 1)) (one_shl w 32 room) ∙ and_mask p w

-- loading a digit leaves the number as it is
pub loaded : (p c w x q k : ℕ) (xs rest : List ℕ) → xs ≡ x ∷ rest → q ≡ p + x * 2 ^ c → k ≡ c + w → stream q k w rest ≡ stream p c w xs
unfolding value
loaded p c w x q k xs rest e q-is k-is =
    omega (arith, ap (λ v. 2 ^ c * v) (ap (value (2 ^ w)) e), ap (λ q. q * value (2 ^ w) rest) (ap (λ j. 2 ^ j) k-is ∙ pow-add 2 c w), q-is)

-- a power of two in two parts
pub pow_split : (c w : ℕ) → w ≤ c → 2 ^ c ≡ 2 ^ (c - w) * 2 ^ w
pow_split c w fits = ap (λ k. 2 ^ k) (let e : c ≡ (c - w) + w = omega arith in e) ∙ pow-add 2 (c - w) w

split : (p c w v : ℕ) → w ≤ c → p + 2 ^ c * v ≡ p + 2 ^ (c - w) * v * 2 ^ w
split p c w v fits = omega (arith, ap (λ q. q * v) (pow_split c w fits))

-- taking the lowest w bits divides the number
pub rest_is : (p c w v : ℕ) → w ≤ c → (p + 2 ^ c * v) / 2 ^ w ≡ p / 2 ^ w + 2 ^ (c - w) * v
rest_is p c w v fits = ap (λ q. q / 2 ^ w) (split p c w v fits) ∙ add-mul-div_right p (2 ^ (c - w) * v) (pow_pos w)

pub lowest_is : (p c w v : ℕ) → w ≤ c → (p + 2 ^ c * v) % 2 ^ w ≡ p % 2 ^ w
lowest_is p c w v fits = ap (λ q. q % 2 ^ w) (split p c w v fits) ∙ add-mul-mod_self_right p (2 ^ (c - w) * v) (2 ^ w)

pub rest_lt : (p c w : ℕ) → w ≤ c → p < 2 ^ c → p / 2 ^ w < 2 ^ (c - w)
rest_lt p c w fits low = shr_below p (c - w) w (subst (λ k. p < 2 ^ k) (let e : c ≡ (c - w) + w = omega arith in e) low)
