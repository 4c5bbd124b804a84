-- The sixteen words: computed tests, and what follows from them for every number below 16.
use Rattle.std.proofs.Common.{◌≡◌, ℕ, ◌+◌, ◌-◌, ◌/◌, ◌^◌, ◌<◌, ◌≤◌, Bool, true, cond, ◌&&◌, ◌||◌, eqb, ltb, leb, ◌⊎◌, List, [], ◌∷◌, map, length, get_or, refl, inl, inr}
use lib.Bits.{bit_and, bit_xor}
use lib.Count.{ones}
use Rattle.std.specs.List.{range_with_len}
use Rattle.std.proofs.lemmas.Bool.{or_cases, eqb-true, leb-true}
use Rattle.code.specs.Words.{word, mask, binary_sum, TableRule}
use Rattle.code.proofs.Computed.{all, at, at_both, equal, equal-true}

-- in how many positions two words differ
abbrev pub differ : List ℕ → List ℕ → ℕ
differ [] bs = 0
differ (a ∷ xs) [] = 0
differ (a ∷ xs) (b ∷ bs) = cond (eqb a b) 0 1 + differ xs bs

-- each is 0 or 1
abbrev pub binary : List ℕ → Bool
binary [] = true
binary (b ∷ bs) = ltb b 2 && binary bs

-- the bits of the odd positions turned
abbrev pub turned : List ℕ → List ℕ
turned [] = []
turned (b ∷ []) = b ∷ []
turned (a ∷ b ∷ bs) = a ∷ (1 - b) ∷ turned bs

-- each position of the even places twice
abbrev pub paired : List ℕ → List ℕ
paired [] = []
paired (b ∷ []) = b ∷ []
paired (a ∷ b ∷ bs) = a ∷ a ∷ paired bs

pub word-length : (k : ℕ) → k < 16 → length (word k) ≡ 8
unfolding word
word-length k h = eqb-true (length (word k)) 8 (at 16 (λ k. eqb (length (word k)) 8) refl k h)

pub word-binary : (k : ℕ) → k < 16 → binary (word k) ≡ true
unfolding word
word-binary k h = at 16 (λ k. binary (word k)) refl k h

-- two words differ in at least four positions
pub word_far : (j k : ℕ) → j < 16 → k < 16 → (j ≡ k → ⊥) → 4 ≤ differ (word j) (word k)
unfolding word
word_far j k hj hk n =
    elim (or_cases (eqb j k) (leb 4 (differ (word j) (word k))) (at_both 16 (λ j k. eqb j k || leb 4 (differ (word j) (word k))) refl j k hj hk)) [
      | inl e ↦ absurd (n (eqb-true j k e))
      | inr e ↦ leb-true 4 (differ (word j) (word k)) e
    ]

-- the sum of two words is the word of the exclusive-or
pub word_xor : (j k : ℕ) → j < 16 → k < 16 → binary_sum (word j) (word k) ≡ word (bit_xor j k)
unfolding word
word_xor j k hj hk =
    equal-true (binary_sum (word j) (word k)) (word (bit_xor j k)) (at_both 16 (λ j k. equal (binary_sum (word j) (word k)) (word (bit_xor j k))) refl j k hj hk)

-- the words 0 to 7 have equal bits in each pair, and the words 8 to 15 are these with the odd positions turned
pub word-paired : (k : ℕ) → k < 8 → word k ≡ paired (word k)
unfolding word
word-paired k h = equal-true (word k) (paired (word k)) (at 8 (λ k. equal (word k) (paired (word k))) refl k h)

pub word-turned : (k : ℕ) → k < 8 → word (k + 8) ≡ turned (word k)
unfolding word
word-turned k h = equal-true (word (k + 8)) (turned (word k)) (at 8 (λ k. equal (word (k + 8)) (turned (word k))) refl k h)

-- ---- the rule of a table of masks, by tests over the table
abbrev pub right : List ℕ → ℕ → Bool
right table k = eqb (get_or table k 0) (mask (word k))

abbrev pub closed : List ℕ → ℕ → ℕ → Bool
closed table j k = eqb (bit_xor (get_or table j 0) (get_or table k 0)) (get_or table (bit_xor j k) 0)

abbrev pub spread : List ℕ → ℕ → ℕ → Bool
spread table j k = eqb j k || (eqb (ones (bit_xor (get_or table j 0) (get_or table k 0))) 4 || eqb (ones (bit_xor (get_or table j 0) (get_or table k 0))) 8)

pub table_rule : (table : List ℕ) → all 16 (right table) ≡ true → all 16 (λ j. all 16 (closed table j)) ≡ true → all 16 (λ j. all 16 (spread table j)) ≡ true → TableRule table
table_rule table r c s = record {
  rows = λ k h. eqb-true (get_or table k 0) (mask (word k)) (at 16 (right table) r k h);
  sums = λ j k hj hk. eqb-true (bit_xor (get_or table j 0) (get_or table k 0)) (get_or table (bit_xor j k) 0) (at_both 16 (closed table) c j k hj hk);
  apart = λ j k hj hk n. apart j k (ones (bit_xor (get_or table j 0) (get_or table k 0))) (at_both 16 (spread table) s j k hj hk) n;
}
  where
    apart : (j k d : ℕ) → (eqb j k || (eqb d 4 || eqb d 8)) ≡ true → (j ≡ k → ⊥) → (d ≡ 4) ⊎ (d ≡ 8)
    apart j k d t n =
        elim (or_cases (eqb j k) (eqb d 4 || eqb d 8) t) [
          | inl e ↦ absurd (n (eqb-true j k e))
          | inr e ↦ elim (or_cases (eqb d 4) (eqb d 8) e) [ inl f ↦ inl (eqb-true d 4 f) | inr f ↦ inr (eqb-true d 8 f) ]
        ]

-- the bits of a mask, from the lowest
abbrev pub unpacked : ℕ → List ℕ
unpacked m = map (λ i. bit_and (m / 2 ^ i) 1) (range_with_len 0 8)

pub unpacked-mask : (k : ℕ) → k < 16 → unpacked (mask (word k)) ≡ word k
unfolding word
unpacked-mask k h = equal-true (unpacked (mask (word k))) (word k) (at 16 (λ k. equal (unpacked (mask (word k))) (word k)) refl k h)
