-- Where the first line of a text ends, by the place of its first line feed.
use Rattle.std.proofs.Common.{◌≡◌, ℕ, suc, ◌+◌, ◌<◌, ◌≤◌, Bool, true, false, not, cond, eqb, ◌==◌, List, [], ◌∷◌, length, take, drop, position, Some, None, sym, refl, ap, ◌∙◌, one-add, take_all, arith, Bor}
use Rattle.std.proofs.lemmas.Bool.Decides.{nat_tests}
use Rattle.std.proofs.lemmas.List.{drop_all}
use Rattle.std.specs.List.{position_or_len}
use Rattle.session.specs.Texts.{Taken, first_line, lines_after}

-- whether a byte is a line feed
abbrev pub feed : ℕ → Bool
feed b = b == 10

line_is : (text : List ℕ) → first_line text ≡ take (position_or_len feed text) text
line_is [] = refl
line_is (b ∷ text) = elim (eqb b 10) as (λ t. cond t [] (b ∷ first_line text) ≡ take (cond (not t) (1 + position_or_len feed text) 0) (b ∷ text))
    [ true ↦ refl | false ↦ rw one-add (ap (λ (r : List ℕ). b ∷ r) (line_is text)) ]

lines_are : (text : List ℕ) → lines_after text ≡ drop (position_or_len feed text + 1) text
lines_are [] = refl
lines_are (b ∷ text) = elim (eqb b 10) as (λ t. cond t text (lines_after text) ≡ drop (cond (not t) (1 + position_or_len feed text) 0 + 1) (b ∷ text)) [
  | true ↦ refl
  | false ↦
      let n = position_or_len feed text in
      lines_are text ∙ ap (λ k. drop k (b ∷ text)) (let e : suc (n + 1) ≡ 1 + n + 1 = omega arith in e)
]

taken : (text : List ℕ) (line : Bor (List ℕ)) (after : List ℕ) → 0 < length text → line.now ≡ first_line text → after ≡ lines_after text → Taken text (Some line) after
taken [] line after more l a = absurd (omega (arith, more))
taken (b ∷ text) line after more l a = (l, a)

at_feed : (text : List ℕ) (i : ℕ) → position feed text ≡ Some i → position_or_len feed text ≡ i
at_feed text i e = grind (arith, nat_tests)

no_feed : (text : List ℕ) → position feed text ≡ None → length text ≤ position_or_len feed text
no_feed text e = grind (arith, nat_tests)

-- a line ends at the first line feed
pub broken : (text : List ℕ) (line : Bor (List ℕ)) (after : List ℕ) (i : ℕ) → 0 < length text → position feed text ≡ Some i
    → line.now ≡ take i text → after ≡ drop (i + 1) text → Taken text (Some line) after
broken text line after i more e l a =
    let at = at_feed text i e in
    taken text line after more (l ∙ sym (line_is text ∙ ap (λ k. take k text) at)) (a ∙ sym (lines_are text ∙ ap (λ k. drop (k + 1) text) at))

-- the last line has none
pub whole : (text : List ℕ) (line : Bor (List ℕ)) (after : List ℕ) → 0 < length text → position feed text ≡ None
    → line.now ≡ text → after ≡ [] → Taken text (Some line) after
whole text line after more e l a =
    let past = no_feed text e in
    taken text line after more (l ∙ sym (line_is text ∙ take_all (position_or_len feed text) text past)) (a ∙ sym (lines_are text ∙ drop_all (position_or_len feed text + 1) text (omega arith)))
