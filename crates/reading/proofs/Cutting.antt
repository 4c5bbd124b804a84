-- A text is cut at its first byte that separates, and its parts are the first one and those of what follows.
use Rattle.std.proofs.Common.{◌≡◌, ℕ, suc, ◌+◌, Bool, true, false, not, cond, ltb, List, [], ◌∷◌, length, take, drop, position, Some, None, Option, refl, ap, ◌∙◌, add-one, arith}
use Rattle.std.proofs.Math.Numerals.{one-add}
use Rattle.std.proofs.lemmas.Bool.{lt-ltb}
use Rattle.std.proofs.lemmas.Bool.Decides.{nat_tests}
use Rattle.std.specs.List.{position_or_len}
use Rattle.std.specs.Option.{option_map}
use Rattle.reading.specs.Cuts.{in_front, split_at, onto, parts_of}

below_next : (n m : ℕ) → ltb (1 + n) (suc m) ≡ ltb n m
below_next n m = grind (arith, nat_tests)

module _ (p : ℕ → Bool) where
  -- the parts before and after a place
  abbrev around : List ℕ → ℕ → List ℕ × List ℕ
  around text i = (take i text, drop (i + 1) text)

  further : (byte : ℕ) (text : List ℕ) (n : ℕ) (b : Bool)
      → option_map (in_front byte) (option_map (around text) (cond b (Some n) None)) ≡ option_map (around (byte ∷ text)) (cond b (Some (1 + n)) None)
  further byte text n true = rw (one-add n, add-one n, add-one (suc n)) refl
  further byte text n false = refl

  -- cut at the first byte that separates
  pub split_first : (text : List ℕ) → split_at p text ≡ option_map (around text) (position p text)
  unfolding split_at
  split_first [] = refl
  split_first (byte ∷ text) =
      elim (p byte) as (λ b. cond b (Some ([], text)) (option_map (in_front byte) (split_at p text))
      ≡ (let n = cond (not b) (1 + position_or_len p text) 0 in option_map (around (byte ∷ text)) (cond (ltb n (suc (length text))) (Some n) None))) [
        | true ↦ rw (lt-ltb 0 (suc (length text)) (omega arith)) refl
        | false ↦ ap (option_map (in_front byte)) (split_first text) ∙ rw (below_next (position_or_len p text) (length text)) (further byte text (position_or_len p text) (ltb (position_or_len p text) (length text)))
      ]

  -- the parts of a text that was cut, or was not
  abbrev parts_by : List ℕ → Option (List ℕ × List ℕ) → List (List ℕ)
  parts_by text None = text ∷ []
  parts_by text (Some parts) = parts.0 ∷ parts_of p parts.1

  onto_parts : (byte : ℕ) (text : List ℕ) (o : Option (List ℕ × List ℕ))
      → onto byte (parts_by text o) ≡ parts_by (byte ∷ text) (option_map (in_front byte) o)
  onto_parts byte text None = refl
  onto_parts byte text (Some parts) = refl

  -- the first part comes before those of what follows
  pub parts_split : (text : List ℕ) → parts_of p text ≡ parts_by text (split_at p text)
  unfolding parts_of split_at
  parts_split [] = refl
  parts_split (byte ∷ text) =
      elim (p byte) as (λ b. cond b ([] ∷ parts_of p text) (onto byte (parts_of p text))
      ≡ parts_by (byte ∷ text) (cond b (Some ([], text)) (option_map (in_front byte) (split_at p text)))) [
        | true ↦ refl
        | false ↦ ap (onto byte) (parts_split text) ∙ onto_parts byte text (split_at p text)
      ]
