-- A text whose parts lack what separates them.
use Rattle.std.proofs.Common.{◌≡◌, ℕ, ◌+◌, ◌%◌, ◌^◌, ◌<◌, Bool, true, false, List, [], ◌∷◌, ◌++◌, Some, None, decimal, refl, arith}
use Rattle.std.proofs.lemmas.Fmt.{decimal_by_steps}
use Rattle.reading.specs.Cuts.{split_at, parts_of}

module _ (p : ℕ → Bool) where
  -- no byte of a text separates
  abbrev pub Lacks : List ℕ → Type 0
  Lacks [] = Unit {0}
  Lacks (byte ∷ text) = (p byte ≡ false) × Lacks text

  pub lacks_append : (xs ys : List ℕ) → Lacks xs → Lacks ys → Lacks (xs ++ ys)
  lacks_append [] ys l m = m
  lacks_append (x ∷ xs) ys l m = (l.0, lacks_append xs ys l.1 m)

  -- a number that is written lacks what is no digit
  pub lacks_decimal : ((d : ℕ) → d < 10 → p (48 + d) ≡ false) → (n : ℕ) → n < 2 ^ 64 → Lacks (decimal n)
  lacks_decimal other n small =
      decimal_by_steps (λ _ text. Lacks text) (λ d low. (other d low, tt))
      (λ m text large l. lacks_append text ((48 + m % 10) ∷ []) l (other (m % 10) (omega arith), tt)) n small

  pub split_lacking : (text : List ℕ) → Lacks text → split_at p text ≡ None
  unfolding split_at
  split_lacking [] l = refl
  split_lacking (byte ∷ text) l = rw (l.0, split_lacking text l.1)

  pub split_cut : (front : List ℕ) (byte : ℕ) (back : List ℕ) → Lacks front → p byte ≡ true → split_at p (front ++ byte ∷ back) ≡ Some (front, back)
  unfolding split_at
  split_cut [] byte back l cut = rw cut
  split_cut (x ∷ front) byte back l cut = rw (l.0, split_cut front byte back l.1 cut)

  pub parts_lacking : (text : List ℕ) → Lacks text → parts_of p text ≡ text ∷ []
  unfolding parts_of
  parts_lacking [] l = refl
  parts_lacking (byte ∷ text) l = rw (l.0, parts_lacking text l.1)

  pub parts_cut : (front : List ℕ) (byte : ℕ) (back : List ℕ) → Lacks front → p byte ≡ true → parts_of p (front ++ byte ∷ back) ≡ front ∷ parts_of p back
  unfolding parts_of
  parts_cut [] byte back l cut = rw cut
  parts_cut (x ∷ front) byte back l cut = rw (l.0, parts_cut front byte back l.1 cut)
