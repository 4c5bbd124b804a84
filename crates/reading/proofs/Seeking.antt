-- The first part that is not empty, and what is left after it.
use Rattle.std.proofs.Common.{◌≡◌, ℕ, ◌<◌, Bool, true, false, List, [], ◌∷◌, length, Option, Some, None, refl, ap, ◌∙◌, arith}
use denote.Param.Members.{Mut}
use Rattle.std.proofs.lemmas.List.{nil_from_length}
use Rattle.std.specs.Borrow.{Bor}
use Rattle.std.specs.Fn.{CalledAt}
use Rattle.std.specs.Iterator.{Yields, YieldsFirstBy, FindsItem}
use Rattle.std.specs.List.{FoldsTo}
use Rattle.std.specs.Option.{option_map}
use Rattle.reading.specs.declared.pieces.Pieces.{Pieces}
use Rattle.reading.specs.Cuts.{pieces_left, first, others}
use Rattle.reading.specs.Lines.{filled}

abbrev Steps : Pieces → Option (Bor (List ℕ)) → Pieces → Type 0
Steps = YieldsFirstBy (λ x. x.now) pieces_left

module _ {F : Type 0} (g : Mut F (Bor (Bor (List ℕ)) × Unit {0}) Bool) where
  -- the parts that were passed over are no words
  passed : ((f : F) (x : Bor (List ℕ)) (q : F) → CalledAt g f x false q → length x.now ≡ 0)
      → (s t : Pieces) (xs : List (Bor (List ℕ))) (f j : F) → Yields Steps s xs t → FoldsTo (λ p x q. CalledAt g p x false q) f xs j
      → filled (pieces_left s) ≡ filled (pieces_left t)
  passed empty s t [] f j y e = ap (λ u. filled (pieces_left u)) y
  passed empty s t (x ∷ xs) f j y e =
      let none : x.now ≡ [] = nil_from_length x.now (empty f x e.0 e.1) in
      let step : pieces_left s ≡ [] ∷ pieces_left y.0 = y.1 ∙ ap (λ part. part ∷ pieces_left y.0) none in
      ap filled step ∙ passed empty y.0 t xs e.0 j y.2 e.2

  -- a part that is not empty is the first word
  kept : (part : List ℕ) (left : List (List ℕ)) → 0 < length part → filled (part ∷ left) ≡ part ∷ filled left
  kept [] left some = absurd (omega arith)
  kept (byte ∷ part) left some = refl

  -- what the search gave is the first word, and the others are left
  pub found : ((f : F) (x : Bor (List ℕ)) (q : F) → CalledAt g f x false q → length x.now ≡ 0) → ((f : F) (x : Bor (List ℕ)) (q : F) → CalledAt g f x true q → 0 < length x.now)
      → (s u : Pieces) (f : F) (r : Option (Bor (List ℕ))) → FindsItem Steps g s f r u
      → (option_map (λ x. x.now) r ≡ first (filled (pieces_left s))) × (filled (pieces_left u) ≡ others (filled (pieces_left s)))
  found empty some s u f None (xs, j, (t, y, last), e, none) =
      let same = passed empty s t xs f j y e in
      rw (same, last.0, last.1) (refl, refl)
  found empty some s u f (Some part) (xs, j, (t, y, last), e, hit) =
      let same = passed empty s t xs f j y e in
      rw (same, last, kept part.now (pieces_left u) (some j part hit.0 hit.1)) (refl, refl)
