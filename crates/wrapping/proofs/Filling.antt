-- A row written into a buffer place by place, and what the buffer holds at the end.
use Rattle.std.proofs.Common.{◌≡◌, ℕ, zero, suc, ◌+◌, ◌<◌, ◌≤◌, min, List, [], ◌∷◌, ◌++◌, map, length, get_or, drop, set, sym, refl, ap, ◌∙◌, arith}
use lib.ListN.{length-map, get_or-map}
use Rattle.std.proofs.lemmas.List.{get_or_default, length_push}
use Rattle.ring.proofs.Fronts.{Turn}
use Rattle.ring.proofs.Mixed.{mixed, mixed_read, mixed-set}
use Rattle.wrapping.specs.Buffers.{over}

module _ {X : Type 0} where
  -- one place more is written
  written-more : (new old buffer : List X) (i : ℕ) (x d : X) → i < length new → buffer ≡ mixed i new old → x ≡ get_or new i d
      → set buffer i x ≡ mixed (i + 1) new old
  written-more new old buffer i x d within so_far x-is =
      ap (λ w. set w i x) so_far ∙ mixed-set i new old x within (x-is ∙ get_or_default new i d x within)

  -- the next place of the buffer is still what it was
  pub unwritten : (new old buffer : List X) (i : ℕ) (d : X) → buffer ≡ mixed i new old → get_or buffer i d ≡ get_or old i d
  unwritten new old buffer i d so_far = ap (λ w. get_or w i d) so_far ∙ mixed_read i new old d

  -- a turn over the front of a row writes one place more
  pub front_more : {Y P : Type 0} (new old buffer : List X) (row : List Y) (n : ℕ) (turns : List P) (p : P) (i : ℕ) (y : Y) (x d : X) → Turn row n (length turns) i y
      → i < length new → buffer ≡ mixed (length turns) new old → x ≡ get_or new i d
      → set buffer i x ≡ mixed (length (turns ++ (p ∷ []))) new old
  front_more new old buffer row n turns p i y x d t within so_far x-is =
      written-more new old buffer i x d within (so_far ∙ ap (λ k. mixed k new old) (sym t.place)) x-is
      ∙ ap (λ k. mixed k new old) (omega (arith, t.place, length_push turns p))

  -- the same where it writes what f makes of the place of the row
  pub front_mapped : {Y P : Type 0} (f : Y → X) (old buffer : List X) (row : List Y) (n : ℕ) (turns : List P) (p : P) (i : ℕ) (y : Y) (x : X) (d : Y) → Turn row n (length turns) i y
      → buffer ≡ mixed (length turns) (map f row) old → x ≡ f y
      → set buffer i x ≡ mixed (length (turns ++ (p ∷ []))) (map f row) old
  front_mapped f old buffer row n turns p i y x d t so_far x-is =
      front_more (map f row) old buffer row n turns p i y x (f d) t (omega (arith, t.inside, length-map row f)) so_far
      (x-is ∙ ap f (t.holds ∙ get_or_default row i y d t.inside) ∙ sym (get_or-map f row i d))

  -- the rest of the buffer is as the row has it
  pub written_all : (new old : List X) (i : ℕ) → length new ≡ length old → drop i new ≡ drop i old → mixed i new old ≡ new
  unfolding mixed
  written_all new old zero l h = sym h
  written_all [] [] (suc i) l h = refl
  written_all [] (y ∷ old) (suc i) l h = absurd (omega arith)
  written_all (x ∷ new) [] (suc i) l h = absurd (omega arith)
  written_all (x ∷ new) (y ∷ old) (suc i) l h = ap {B = List X} (λ w. x ∷ w) (written_all new old i (omega arith) h)

  -- the buffer is written where one of the two ends
  pub over_done : (new old : List X) (i : ℕ) → min (length old) (length new) ≤ i → mixed i new old ≡ over new old
  unfolding mixed over
  over_done [] old zero h = refl
  over_done [] old (suc i) h = refl
  over_done (x ∷ new) [] zero h = refl
  over_done (x ∷ new) [] (suc i) h = refl
  over_done (x ∷ new) (y ∷ old) zero h = absurd (omega arith)
  over_done (x ∷ new) (y ∷ old) (suc i) h = ap {B = List X} (λ w. x ∷ w) (over_done new old i (omega arith))

  -- a row as long as the buffer takes its place
  pub over-whole : (new old : List X) → length new ≡ length old → over new old ≡ new
  unfolding over
  over-whole [] [] h = refl
  over-whole [] (y ∷ old) h = absurd (omega arith)
  over-whole (x ∷ new) [] h = absurd (omega arith)
  over-whole (x ∷ new) (y ∷ old) h = ap {B = List X} (λ w. x ∷ w) (over-whole new old (omega arith))

  pub length_over : (new old : List X) → length (over new old) ≡ length old
  unfolding over
  length_over [] old = refl
  length_over (x ∷ new) [] = refl
  length_over (x ∷ new) (y ∷ old) = ap suc (length_over new old)
