-- White space is written over byte by byte.
use Rattle.std.proofs.Common.{◌≡◌, ℕ, suc, ◌+◌, ◌-◌, ◌<◌, ◌≤◌, true, false, cond, List, ◌∷◌, [], ◌++◌, length, get_or, take, drop, set, ◌==◌, sym, refl, ap, ◌∙◌, subst, arith, add-one, append_assoc, append-nil, take_all, drop_of_length-le, drop-cons, length-set}
use Rattle.std.proofs.Math.Seq.{take-suc, take-suc-set}
use Rattle.std.proofs.lemmas.List.{drop-set-lt}
use Rattle.std.proofs.lemmas.Bool.Decides.{nat_tests}
use Rattle.reading.specs.Spaces.{white_front, spaced}

-- the bytes before i are done
pub record Going (old text : List ℕ) (i left : ℕ) : Type 0 where
  pub long : length text ≡ length old
  pub rest : drop i text ≡ drop i old
  pub done : spaced 0 old ≡ take i text ++ spaced left (drop i old)

pub going_starts : (text : List ℕ) → Going text text 0 0
going_starts text = record { long = refl; rest = refl; done = refl }

pub going_ends : (old text : List ℕ) (i left : ℕ) → length old ≤ i → Going old text i left → text ≡ spaced 0 old
unfolding spaced
going_ends old text i left all g =
    let none : drop i old ≡ [] = drop_of_length-le old {i = i} all in
    let whole : take i text ≡ text = take_all i text (omega (arith, g.long)) in
    sym (g.done ∙ ap (λ r. take i text ++ spaced left r) none ∙ append-nil (take i text) ∙ whole)

module _ (old text : List ℕ) (i left : ℕ) (within : i < length old) (g : Going old text i left) where
  inside : i < length text
  inside = omega (arith, g.long)

  -- what comes after the byte at i, and that byte
  same : get_or text i 0 ∷ drop (suc i) text ≡ get_or old i 0 ∷ drop (suc i) old
  same = sym (drop-cons text i 0 inside) ∙ g.rest ∙ drop-cons old i 0 within

  tails : drop (suc i) text ≡ drop (suc i) old
  tails = let e = same in cc

  heads : get_or text i 0 ≡ get_or old i 0
  heads = let e = same in cc

  split : spaced left (drop i old) ≡ cond (white_front left (drop i old) == 0) (get_or old i 0) 32 ∷ spaced (white_front left (drop i old) - 1) (drop (suc i) old)
  unfolding spaced
  split = rw (drop-cons old i 0 within) refl

  split_as : (white : ℕ) → white ≡ white_front left (drop i text) → spaced left (drop i old) ≡ cond (white == 0) (get_or old i 0) 32 ∷ spaced (white - 1) (drop (suc i) old)
  split_as white w =
      split ∙ ap (λ v. cond (v == 0) (get_or old i 0) 32 ∷ spaced (v - 1) (drop (suc i) old)) (sym (w ∙ ap (white_front left) g.rest))

  one_more : (after : List ℕ) (byte left' : ℕ) → length after ≡ length text → drop (suc i) after ≡ drop (suc i) text
      → take (suc i) after ≡ take i text ++ (byte ∷ []) → spaced left (drop i old) ≡ byte ∷ spaced left' (drop (suc i) old)
      → Going old after (i + 1) left'
  one_more after byte left' l d t s =
      let P : ℕ → Type 0 = λ k. Going old after k left' in
      subst P (sym (add-one i)) (record {
        long = l ∙ g.long;
        rest = d ∙ tails;
        done = g.done ∙ ap (λ r. take i text ++ r) s ∙ sym (append_assoc (take i text) (byte ∷ []) (spaced left' (drop (suc i) old)))
            ∙ ap (λ f. f ++ spaced left' (drop (suc i) old)) (sym t);
      })

  -- the same of what the code has
  turned_to : (after made : List ℕ) (next left' : ℕ) → after ≡ made → next ≡ left' → Going old made (i + 1) left' → Going old after (i + 1) next
  turned_to after made next left' e n going =
      let P : ℕ → Type 0 = λ k. Going old after (i + 1) k in
      let Q : List ℕ → Type 0 = λ xs. Going old xs (i + 1) left' in
      subst P (sym n) (subst Q (sym e) going)

  -- a byte that is no white space is kept
  pub going_kept : (white next : ℕ) (after : List ℕ) → white ≡ white_front left (drop i text) → white ≤ 0 → after ≡ text → next ≡ white - 1 → Going old after (i + 1) next
  going_kept white next after w none e n =
      let no : (white == 0) ≡ true = grind (arith, nat_tests) in
      turned_to after text next (white - 1) e n
      (one_more text (get_or old i 0) (white - 1) refl refl (take-suc text i 0 inside ∙ ap (λ b. take i text ++ (b ∷ [])) heads)
      (split_as white w ∙ ap (λ b. cond b (get_or old i 0) 32 ∷ spaced (white - 1) (drop (suc i) old)) no))

  -- another is a space now
  pub going_blank : (white next : ℕ) (after : List ℕ) → white ≡ white_front left (drop i text) → 0 < white → after ≡ set text i 32 → next ≡ white - 1 → Going old after (i + 1) next
  going_blank white next after w some e n =
      let yes : (white == 0) ≡ false = grind (arith, nat_tests) in
      turned_to after (set text i 32) next (white - 1) e n
      (one_more (set text i 32) 32 (white - 1) (length-set text i 32) (drop-set-lt (suc i) text i 32 (omega arith)) (take-suc-set text i 32 inside)
      (split_as white w ∙ ap (λ b. cond b (get_or old i 0) 32 ∷ spaced (white - 1) (drop (suc i) old)) yes))
