-- The greatest of finitely many numbers, and the farthest octet.
use Rattle.std.proofs.Common.{◌≡◌, ℕ, zero, suc, ◌+◌, ◌/◌, ◌<◌, ◌≤◌, max, List, [], ◌∷◌, map, length, ℤ, refl, ap, ◌∙◌, subst, ap₂, inl, inr, arith}
use Rattle.std.specs.List.{range_with_len, fold, reduce}
use Rattle.std.specs.Option.{unwrap_or}
use Rattle.std.proofs.lemmas.List.FromFn.{map-range_with_len_more}
use Rattle.std.proofs.lemmas.List.Sums.{fold-append}
use Rattle.std.proofs.lemmas.Bool.{cases_eq, cases_lt}
use Rattle.code.specs.Distances.{distance}
use Rattle.code.specs.Messages.{number}
use Rattle.code.specs.Rows.{octet, greatest, farthest}

-- ---- as the greatest of a list, 0 for none
greatest-fold : (f : ℕ → ℕ) (n : ℕ) → fold max 0 (map f (range_with_len 0 n)) ≡ greatest f n
unfolding greatest
greatest-fold f zero = refl
greatest-fold f (suc n) =
    ap (fold max 0) (ap (λ (k : ℕ). map f (range_with_len 0 k)) next ∙ map-range_with_len_more f 0 n n (omega arith))
    ∙ fold-append max 0 (map f (range_with_len 0 n)) (f n ∷ [])
    ∙ ap (λ (g : ℕ). max g (f n)) (greatest-fold f n)
  where
    next : suc n ≡ n + 1
    next = omega arith

or_zero : (xs : List ℕ) → unwrap_or (reduce max xs) 0 ≡ fold max 0 xs
or_zero [] = refl
or_zero (x ∷ xs) = ap (λ (y : ℕ). fold max y xs) above
  where
    above : x ≡ max 0 x
    above = omega arith

pub greatest_or_zero : (f : ℕ → ℕ) (n : ℕ) → unwrap_or (reduce max (map f (range_with_len 0 n))) 0 ≡ greatest f n
greatest_or_zero f n = or_zero (map f (range_with_len 0 n)) ∙ greatest-fold f n

pub greatest-same : (f g : ℕ → ℕ) (n : ℕ) → ((i : ℕ) → f i ≡ g i) → greatest f n ≡ greatest g n
unfolding greatest
greatest-same f g zero e = refl
greatest-same f g (suc n) e = ap₂ max (greatest-same f g n e) (e n)

-- each is at most the greatest
pub greatest-above : (f : ℕ → ℕ) (n i : ℕ) → i < n → f i ≤ greatest f n
unfolding greatest
greatest-above f zero i h = absurd (omega arith)
greatest-above f (suc n) i h = elim (cases_eq i n) [ inl e ↦ omega (arith, ap f e) | inr d ↦ omega (arith, greatest-above f n i (omega arith)) ]

-- what bounds each bounds the greatest
pub greatest-below : (f : ℕ → ℕ) (n b : ℕ) → ((i : ℕ) → i < n → f i ≤ b) → greatest f n ≤ b
unfolding greatest
greatest-below f zero b h = omega arith
greatest-below f (suc n) b h = omega (arith, h n (omega arith), greatest-below f n b (λ i l. h i (omega arith)))

-- one number more
pub greatest-more : (f : ℕ → ℕ) (n d : ℕ) → d ≡ max (greatest f n) (f n) → d ≡ greatest f (n + 1)
unfolding greatest
greatest-more f n d e = e ∙ ap (greatest f) next
  where
    next : suc n ≡ n + 1
    next = omega arith

-- what holds of 0 and of each holds of the greatest
greatest_holds : (P : ℕ → Type 0) (f : ℕ → ℕ) (n : ℕ) → P 0 → ((i : ℕ) → i < n → P (f i)) → P (greatest f n)
unfolding greatest
greatest_holds P f zero z h = z
greatest_holds P f (suc n) z h =
    elim (cases_lt (greatest f n) (f n)) [
      | inl l ↦ subst P (right (greatest f n) (f n) l) (h n (omega arith))
      | inr l ↦ subst P (left (greatest f n) (f n) l) (greatest_holds P f n z (λ i m. h i (omega arith)))
    ]
  where
    right : (x y : ℕ) → x < y → y ≡ max x y
    right x y l = omega arith

    left : (x y : ℕ) → y ≤ x → x ≡ max x y
    left x y l = omega arith

pub farthest_holds : (P : ℕ → Type 0) (w : ℕ) (v : List ℤ) (message : List ℕ) → P 0 → ((i : ℕ) → i < length v / 8 → P (distance w (octet v i) (number message i))) → P (farthest w v message)
unfolding farthest
farthest_holds P w v message z h = greatest_holds P (λ i. distance w (octet v i) (number message i)) (length v / 8) z h

pub farthest-above : (w : ℕ) (v : List ℤ) (message : List ℕ) (i : ℕ) → i < length v / 8 → distance w (octet v i) (number message i) ≤ farthest w v message
unfolding farthest
farthest-above w v message i h = greatest-above (λ i. distance w (octet v i) (number message i)) (length v / 8) i h

pub farthest-below : (w : ℕ) (v : List ℤ) (message : List ℕ) (b : ℕ) → ((i : ℕ) → i < length v / 8 → distance w (octet v i) (number message i) ≤ b) → farthest w v message ≤ b
unfolding farthest
farthest-below w v message b h = greatest-below (λ i. distance w (octet v i) (number message i)) (length v / 8) b h
