-- Bytes and rows as they are written, from one place to the next.
use Rattle.std.proofs.Common.{◌≡◌, ℕ, ◌+◌, ◌<◌, ◌≤◌, Bool, true, false, cond, eqb, List, [], ◌∷◌, ◌++◌, length, get_or, drop, codes, refl, eq-eqb, ne_eqb}
use Rattle.std.proofs.lemmas.List.{at_drop_more, at_drop_all}
use Rattle.script.specs.Written.{byte_digits, hex_of, term_text, terms, listed}

pub hex_more : (bytes : List ℕ) (i : ℕ) → i < length bytes → hex_of (drop i bytes) ≡ byte_digits (get_or bytes i 0) ++ hex_of (drop (i + 1) bytes)
unfolding hex_of
hex_more bytes i less = at_drop_more hex_of bytes i 0 less

pub hex_done : (bytes : List ℕ) (i : ℕ) → length bytes ≤ i → hex_of (drop i bytes) ≡ []
unfolding hex_of
hex_done bytes i all = at_drop_all hex_of bytes i all

terms_by : (row : List ℕ) (i : ℕ) → i < length row
    → terms i (drop i row) ≡ cond (eqb (get_or row i 0) 0) (terms (i + 1) (drop (i + 1) row)) (term_text i (get_or row i 0) ∷ terms (i + 1) (drop (i + 1) row))
unfolding terms
terms_by row i less = at_drop_more (terms i) row i 0 less

-- a place that is zero has no term
pub listed_skip : (first : Bool) (row : List ℕ) (i : ℕ) → i < length row → get_or row i 0 ≡ 0
    → listed first (terms i (drop i row)) ≡ listed first (terms (i + 1) (drop (i + 1) row))
listed_skip first row i less zero = rw (terms_by row i less, eq-eqb (get_or row i 0) 0 zero)

-- another has one
pub listed_more : (first : Bool) (row : List ℕ) (i : ℕ) → i < length row → (get_or row i 0 ≡ 0 → ⊥)
    → listed first (terms i (drop i row)) ≡ (cond first [] (codes ",") ++ term_text i (get_or row i 0)) ++ listed false (terms (i + 1) (drop (i + 1) row))
unfolding listed
listed_more first row i less some = rw (terms_by row i less, ne_eqb (get_or row i 0) 0 some)

pub listed-done : (first : Bool) (row : List ℕ) (i : ℕ) → length row ≤ i → listed first (terms i (drop i row)) ≡ cond first (codes "-") []
unfolding terms listed
listed-done first row i all = at_drop_all (λ l. listed first (terms i l)) row i all

-- what stands before the next term tells whether it is the first
pub first_yet : (first : Bool) (separator : List ℕ) → separator ≡ cond first [] (codes ",") → eqb (length separator) 0 ≡ first
first_yet true separator e = rw e refl
first_yet false separator e = rw e refl
