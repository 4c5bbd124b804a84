-- The first places of a row: of a buffer that was written into, of a secret, and of residues.
use Rattle.std.proofs.Common.{◌≡◌, ℕ, zero, suc, ◌<◌, ◌≤◌, true, ltb, List, [], ◌∷◌, length, take, ℤ, pos, ◌+ℤ◌, refl, ap, ◌∙◌, arith}
use Rattle.std.proofs.lemmas.List.{take-map}
use Rattle.std.proofs.lemmas.Bool.{and_from, and_parts, lt-ltb}
use Rattle.ring.specs.Engines.{all_below}
use Rattle.ring.specs.Wholes.{residue}
use Rattle.ring.proofs.WholeProducts.{residue-below}
use Rattle.wrapping.specs.Buffers.{over}
use Rattle.wrapping.specs.Secrets.{secret, reduced_row}

-- a row written into a longer buffer is its first places
pub take-over : {X : Type 0} (new old : List X) (n : ℕ) → length new ≡ n → n ≤ length old → take n (over new old) ≡ new
unfolding over
take-over [] old zero l h = refl
take-over [] old (suc n) l h = absurd (omega arith)
take-over (x ∷ new) [] n l h = absurd (omega arith)
take-over (x ∷ new) (y ∷ old) zero l h = absurd (omega arith)
take-over {X} (x ∷ new) (y ∷ old) (suc n) l h = ap {B = List X} (λ w. x ∷ w) (take-over new old n (omega arith) (omega arith))

-- the secret of the first places
pub take-secret : (n : ℕ) (f : List ℤ) → take n (secret f) ≡ secret (take n f)
unfolding secret
take-secret zero f = refl
take-secret (suc n) [] = refl
take-secret (suc n) (z ∷ zs) = ap {B = List ℤ} (λ w. (z +ℤ z +ℤ pos 1) ∷ w) (take-map (λ y. y +ℤ y) n zs)

-- the residues of the first places of a secret
pub take-reduced : (m n : ℕ) (f : List ℤ) → take n (reduced_row m (secret f)) ≡ reduced_row m (secret (take n f))
take-reduced m n f = take-map (residue m) n (secret f) ∙ ap (reduced_row m) (take-secret n f)

-- residues are below their modulus
pub reduced-all_below : (m : ℕ) (zs : List ℤ) → 0 < m → all_below m (reduced_row m zs) ≡ true
reduced-all_below m [] h = refl
reduced-all_below m (z ∷ zs) h = and_from (ltb (residue m z) m) (all_below m (reduced_row m zs)) (lt-ltb _ _ (residue-below m h z)) (reduced-all_below m zs h)

-- and so are the first of them
pub take_all-below : (m n : ℕ) (xs : List ℕ) → all_below m xs ≡ true → all_below m (take n xs) ≡ true
take_all-below m zero xs t = refl
take_all-below m (suc n) [] t = refl
take_all-below m (suc n) (x ∷ xs) t =
    let p = and_parts (ltb x m) (all_below m xs) t in
    and_from (ltb x m) (all_below m (take n xs)) p.0 (take_all-below m n xs p.1)
