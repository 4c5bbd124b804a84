-- Parts of rows: what their first n places are, and that their entries stay below a limit.
use Rattle.std.proofs.Common.{◌≡◌, ℕ, zero, suc, ◌+◌, ◌-◌, ◌%◌, ◌^◌, ◌<◌, ◌≤◌, true, ltb, List, [], ◌∷◌, map, length, take, replicate, sym, refl, ap, ◌∙◌, mod-lt, arith, pow_pos, pow_mono}
use lib.ListN.{length-replicate, length-map}
use Rattle.std.proofs.lemmas.Bool.{and_parts, and_from, lt-ltb}
use Rattle.ring.specs.Engines.{all_below}
use Rattle.packing.proofs.Below.{below_higher}
use Rattle.places.specs.declared.filled.Filled.{Filled}
use Rattle.products.proofs.Fronts.{take_all-below}
use Rattle.products.proofs.Embeddings.{map_below}
use Rattle.wrapping.specs.Buffers.{over}
use Rattle.wrapping.proofs.Filling.{over-whole}
use Rattle.wrapping.specs.Joins.{joined}
use Rattle.wrapping.specs.Trims.{halved, halving}

pub below_cons : (m x : ℕ) (xs : List ℕ) → x < m → all_below m xs ≡ true → all_below m (x ∷ xs) ≡ true
below_cons m x xs h t = and_from (ltb x m) (all_below m xs) (lt-ltb x m h) t

pub joined-below : (w : ℕ) (a b : List ℕ) → all_below (2 ^ w) a ≡ true → all_below (2 ^ w) (joined w a b) ≡ true
unfolding joined
joined-below w [] b t = refl
joined-below w (x ∷ a) [] t = t
joined-below w (x ∷ a) (y ∷ b) t =
    below_cons (2 ^ w) ((x + y) % 2 ^ w) (joined w a b) (mod-lt (x + y) (pow_pos w))
    (joined-below w a b (and_parts (ltb x (2 ^ w)) (all_below (2 ^ w) a) t).1)

pub take-joined : (w n : ℕ) (a b : List ℕ) → take n (joined w a b) ≡ joined w (take n a) (take n b)
unfolding joined
take-joined w zero a b = refl
take-joined w (suc n) [] b = refl
take-joined w (suc n) (x ∷ a) [] = refl
take-joined w (suc n) (x ∷ a) (y ∷ b) = ap {B = List ℕ} (λ r. (x + y) % 2 ^ w ∷ r) (take-joined w n a b)

pub halvings_below : (xs : List ℕ) → all_below 2 (map halving xs) ≡ true
halvings_below xs = map_below 2 halving (λ x. mod-lt x (omega arith)) xs

pub halved-below : (w : ℕ) (xs : List ℕ) → all_below (2 ^ (w - 1)) (map (halved w) xs) ≡ true
unfolding halved
halved-below w xs = map_below (2 ^ (w - 1)) _ (λ x. mod-lt _ (pow_pos (w - 1))) xs

-- an array that the halvings of another were written into
pub halvings_is : (row out : List ℕ) → length row ≡ 1024 → out ≡ over (map halving row) (replicate 1024 0) → out ≡ map halving row
halvings_is row out l e = e ∙ over-whole _ _ (length-map row halving ∙ l ∙ sym (length-replicate {A = ℕ} 1024 0))

-- the coefficients of a record are residues modulo 2048
pub filled-below : (n : ℕ) (a : Filled) → all_below 2048 (take n a.coefficients) ≡ true
filled-below n a =
    let high : a.width.bits ≤ 11 = a.width.ok.1 in
    take_all-below 2048 n a.coefficients (below_higher (2 ^ a.width.bits) 2048 a.coefficients (pow_mono high) a.small)
