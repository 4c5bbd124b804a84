-- An engine's product is the whole-number product, reduced.
use Rattle.std.proofs.Common.{◌≡◌, ℕ, suc, ◌+◌, ◌-◌, ◌*◌, ◌/◌, ◌%◌, ◌<◌, List, [], ◌∷◌, map, ℤ, pos, negsuc, sym, refl, ap, ◌∙◌, ap₂, mod-lt, mod-eq_of_lt, arith}
use mathlib.Core.List.{map-map}
use native.Mathlib.Nat.{mod-mod, mul-mod_right, div-add-mod, zero-mod}
use Rattle.ring.specs.Rows.{product}
use Rattle.ring.specs.Images.{count, image}
use Rattle.ring.specs.Integers.{integers}
use Rattle.ring.specs.Modular.{modular}
use Rattle.ring.specs.Residues.{reduced, residue_ring, same}
use Rattle.ring.specs.Engines.{product_to, residues, numbers}
use Rattle.ring.specs.Wholes.{residue, Wholes}
use Rattle.ring.proofs.Scalars.{neg_unique}
use Rattle.ring.proofs.Homs.{map-product}
use Rattle.ring.proofs.Images.{image-zero, image-add, image-neg, image-mul}
use Rattle.ring.proofs.Residues.{count-reduced}

pub residue-below : (m : ℕ) → 0 < m → (z : ℤ) → residue m z < m
residue-below m h (pos a) = mod-lt a h
residue-below m h (negsuc a) = omega arith

-- a + 1 and m - 1 - a % m make a multiple of m
opposite : (last a : ℕ) → (suc a + (last + 1 - 1 - a % (last + 1))) % (last + 1) ≡ 0
opposite last a =
    let m : ℕ = last + 1 in
    let low : a % m < m = mod-lt a (omega arith) in
    let e : suc a + (m - 1 - a % m) ≡ m * (a / m + 1) = omega (arith, div-add-mod a m) in
    ap (λ w. w % m) e ∙ mul-mod_right m (a / m + 1)

pub image-residue : (last : ℕ) (z : ℤ) → image (residue_ring last) z ≡ reduced last (residue (last + 1) z)
unfolding image
image-residue last (pos a) = count-reduced last a ∙ same last a (a % (last + 1)) (sym (mod-mod a (last + 1)))
image-residue last (negsuc a) =
    let R = residue_ring last in
    let y = reduced last (last + 1 - 1 - a % (last + 1)) in
    sym (neg_unique R (count R (suc a)) y
    (ap (λ w. R.add w y) (count-reduced last (suc a))
    ∙ same last _ 0 (simp modular (opposite last a ∙ sym (zero-mod (last + 1))))))

mapped : {X Y : Type 0} (f g : X → Y) → ((x : X) → f x ≡ g x) → (xs : List X) → map f xs ≡ map g xs
mapped f g e [] = refl
mapped {Y} f g e (x ∷ xs) = ap₂ {C = List Y} ◌∷◌ (e x) (mapped f g e xs)

pub whole_products : Wholes
unfolding product_to
whole_products last n a b =
    let R = residue_ring last in
    let m : ℕ = last + 1 in
    let images : (xs : List ℤ) → residues last (map (residue m) xs) ≡ map (image R) xs =
    λ xs. map-map (reduced last) (residue m) xs ∙ mapped _ (image R) (λ z. sym (image-residue last z)) xs in
    ap numbers (ap₂ (product R n) (images a) (images b) ∙ sym (map-product integers R (image R) (image-zero R) (image-add R) (image-neg R) (image-mul R) n a b))
    ∙ map-map (λ x. x.value) (image R) (product integers n a b)
    ∙ mapped _ (residue m) (λ z. ap (λ w. w.value) (image-residue last z) ∙ mod-eq_of_lt (residue-below m (omega arith) z)) (product integers n a b)
