-- What a key meets: its rows are padded with zeros, small, and tied.
use Rattle.std.proofs.Common.{◌≡◌, ℕ, zero, suc, ◌-◌, ◌≤◌, true, ltb, leb, List, [], ◌∷◌, ◌++◌, length, take, drop, replicate, ℤ, pos, nat_abs, Ok, sym, refl, ap, ◌∙◌, arith}
use Rattle.std.proofs.lemmas.List.{length-append, length-replicate, take_at, drop_at, take-append-drop}
use Rattle.std.proofs.lemmas.Bool.{and_from, and_parts}
use Rattle.std.proofs.lemmas.Bool.Decides.{nat_tests}
use Rattle.ring.specs.Engines.{all_below, residues, product_to, product_mod}
use Rattle.ring.specs.Residues.{residue_ring}
use Rattle.ring.specs.Rows.{product}
use Rattle.wrapping.specs.Secrets.{all_small, secret, reduced_row}
use Rattle.keying.specs.KeyLaw.{Cut, Ties}
use Rattle.keying.specs.Keying.{keying_check}
use Rattle.keying.specs.Told.{Told}
use Rattle.keying.proofs.Residual.{numbers-below}

all_small_append : (xs ys : List ℤ) → all_small xs ≡ true → all_small ys ≡ true → all_small (xs ++ ys) ≡ true
all_small_append [] ys p q = q
all_small_append (x ∷ xs) ys p q =
    let t = and_parts (leb (nat_abs x) 6) (all_small xs) p in
    and_from (leb (nat_abs x) 6) (all_small (xs ++ ys)) t.0 (all_small_append xs ys t.1 q)

all_small-zeros : (n : ℕ) → all_small (replicate n (pos 0)) ≡ true
all_small-zeros zero = refl
all_small-zeros (suc n) = all_small-zeros n

all_below_append : (m : ℕ) (xs ys : List ℕ) → all_below m xs ≡ true → all_below m ys ≡ true → all_below m (xs ++ ys) ≡ true
all_below_append m [] ys p q = q
all_below_append m (x ∷ xs) ys p q =
    let t = and_parts (ltb x m) (all_below m xs) p in
    and_from (ltb x m) (all_below m (xs ++ ys)) t.0 (all_below_append m xs ys t.1 q)

all_below-zeros : (n : ℕ) → all_below 3457 (replicate n 0) ≡ true
all_below-zeros zero = refl
all_below-zeros (suc n) = all_below-zeros n

-- a row with zeros behind it
module _ (row all : List ℤ) (h : length row ≤ 1024) (e : all ≡ row ++ replicate (1024 - length row) (pos 0)) where
  pub padded_front : (n : ℕ) → length row ≡ n → take n all ≡ row
  padded_front n l = ap (take n) e ∙ take_at row (replicate (1024 - length row) (pos 0)) n l

  pub padded_cut : (n : ℕ) → length row ≡ n → Cut (pos 0) n all
  padded_cut n l = (
    ap length e ∙ length-append row (replicate (1024 - length row) (pos 0)) ∙ omega (arith, length-replicate (1024 - length row) (pos 0)),
    ap (drop n) e ∙ drop_at row (replicate (1024 - length row) (pos 0)) n l ∙ ap (λ (k : ℕ). replicate (1024 - k) (pos 0)) l,
  )

  pub padded_small : all_small row ≡ true → all_small all ≡ true
  padded_small t = ap all_small e ∙ all_small_append row (replicate (1024 - length row) (pos 0)) t (all_small-zeros (1024 - length row))

-- products are residues
pub product-below : (n : ℕ) (a b : List ℕ) → all_below 3457 (product_mod 3457 n a b) ≡ true
unfolding product_to
product-below n a b = numbers-below 3456 (product (residue_ring 3456) n (residues 3456 a) (residues 3456 b))

-- a row of residues with zeros behind it
pub cut_below : (n : ℕ) (h a b : List ℕ) → take n h ≡ product_mod 3457 n a b → Cut 0 n h → all_below 3457 h ≡ true
cut_below n h a b e c =
    ap (all_below 3457) (sym (take-append-drop n h))
    ∙ all_below_append 3457 (take n h) (drop n h) (ap (all_below 3457) e ∙ product-below n a b) (ap (all_below 3457) c.1 ∙ all_below-zeros (1024 - n))

-- with no places there is nothing to tie
pub tied_none : product_mod 3457 0 [] (reduced_row 3457 (secret [])) ≡ []
unfolding product_to product secret
tied_none = refl

-- the tie of the rows that stand in a key
pub tied_fronts : (n : ℕ) (f' g' f g : List ℤ) (h : List ℕ) → take n f' ≡ f → take n g' ≡ g → product_mod 3457 n (take n h) (reduced_row 3457 (secret f)) ≡ reduced_row 3457 g → Ties n f' g' h
tied_fronts n f' g' f g h ef eg t =
    ap (λ (x : List ℤ). product_mod 3457 n (take n h) (reduced_row 3457 (secret x))) ef ∙ t ∙ ap (reduced_row 3457) (sym eg)

-- what keying knows past its checks
pub record Checked (told : Told) (f g : List ℤ) : Type 0 where
  pub small : told.field_degree ≤ 1024
  pub modular : told.field_modulus ≡ 3457
  pub f_long : length f ≡ told.field_degree
  pub g_long : length g ≡ told.field_degree
  pub f_small : all_small f ≡ true
  pub g_small : all_small g ≡ true

pub checked : (told : Told) (f g : List ℤ) (x : Unit {0}) → Ok x ≡ keying_check told f g → Checked told f g
checked told f g x e = record {
  small = grind (arith, nat_tests);
  modular = grind (arith, nat_tests);
  f_long = grind (arith, nat_tests);
  g_long = grind (arith, nat_tests);
  f_small = grind (arith, nat_tests);
  g_small = grind (arith, nat_tests);
}
