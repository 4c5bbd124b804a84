-- The small polynomials that a caller hands in, and the secret polynomial of a key.
use Rattle.std.specs.Prelude.{◌≡◌, ℕ, zero, suc, ◌%◌, ◌<◌, Bool, true, ◌&&◌, List, [], ◌∷◌, map, length, ℤ, pos, ◌+ℤ◌, nat_le, unsigned_abs}
use Rattle.ring.specs.Engines.{all_below, product_mod}
use Rattle.ring.specs.Wholes.{residue}

-- each number is from -6 to 6
abbrev pub all_small : List ℤ → Bool
all_small [] = true
all_small (z ∷ zs) = nat_le (unsigned_abs z) 6 && all_small zs

-- f = 2 f' + 1: every coefficient is doubled, and 1 is added at place 0
unfoldable pub secret : List ℤ → List ℤ
secret [] = []
secret (z ∷ zs) = (z +ℤ z +ℤ pos 1) ∷ map (λ y. y +ℤ y) zs

-- coefficient i of f, from coefficient i of f'
abbrev pub secret_at : ℕ → ℤ → ℤ
secret_at zero z = z +ℤ z +ℤ pos 1
secret_at (suc i) z = z +ℤ z

-- a row of whole numbers as residues modulo m
abbrev pub reduced_row : ℕ → List ℤ → List ℕ
reduced_row m zs = map (residue m) zs

-- a key of degree n: h times f is g modulo 3457
pub record Tied (n : ℕ) (f' g : List ℤ) (h : List ℕ) : Type 0 where
  pub some : 0 < n
  pub sixteens : n % 16 ≡ 0
  pub f_long : length f' ≡ n
  pub g_long : length g ≡ n
  pub h_long : length h ≡ n
  pub f_small : all_small f' ≡ true
  pub g_small : all_small g ≡ true
  pub h_below : all_below 3457 h ≡ true
  pub tie : product_mod 3457 n h (reduced_row 3457 (secret f')) ≡ reduced_row 3457 g
