-- A key of some degree is tied: h times f is g, with rows as long as the degree.
use Rattle.std.proofs.Common.{◌≡◌, ℕ, zero, suc, ◌<◌, true, ◌&&◌, eqb, ltb, leb, List, [], ◌∷◌, length, take, ℤ, nat_abs, refl, arith}
use Rattle.std.proofs.lemmas.List.{length-take-le}
use Rattle.std.proofs.lemmas.Bool.{and_parts, and_from, ltb-true}
use Rattle.wrapping.specs.Secrets.{all_small, Tied}
use Rattle.keying.specs.declared.key.Key.{Key}
use Rattle.keying.specs.Keys.{f_of, g_of, h_of}
use Rattle.products.proofs.Fronts.{take_all-below}
use Rattle.keying.specs.Told.{Told, paired, ready}

-- ---- the front of a row
pub small-take : (n : ℕ) (zs : List ℤ) → all_small zs ≡ true → all_small (take n zs) ≡ true
small-take zero zs t = refl
small-take (suc n) [] t = refl
small-take (suc n) (z ∷ zs) t =
    let p = and_parts (leb (nat_abs z) 6) (all_small zs) t in
    and_from (leb (nat_abs z) 6) (all_small (take n zs)) p.0 (small-take n zs p.1)

-- ---- the rows of a key
module _ (key : Key) where
  front : {X : Type 0} (row : List X) → length row ≡ 1024 → length (take key.degree row) ≡ key.degree
  front row l = length-take-le key.degree row (omega (arith, key.size.1))

  pub f_long : length (f_of key) ≡ key.degree
  f_long = front key.f key.f_cut.0

  pub g_long : length (g_of key) ≡ key.degree
  g_long = front key.g key.g_cut.0

  pub h_long : length (h_of key) ≡ key.degree
  h_long = front key.h key.h_cut.0

  pub tied : 0 < key.degree → Tied key.degree (f_of key) (g_of key) (h_of key)
  tied some = record {
    some = some;
    sixteens = key.size.0;
    f_long = f_long;
    g_long = g_long;
    h_long = h_long;
    f_small = small-take key.degree key.f key.f_small;
    g_small = small-take key.degree key.g key.g_small;
    h_below = take_all-below 3457 key.degree key.h key.h_below;
    tie = key.tied;
  }

-- a key that can be used has a degree above 0
pub ready-some : (n : ℕ) (told : Told) → ready n told ≡ true → 0 < n
ready-some n told r =
    ltb-true 0 n (and_parts (ltb 0 n) (eqb told.field_degree n) (and_parts (ltb 0 n && eqb told.field_degree n) (paired told) r).0).0
