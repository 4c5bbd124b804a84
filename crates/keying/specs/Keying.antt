-- When a draft can be keyed, and what its key is then.
use Rattle.std.specs.Prelude.{◌≡◌, ℕ, true, cond, ◌&&◌, List, length, replicate, ℤ, pos, Ok, Err, Result, MatchResult, ◌==◌, nat_le}
use Rattle.ring.specs.Engines.{all_below, product_mod, numbers}
use Rattle.ring.specs.Residues.{residue_ring}
use Rattle.ring.specs.Rows.{unit}
use Rattle.ring.specs.declared.refusal.Refusal.{Refusal}
use Rattle.ring.specs.declared.refusal.Refusal.TheVariants.{Mismatch, Length, Noise, NoInverse}
use Rattle.wrapping.specs.Secrets.{all_small, secret, reduced_row}
use Rattle.keying.specs.declared.key.Key.{Key}
use Rattle.keying.specs.Keys.{f_of, g_of, h_of}
use Rattle.keying.specs.Told.{Told, paired}

-- the key of a draft that was not keyed yet: all zero
pub record Unkeyed (key : Key) : Type 0 where
  pub degree : key.degree ≡ 0
  pub f_zero : key.f ≡ replicate 1024 (pos 0)
  pub g_zero : key.g ≡ replicate 1024 (pos 0)
  pub h_zero : key.h ≡ replicate 1024 0

-- the checks before an inverse is looked for, in their order
abbrev pub keying_check : Told → List ℤ → List ℤ → Result (Unit {0}) Refusal
keying_check told f g =
    cond (nat_le told.field_degree 1024 && paired told)
    (cond (length f == told.field_degree && length g == told.field_degree)
    (cond (all_small f && all_small g) (Ok tt) (Err Noise))
    (Err Length))
    (Err Mismatch)

-- u times f = 2 f' + 1 is 1 modulo 3457
pub record Inverts (n : ℕ) (f : List ℤ) (u : List ℕ) : Type 0 where
  pub long : length u ≡ n
  pub residues : all_below 3457 u ≡ true
  pub one : product_mod 3457 n u (reduced_row 3457 (secret f)) ≡ numbers (unit (residue_ring 3456) n)

-- no row does
abbrev pub Uninvertible : ℕ → List ℤ → Type 0
Uninvertible n f = (u : List ℕ) → Inverts n f u → ⊥

-- the key that f' and g make: h is g times the inverse of f
pub record Made (n : ℕ) (f g : List ℤ) (key : Key) : Type 0 where
  pub degree : key.degree ≡ n
  pub f_kept : f_of key ≡ f
  pub g_kept : g_of key ≡ g
  pub inverse : List ℕ
  pub inverts : Inverts n f inverse
  pub h_is : h_of key ≡ product_mod 3457 n (reduced_row 3457 g) inverse

-- past the checks: the key is made, or there is no inverse and the key is as it was
abbrev pub Tried : ℕ → List ℤ → List ℤ → Key → Key → Result (Unit {0}) Refusal → Type 0
Tried n f g before after r =
    MatchResult r (λ _. Made n f g after) (λ e. (e ≡ NoInverse) × Uninvertible n f × (after ≡ before))

-- keying as a whole: the answer, and the key before and after
abbrev pub Keying : Told → List ℤ → List ℤ → Key → Key → Result (Unit {0}) Refusal → Type 0
Keying told f g before after r =
    MatchResult (keying_check told f g) (λ _. Tried told.field_degree f g before after r) (λ e. (r ≡ Err e) × (after ≡ before))
