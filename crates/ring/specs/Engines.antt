-- What a ring engine of degree n and modulus m answers to two operands, and what its buffer holds then.
use Rattle.std.specs.Prelude.{◌≡◌, ℕ, ◌-◌, ◌%◌, ◌≤◌, Bool, true, cond, ◌&&◌, ◌||◌, List, [], ◌∷◌, map, length, Ok, Err, Result, ◌==◌, nat_le, nat_lt}
use Rattle.ring.specs.Rows.{product}
use Rattle.ring.specs.Residues.{reduced, residue_ring}
use Rattle.ring.specs.declared.residue.Residue.{Residue}
use Rattle.ring.specs.declared.refusal.Refusal.{Refusal}
use Rattle.ring.specs.declared.refusal.Refusal.TheVariants.{Mismatch, Length, Residue as OverModulus}

-- a degree that an engine may have
abbrev pub Degree : ℕ → Type 0
Degree n = (n % 16 ≡ 0) × (16 ≤ n) × (n ≤ 4096)

-- a modulus that an engine may have
abbrev pub known : ℕ → Bool
known m = m == 3457 || m == 2048

-- whether an engine may have degree n and modulus m
abbrev pub lawful : ℕ → ℕ → Bool
lawful n m = (n % 16 == 0 && (nat_le 16 n && nat_le n 4096)) && known m

-- each number is below m
abbrev pub all_below : ℕ → List ℕ → Bool
all_below m [] = true
all_below m (x ∷ xs) = nat_lt x m && all_below m xs

-- both operands and the buffer have n entries
abbrev pub all_long : ℕ → List ℕ → List ℕ → ℕ → Bool
all_long n a b places = length a == n && (length b == n && places == n)

-- the answer to operands a and b and a buffer of some places: the first refusal that applies, or none
abbrev pub engine_answer : ℕ → ℕ → List ℕ → List ℕ → ℕ → Result (Unit {0}) Refusal
engine_answer n m a b places =
    cond (nat_lt 1024 n) (Err Mismatch)
    (cond (all_long n a b places) (cond (all_below m a && all_below m b) (Ok tt) (Err OverModulus)) (Err Length))

-- numbers as residues up to `last`, and back
abbrev pub residues : (last : ℕ) → List ℕ → List (Residue last)
residues last xs = map (reduced last) xs

abbrev pub numbers : {last : ℕ} → List (Residue last) → List ℕ
numbers xs = map (λ x. x.value) xs

-- the ring product of two rows of n numbers modulo last + 1
unfoldable pub product_to : ℕ → ℕ → List ℕ → List ℕ → List ℕ
product_to last n a b = numbers (product (residue_ring last) n (residues last a) (residues last b))

-- the ring product of two rows of n numbers modulo m
abbrev pub product_mod : ℕ → ℕ → List ℕ → List ℕ → List ℕ
product_mod m n a b = product_to (m - 1) n a b

-- what the buffer holds then: the product, or on a refusal what it held before
abbrev pub engine_buffer : ℕ → ℕ → List ℕ → List ℕ → List ℕ → List ℕ
engine_buffer n m a b before = elim (engine_answer n m a b (length before)) [ Ok u ↦ product_mod m n a b | Err e ↦ before ]
