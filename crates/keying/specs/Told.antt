-- What the two engines of a draft or a station tell of themselves.
use Rattle.std.specs.Prelude.{ℕ, Bool, ◌&&◌, ◌==◌, nat_lt}
use Rattle.ring.specs.declared.engine.RingEngine.{Ghosts as Engine}

pub record Told : Type 0 where
  pub field_degree : ℕ
  pub field_modulus : ℕ
  pub binary_degree : ℕ
  pub binary_modulus : ℕ

-- the engines fit each other: one degree, the first modulo 3457 and the second modulo 2048
abbrev pub paired : Told → Bool
paired told = told.binary_degree == told.field_degree && (told.field_modulus == 3457 && told.binary_modulus == 2048)

-- the engines fit degree n
abbrev pub fit : ℕ → Told → Bool
fit n told = told.field_degree == n && paired told

-- a key of degree n can be used with them
abbrev pub ready : ℕ → Told → Bool
ready n told = (nat_lt 0 n && told.field_degree == n) && paired told

-- the four numbers as one record
abbrev pub tells : ℕ → ℕ → ℕ → ℕ → Told
tells fd fm bd bm = record { field_degree = fd; field_modulus = fm; binary_degree = bd; binary_modulus = bm }

-- what two engines tell, of whatever make they are
abbrev pub telling : {P Q : Type 0} → Engine P → Engine Q → P → Q → Told
telling p q field binary = tells (p.degree field) (p.modulus field) (q.degree binary) (q.modulus binary)
