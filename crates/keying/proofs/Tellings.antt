-- What it means that a key can be used with the engines.
use Rattle.std.proofs.Common.{◌≡◌, ℕ, ◌<◌, true, ◌&&◌, eqb, ltb}
use Rattle.std.proofs.lemmas.Bool.{and_parts, eqb-true, ltb-true}
use Rattle.keying.specs.Told.{Told, ready, paired, tells}

pub record Ready (n : ℕ) (told : Told) : Type 0 where
  pub some : 0 < n
  pub field_degree : told.field_degree ≡ n
  pub field_modulus : told.field_modulus ≡ 3457
  pub binary_degree : told.binary_degree ≡ told.field_degree
  pub binary_modulus : told.binary_modulus ≡ 2048

pub ready_is : (n : ℕ) (told : Told) → ready n told ≡ true → Ready n told
ready_is n told t =
    let p = and_parts (ltb 0 n && eqb told.field_degree n) (paired told) t in
    let q = and_parts (ltb 0 n) (eqb told.field_degree n) p.0 in
    let r = and_parts (eqb told.binary_degree told.field_degree) (eqb told.field_modulus 3457 && eqb told.binary_modulus 2048) p.1 in
    let s = and_parts (eqb told.field_modulus 3457) (eqb told.binary_modulus 2048) r.1 in
    record {
      some = ltb-true 0 n q.0;
      field_degree = eqb-true told.field_degree n q.1;
      field_modulus = eqb-true told.field_modulus 3457 s.0;
      binary_degree = eqb-true told.binary_degree told.field_degree r.0;
      binary_modulus = eqb-true told.binary_modulus 2048 s.1;
    }

pub tells-same : {a a' b b' c c' d d' : ℕ} → a ≡ a' → b ≡ b' → c ≡ c' → d ≡ d' → tells a b c d ≡ tells a' b' c' d'
tells-same p q r s = λ i. tells (p i) (q i) (r i) (s i)
