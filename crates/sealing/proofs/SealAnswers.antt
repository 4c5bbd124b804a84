-- The answers of sealing and unsealing, check by check.
use Rattle.std.proofs.Common.{◌≡◌, ℕ, ◌*◌, ◌/◌, ◌≤◌, true, cond, List, length, ℤ, Ok, Err, Result, sym, ap, ◌∙◌, subst, ap₂, arith}
use Rattle.std.proofs.lemmas.Bool.Decides.{nat_tests}
use Rattle.ring.specs.declared.refusal.Refusal.{Refusal}
use Rattle.ring.specs.declared.refusal.Refusal.TheVariants.{Noise, Residue}
use Rattle.ring.specs.Engines.{all_below, Degree}
use Rattle.code.specs.Rows.{decoded}
use Rattle.packing.specs.Digits.{packed, unpacked}
use Rattle.packing.specs.Answers.{unpack_key_answer, written}
use Rattle.wrapping.specs.Secrets.{all_small}
use Rattle.wrapping.specs.Wraps.{wrap, measured}
use Rattle.sealing.specs.Sealing.{suited, seal_answer, sealed, unseal_answer, unsealed}

-- what an engine and a width that suit have
pub record Suits (lowest wanted n m w bits : ℕ) : Type 0 where
  pub small : n ≤ 1024
  pub modular : m ≡ wanted
  pub low : lowest ≤ w
  pub high : w ≤ 11
  pub same : bits ≡ w

pub suits_so : (lowest wanted n m w bits : ℕ) → ◌≡◌ {A = Result ℕ Refusal} (Ok bits) (suited lowest wanted n m w) → Suits lowest wanted n m w bits
suits_so lowest wanted n m w bits e = record {
  small = grind (arith, nat_tests);
  modular = grind (arith, nat_tests);
  low = grind (arith, nat_tests);
  high = grind (arith, nat_tests);
  same = grind (arith, nat_tests);
}

-- a refusal leaves the buffer as it was
pub kept : (r : Result (Unit {0}) Refusal) (e : Refusal) (new old : List ℕ) → r ≡ Err e → old ≡ written r new old
kept r e new old h = sym (ap (λ a. written a new old) h)

-- sealing past the checks of the engine, the width and the lengths;
-- the engine's degree and modulus are d and k, which the code reads as n and m
module _ (d k n m w bits size : ℕ) (key : List ℕ) (r : List ℤ) (message : List ℕ) (degree : n ≡ d) (modulus : m ≡ k) (s : Suits 9 3457 n m w bits) (sizes : Degree d)
    (lk : length key ≡ n * 12 / 8) (lr : length r ≡ n) (lm : length message ≡ n / 16) (lo : size ≡ n * bits / 8) where
  told : seal_answer n m w key r message size ≡ seal_answer d k w key r message size
  told = ap₂ (λ (i j : ℕ). seal_answer i j w key r message size) degree modulus

  goes : seal_answer n m w key r message size ≡ cond (all_below 3457 (unpacked 12 n key)) (cond (all_small r) (Ok tt) (Err Noise)) (Err Residue)
  goes = let lw : size ≡ n * w / 8 = lo ∙ ap (λ v. n * v / 8) s.same in grind (arith, nat_tests)

  key_goes : unpack_key_answer n key n ≡ cond (all_below 3457 (unpacked 12 n key)) (Ok tt) (Err Residue)
  key_goes =
      let whole = subst (λ (i : ℕ). Degree i) (sym degree) sizes in
      grind (arith, nat_tests)

  pub seal_breaks : (a : Result (Unit {0}) Refusal) (x e : Refusal) → a ≡ Err x → x ≡ e → Err e ≡ unpack_key_answer n key n → a ≡ seal_answer d k w key r message size
  seal_breaks a x e p q h = p ∙ ap {B = Result (Unit {0}) Refusal} Err q ∙ (let y = h ∙ key_goes in let g = goes in let t : Err e ≡ seal_answer n m w key r message size = grind (arith, nat_tests) in t) ∙ told

  pub key_below : Ok tt ≡ unpack_key_answer n key n → all_below 3457 (unpacked 12 n key) ≡ true
  key_below h = let y = h ∙ key_goes in grind (arith, nat_tests)

  pub seal_obeys : (a : Result (Unit {0}) Refusal) → a ≡ Ok tt → Ok tt ≡ unpack_key_answer n key n → all_small r ≡ true → a ≡ seal_answer d k w key r message size
  seal_obeys a e h q = let b = key_below h in let g = goes in e ∙ sym (let t : seal_answer n m w key r message size ≡ Ok tt = grind (arith, nat_tests) in t) ∙ told

  pub seal_writes : (a : Result (Unit {0}) Refusal) (row new old : List ℕ) → a ≡ Ok tt → row ≡ unpacked 12 n key → new ≡ packed bits (wrap n bits row r message)
      → new ≡ written a (sealed d w key r message) old
  seal_writes a row new old e h p =
      p ∙ ap₂ (λ (v : ℕ) (x : List ℕ). packed v (wrap n v x r message)) s.same h ∙ ap (λ (i : ℕ). sealed i w key r message) degree
      ∙ sym (ap (λ b. written b (sealed d w key r message) old) e)

-- unsealing past all checks
module _ (d k n m w bits size : ℕ) (f : List ℤ) (bytes : List ℕ) (degree : n ≡ d) (modulus : m ≡ k) (s : Suits 8 2048 n m w bits)
    (lf : length f ≡ n) (lb : length bytes ≡ n * bits / 8) (lo : size ≡ n / 16) where
  pub unseal_obeys : (a : Result (Unit {0}) Refusal) → a ≡ Ok tt → all_small f ≡ true → a ≡ unseal_answer d k w f bytes size
  unseal_obeys a e q =
      let lw : length bytes ≡ n * w / 8 = lb ∙ ap (λ v. n * v / 8) s.same in
      e ∙ sym (let t : unseal_answer n m w f bytes size ≡ Ok tt = grind (arith, nat_tests) in t) ∙ ap₂ (λ (i j : ℕ). unseal_answer i j w f bytes size) degree modulus

  pub unseal_writes : (a : Result (Unit {0}) Refusal) (row new old : List ℕ) (secret : List ℤ) → a ≡ Ok tt → row ≡ unpacked bits n bytes → secret ≡ f
      → new ≡ decoded bits (measured n secret row) size → new ≡ written a (unsealed d w f bytes) old
  unseal_writes a row new old secret e h g p =
      p ∙ ap (decoded bits (measured n secret row)) lo
      ∙ ap₂ (λ (x : List ℕ) (y : List ℤ). decoded bits (measured n y x) (n / 16)) h g
      ∙ ap₂ (λ (v i : ℕ). unsealed i v f bytes) s.same degree
      ∙ sym (ap (λ b. written b (unsealed d w f bytes) old) e)
