-- The ring of the residues modulo m. Assumes nothing.
use Rattle.std.specs.Prelude.{◌≡◌, ℕ, ◌+◌, ◌-◌, ◌*◌, ◌%◌, ◌<◌, ◌≤◌}
use Rattle.std.proofs.Common.{sym, ap, ◌∙◌, arith, mod-lt, mod-eq_of_lt, add_comm, add_assoc, add-zero, mul_comm, mul_assoc, mul-add, mul-one}
use mathlib.Core.HLevel.{is_prop→PathP}
use Rattle.std.proofs.Math.Bridge.{le_prop}
use Rattle.std.proofs.Math.Nat.{mod_self, add-mod-mod, zero-mod}
use Rattle.ring.specs.Ring.{CommRing}
use Rattle.ring.specs.Modular.{modular, mul_mod_mod}
use Rattle.ring.specs.declared.residue.Residue.{Residue}

-- residues of one number are equal: the proof of the bound does not count
pub residue_eq : {l : ℕ} (x y : Residue l) → x.value ≡ y.value → x ≡ y
residue_eq {l} x y p = λ i. record { value = p i; ok = is_prop→PathP (λ j. p j ≤ l) (λ j. le_prop) x.ok y.ok i }

module _ (last : ℕ) where
  abbrev m : ℕ
  m = last + 1

  pub below : (n : ℕ) → n % m ≤ last
  below n = let h : n % m < m = mod-lt n (omega arith) in omega arith

  pub small : (x : Residue last) → x.value < m
  small x = let h = x.ok in omega (arith, h)

  -- n modulo m
  abbrev pub reduced : ℕ → Residue last
  reduced n = record { value = n % m; ok = below n }

  pub same : (n k : ℕ) → n % m ≡ k % m → reduced n ≡ reduced k
  same n k p = residue_eq (reduced n) (reduced k) p

  pub fixed : (x : Residue last) (n : ℕ) → n ≡ x.value → reduced n ≡ x
  fixed x n p = residue_eq (reduced n) x (ap (λ w. w % m) p ∙ mod-eq_of_lt (small x))

  pub whole : (x : Residue last) → x.value + (m - x.value) ≡ m
  whole x = let h = x.ok in omega (arith, h)

  abbrev pub residue_ring : CommRing (Residue last)
  residue_ring = record {
    zero = reduced 0;
    one = reduced 1;
    add = λ x y. reduced (x.value + y.value);
    neg = λ x. reduced (m - x.value);
    mul = λ x y. reduced (x.value * y.value);
    add_comm = λ x y. ap reduced (add_comm x.value y.value);
    add_assoc = λ x y z. same _ _ (simp modular (ap (λ w. w % m) (add_assoc x.value y.value z.value)));
    add-zero = λ x. fixed x (x.value + 0 % m) (ap (λ w. x.value + w) (zero-mod m) ∙ add-zero x.value);
    add_neg = λ x. same _ _ (add-mod-mod x.value (m - x.value) m ∙ ap (λ w. w % m) (whole x) ∙ mod_self m ∙ sym (zero-mod m));
    mul_comm = λ x y. ap reduced (mul_comm x.value y.value);
    mul_assoc = λ x y z. same _ _ (simp modular (ap (λ w. w % m) (mul_assoc x.value y.value z.value)));
    mul-one = λ x. residue_eq (reduced (x.value * (1 % m))) x (mul_mod_mod x.value 1 m ∙ ap (λ w. w % m) (mul-one x.value) ∙ mod-eq_of_lt (small x));
    mul-add = λ x y z. same _ _ (simp modular (ap (λ w. w % m) (mul-add x.value y.value z.value)));
  }
