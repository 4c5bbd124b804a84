-- What packing answers of rows and keys that are known to fit.
use Rattle.std.proofs.Common.{◌≡◌, ℕ, ◌*◌, ◌/◌, ◌%◌, ◌^◌, ◌<◌, ◌≤◌, true, cond, ◌&&◌, eqb, List, length, Ok, Err, Result, sym, refl, ap, ◌∙◌, ap₂, inl, inr, mul_assoc, arith}
use native.Mathlib.Nat.{div-add-mod}
use Rattle.std.proofs.lemmas.Bool.{cases_eq, eq-eqb, ne_eqb, le-leb}
use Rattle.ring.specs.declared.refusal.Refusal.{Refusal}
use Rattle.ring.specs.declared.refusal.Refusal.TheVariants.{Mismatch, Length, Width, Residue}
use Rattle.ring.specs.Engines.{all_below}
use Rattle.packing.specs.Answers as packing
use Rattle.places.specs.Replies.{written}
use Rattle.places.specs.Checks.{buffered}

-- two comparisons that come out alike
eqb_alike : (a b c d : ℕ) → (a ≡ b → c ≡ d) → (c ≡ d → a ≡ b) → eqb a b ≡ eqb c d
eqb_alike a b c d f g =
    elim (cases_eq a b) [
      | inl e ↦ eq-eqb a b e ∙ sym (eq-eqb c d (f e))
      | inr n ↦ ne_eqb a b n ∙ sym (ne_eqb c d (λ e. n (g e)))
    ]

-- numbers of w bits, a multiple of 16 of them, fill whole bytes
whole_bytes : (n w size : ℕ) → n % 16 ≡ 0 → eqb (size * 8) (n * w) ≡ eqb size (n * w / 8)
whole_bytes n w size e =
    let q : ℕ = n / 16 in
    let n-is : n ≡ 16 * q = omega (arith, div-add-mod n 16) in
    let p : n * w ≡ 16 * (q * w) = ap (λ k. k * w) n-is ∙ mul_assoc 16 q w in
    eqb_alike (size * 8) (n * w) size (n * w / 8) (λ h. omega (arith, p)) (λ h. omega (arith, p))

pub row_answer : (w n : ℕ) (row : List ℕ) (size : ℕ) → 8 ≤ w → w ≤ 12 → n % 16 ≡ 0 → length row ≡ n → all_below (2 ^ w) row ≡ true
    → packing.pack_row_answer w row size ≡ buffered (n * w / 8) size tt
row_answer w n row size low high e l t =
    ap (λ b. cond b (cond (eqb (size * 8) (length row * w)) (cond (all_below (2 ^ w) row) (Ok tt) (Err Residue)) (Err Length)) (Err Width))
    (ap₂ ◌&&◌ (le-leb 8 w low) (le-leb w 12 high))
    ∙ ap₂ (λ b c. cond b (cond c (Ok tt) (Err Residue)) (Err Length)) (ap (λ k. eqb (size * 8) (k * w)) l ∙ whole_bytes n w size e) t

pub key_answer : (n : ℕ) (row : List ℕ) (size : ℕ) → 0 < n → n ≤ 1024 → n % 16 ≡ 0 → length row ≡ n → all_below 3457 row ≡ true
    → packing.pack_key_answer n row size ≡ buffered (n * 12 / 8) size tt
key_answer n row size some high e l t =
    ap (λ b. cond b (cond (eqb (length row) n && eqb size (n * 12 / 8)) (cond (all_below 3457 row) (Ok tt) (Err Residue)) (Err Length)) (Err Mismatch))
    (ap₂ ◌&&◌ (eq-eqb (n % 16) 0 e) (ap₂ ◌&&◌ (le-leb 16 n (omega arith)) (le-leb n 1024 high)))
    ∙ ap₂ (λ b c. cond (b && eqb size (n * 12 / 8)) (cond c (Ok tt) (Err Residue)) (Err Length)) (eq-eqb (length row) n l) t

pub written_same : (r : Result (Unit {0}) Refusal) (new old : List ℕ) → packing.written r new old ≡ written r (λ _. new) old
written_same (Ok x) new old = refl
written_same (Err x) new old = refl
