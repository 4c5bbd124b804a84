-- A wrapped row and its bytes: the answer of packing it, and what is written.
use Rattle.std.proofs.Common.{◌≡◌, ℕ, ◌-◌, ◌*◌, ◌≤◌, List, length, take, replicate, Ok, Result, sym, ap, ◌∙◌, ap₂, arith}
use Rattle.ring.specs.declared.refusal.Refusal.{Refusal}
use Rattle.packing.specs.Digits.{packed}
use Rattle.packing.specs.Answers.{pack_row_answer, written}
use Rattle.wrapping.specs.Buffers.{over}
use Rattle.wrapping.specs.Wraps.{embedded_row}
use Rattle.wrapping.proofs.Coefficients.{length-embedded_row}
use Rattle.products.proofs.Embeddings.{embedded-below, wrapped_front}
use Rattle.sealing.proofs.Packings.{row_packs}

-- what stands in a buffer of 1024 places after a row of 1024 was wrapped into it, cut at n - 0 as the code does
pub wrapped-cut : (n w : ℕ) (sigma c row message : List ℕ) → n ≤ 1024 → length sigma ≡ 1024 → take n sigma ≡ row
    → c ≡ over (embedded_row (length sigma) w sigma message) (replicate 1024 0) → take (n - 0) c ≡ embedded_row n w row message
wrapped-cut n w sigma c row message h l s e =
    ap (λ k. take k c) (let k : n - 0 ≡ n = omega arith in k) ∙ wrapped_front n w sigma message c l h e ∙ ap (λ x. embedded_row n w x message) s

-- such a row is packed: the answer, and what is written
module _ (n w bits : ℕ) (cut out : List ℕ) (row message : List ℕ) (r : Result (Unit {0}) Refusal) (same : bits ≡ w) (low : 8 ≤ w) (high : w ≤ 11)
    (is : cut ≡ embedded_row n w row message) (fills : length out * 8 ≡ n * w) (answer : r ≡ pack_row_answer bits cut (length out)) where
  pub wrapped_packs : r ≡ Ok tt
  wrapped_packs =
      answer ∙ ap₂ (λ v x. pack_row_answer v x (length out)) same is
      ∙ row_packs w (embedded_row n w row message) (length out) low high (fills ∙ ap (λ k. k * w) (sym (length-embedded_row n w row message))) (embedded-below n w row message)

  pub wrapped_writes : (new : List ℕ) → new ≡ written r (packed bits cut) out → new ≡ packed w (embedded_row n w row message)
  wrapped_writes new e = e ∙ ap (λ a. written a (packed bits cut) out) wrapped_packs ∙ ap₂ packed same is
