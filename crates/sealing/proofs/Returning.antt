-- Unsealing gives back what was sealed.
use Rattle.std.proofs.Common.{◌≡◌, ℕ, ◌*◌, ◌/◌, ◌%◌, ◌^◌, true, List, length, sym, ap, ◌∙◌, arith}
use Rattle.ring.specs.Engines.{all_below}
use Rattle.code.specs.Rows.{decoded}
use Rattle.packing.specs.Digits.{packed, unpacked}
use Rattle.packing.proofs.Below.{below_higher}
use Rattle.packing.proofs.Trips.{row_back}
use Rattle.wrapping.specs.Wraps.{sigma, wrap, measured}
use Rattle.wrapping.proofs.Coefficients.{length-embedded_row}
use Rattle.wrapping.proofs.WrapLaws.{wrap_opens}
use Rattle.sealing.specs.Sealing.{unsealed, ComesBack}
use Rattle.sealing.proofs.Packings.{whole_bytes}
use Rattle.products.proofs.Embeddings.{embedded-below}

-- a row of n sixteens comes back from its bytes
back : (n w : ℕ) (row : List ℕ) → n % 16 ≡ 0 → length row ≡ n → all_below (2 ^ w) row ≡ true → unpacked w n (packed w row) ≡ row
back n w row sixteens l t =
    ap (λ k. unpacked w k (packed w row)) (sym l)
    ∙ row_back w row t (ap (λ k. k * w % 8) l ∙ omega (arith, whole_bytes n w sixteens))

pub comes_back : ComesBack
comes_back n w f g h r e message low high tied lr lm bytes exact quiet =
    ap (λ x. unsealed n w f (packed w (wrap n w x r message))) h_back
    ∙ ap (λ x. decoded w (measured n f x) (n / 16)) c_back
    ∙ ap (decoded w (measured n f c)) (let k : n / 16 ≡ length message = omega arith in k)
    ∙ wrap_opens n w f g h r e message (omega arith) tied lr lm bytes exact quiet
  where
    c : List ℕ
    c = wrap n w h r message

    h_back : unpacked 12 n (packed 12 h) ≡ h
    h_back =
        back n 12 h tied.sixteens tied.h_long
        (below_higher 3457 4096 h (omega arith) tied.h_below)

    c_back : unpacked w n (packed w c) ≡ c
    c_back = back n w c tied.sixteens (length-embedded_row n w (sigma n h r) message) (embedded-below n w (sigma n h r) message)
