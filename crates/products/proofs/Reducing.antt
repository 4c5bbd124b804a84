-- What an engine's product of residues is in whole numbers, and that octets read the same of it.
use Rattle.std.proofs.Common.{◌≡◌, ℕ, ◌+◌, ◌-◌, ◌^◌, ◌<◌, ◌≤◌, true, List, length, get_or, take, replicate, ℤ, pos, sym, ap, ◌∙◌, ap₂, arith}
use Rattle.std.proofs.lemmas.List.{length-map, length-replicate}
use Rattle.ring.specs.Engines.{all_below, product_to, product_mod}
use Rattle.ring.specs.Integers.{integers}
use Rattle.ring.specs.Rows.{product}
use Rattle.ring.specs.Wholes.{residue}
use Rattle.ring.proofs.WholeProducts.{whole_products}
use Rattle.code.specs.declared.width.Width.{Width}
use Rattle.code.specs.Rows.{Alike, whole, farthest, decoded}
use Rattle.code.proofs.Agreement.{farthest_same, decoded_same}
use Rattle.code.proofs.Multiples.{same_power}
use Rattle.wrapping.specs.Buffers.{over}
use Rattle.wrapping.specs.Secrets.{secret, reduced_row}
use Rattle.wrapping.specs.Wraps.{sigma, measured}
use Rattle.wrapping.proofs.Filling.{over-whole}
use Rattle.wrapping.proofs.SecretLaws.{length-secret}
use Rattle.wrapping.proofs.Reductions.{alike_reduced, reduced-below}
use Rattle.products.proofs.Fronts.{take-over, take-reduced, reduced-all_below}

-- residues times a row of whole numbers, reduced
pub reduced-product : (last n : ℕ) (c : List ℕ) (z : List ℤ) → all_below (last + 1) c ≡ true
    → product_to last n c (reduced_row (last + 1) z) ≡ reduced_row (last + 1) (product integers n (whole c) z)
reduced-product last n c z t =
    ap (λ (row : List ℕ). product_to last n row (reduced_row (last + 1) z)) (sym (reduced-below (last + 1) c t)) ∙ whole_products last n (whole c) z

-- rows that agree modulo 2048 agree modulo every power of two below
pub alike_reduced_power : (w : ℕ) (z : List ℤ) → w ≤ 11 → Alike (2 ^ w) (whole (reduced_row 2048 z)) z
alike_reduced_power w z h =
    let a = alike_reduced 2048 z (omega arith) in
    record { long = a.long; each = λ i l. same_power w 11 (get_or (whole (reduced_row 2048 z)) i (pos 0)) (get_or z i (pos 0)) h (a.each i l) }

pub farthest-reduced : (w : ℕ) (z : List ℤ) (message : List ℕ) → 0 < w → w ≤ 11 → farthest w (whole (reduced_row 2048 z)) message ≡ farthest w z message
farthest-reduced w z message some h = farthest_same w (whole (reduced_row 2048 z)) z message some (alike_reduced_power w z h)

pub decoded-reduced : (w : ℕ) (z : List ℤ) (n : ℕ) → 0 < w → w ≤ 11 → decoded w (whole (reduced_row 2048 z)) n ≡ decoded w z n
decoded-reduced w z n some h = decoded_same w (whole (reduced_row 2048 z)) z n some (alike_reduced_power w z h)

-- ---- what the products of custody are made of
-- the first places of a buffer of zeros that residues were written into
pub noise_front : (n : ℕ) (noise : List ℤ) (out : List ℕ) → length noise ≡ n → n ≤ 1024 → out ≡ over (reduced_row 3457 noise) (replicate 1024 0)
    → take n out ≡ reduced_row 3457 noise
noise_front n noise out l h e =
    ap (take n) e ∙ take-over (reduced_row 3457 noise) (replicate 1024 0) n (length-map noise (residue 3457) ∙ l) (omega (arith, length-replicate {A = ℕ} 1024 0))

pub secret_front : (n : ℕ) (f : List ℤ) (out : List ℕ) → length f ≡ 1024 → out ≡ over (reduced_row 2048 (secret f)) (replicate 1024 0)
    → take n out ≡ reduced_row 2048 (secret (take n f))
secret_front n f out l e =
    ap (take n) (e ∙ over-whole (reduced_row 2048 (secret f)) (replicate 1024 0) (length-map (secret f) (residue 2048) ∙ length-secret f ∙ l ∙ sym (length-replicate {A = ℕ} 1024 0)))
    ∙ take-reduced 2048 n f

-- residues that stand in a buffer are below a modulus that is known
pub front_below : (m k : ℕ) (row : List ℕ) (zs : List ℤ) → m ≡ k → 0 < k → row ≡ reduced_row k zs → all_below m row ≡ true
front_below m k row zs e h r = ap₂ all_below e r ∙ reduced-all_below k zs h

-- h times the noise
pub sigma_is : (n : ℕ) (h : List ℕ) (noise : List ℤ) → all_below 3457 h ≡ true → product_mod 3457 n h (reduced_row 3457 noise) ≡ sigma n h noise
unfolding sigma
sigma_is n h noise t = reduced-product 3456 n h noise t

-- c times f
pub measured_is : (m n : ℕ) (out c secret_row : List ℕ) (f : List ℤ) → m ≡ 2048 → all_below 2048 c ≡ true → secret_row ≡ reduced_row 2048 (secret f)
    → out ≡ product_mod m n c secret_row → out ≡ reduced_row 2048 (measured n f c)
unfolding measured
measured_is m n out c row f e t r p = p ∙ ap₂ (λ (k : ℕ) (x : List ℕ). product_mod k n c x) e r ∙ reduced-product 2047 n c (secret f) t

-- the octets of the first places, which the code cuts at n - 0
module _ (n : ℕ) (width : Width) (row : List ℕ) (v : List ℤ) where
  cut : take n row ≡ reduced_row 2048 v → whole (take (n - 0) row) ≡ whole (reduced_row 2048 v)
  cut e = ap (λ (k : ℕ). whole (take k row)) (omega arith) ∙ ap whole e

  pub farthest_front : (d : ℕ) (message : List ℕ) → take n row ≡ reduced_row 2048 v → d ≡ farthest width.bits (whole (take (n - 0) row)) message
      → d ≡ farthest width.bits v message
  farthest_front d message e p =
      p ∙ ap (λ (x : List ℤ). farthest width.bits x message) (cut e) ∙ farthest-reduced width.bits v message (omega (arith, width.ok)) width.ok.1

  pub decoded_front : (out : List ℕ) (count : ℕ) → take n row ≡ reduced_row 2048 v → out ≡ decoded width.bits (whole (take (n - 0) row)) count
      → out ≡ decoded width.bits v count
  decoded_front out count e p =
      p ∙ ap (λ (x : List ℤ). decoded width.bits x count) (cut e) ∙ decoded-reduced width.bits v count (omega (arith, width.ok)) width.ok.1
