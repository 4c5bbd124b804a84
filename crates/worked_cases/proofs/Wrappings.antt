-- Deposits and a trim under two keys.
use Rattle.std.proofs.Common.{◌≡◌, ℕ, ◌*◌, ◌<◌, ◌≤◌, cond, List, [], ◌∷◌, length, set, replicate, ℤ, Some, Ok, Err, refl, ap, ◌∙◌, mul-le-mul, arith}
use Rattle.ring.specs.Rows.{product, plus, times, turn, bump}
use Rattle.ring.specs.declared.refusal.Refusal.TheVariants.{TooNoisy, Unkeyed}
use Rattle.code.specs.Words.{word}
use Rattle.code.specs.Distances.{distance}
use Rattle.code.specs.Folds.{fold, rest}
use Rattle.code.specs.Widths.{radius}
use Rattle.code.specs.Messages.{number}
use Rattle.code.specs.Rows.{octet, greatest, farthest}
use Rattle.code.specs.Roots.{root_up, LeastRoot}
use Rattle.code.proofs.RootLaws.{root_least, root_unique}
use Rattle.wrapping.specs.Secrets.{secret, reduced_row}
use Rattle.wrapping.specs.Wraps.{wrap, sigma, rounded, position, embedded, embedded_row, measured, allowance}
use Rattle.wrapping.specs.Trims.{halved, trim_loss, trimmed_allowance}
use Rattle.keying.specs.declared.key.Key.{Key}
use Rattle.places.specs.Books.{Line, empty_book}
use Rattle.places.specs.Replies.{Reply, then}
use Rattle.places.specs.Lines.{quiet}
use Rattle.places.specs.Checks.{vacant}
use Rattle.custody.specs.Checks.{deposit, trim}
use Rattle.keying.specs.Keys.{f_of, h_of}
use Rattle.keying.specs.Keying.{Made}
use Rattle.keying.specs.Told.{ready}
use Rattle.worked_cases.specs.Sparse.{numbers_at, wholes_at}
use Rattle.worked_cases.specs.Table.{told, one, third, sixes, wrapped}
use Rattle.worked_cases.proofs.Keys.{h_from}
use Rattle.worked_cases.proofs.Rings.{third-inverts, third_is, one-inverts, six_is}

pub wrap_is : wrap 16 10 third one (0 ∷ []) ≡ wrapped.coefficients
unfolding sigma rounded position embedded embedded_row radius word number product plus times turn bump
wrap_is = refl

pub allowance_is : allowance 16 10 one wrapped.coefficients (0 ∷ []) ≡ 1
unfolding allowance measured secret root_up farthest greatest octet distance fold rest radius word number product plus times turn bump
allowance_is = refl

loss_is : trim_loss 16 10 one wrapped.coefficients ≡ 3
unfolding trim_loss measured secret root_up farthest greatest octet distance fold rest radius word number product plus times turn bump
loss_is = refl

-- six times six everywhere
noisy : wrap 16 10 (replicate 16 6) sixes (0 ∷ []) ≡ 800 ∷ 832 ∷ 864 ∷ 896 ∷ 928 ∷ 960 ∷ 992 ∷ 0 ∷ replicate 8 256
unfolding sigma rounded position embedded embedded_row radius word number product plus times turn bump
noisy = refl

noisy_far : farthest 10 (measured 16 (wholes_at []) (800 ∷ 832 ∷ 864 ∷ 896 ∷ 928 ∷ 960 ∷ 992 ∷ 0 ∷ replicate 8 256)) (0 ∷ []) ≡ 524288
unfolding measured secret farthest greatest octet distance fold rest radius word number product plus times turn bump
noisy_far = refl

noisy_root : LeastRoot 524288 725
noisy_root = record { enough = omega arith; least = λ j h. square j (omega arith) }
  where
    square : (j : ℕ) → j ≤ 724 → j * j < 524288
    square j h = omega (arith, mul-le-mul h h)

pub noisy_allowance : allowance 16 10 (wholes_at []) (wrap 16 10 (replicate 16 6) sixes (0 ∷ [])) (0 ∷ []) ≡ 725
unfolding allowance
noisy_allowance =
    ap (λ (c : List ℕ). root_up (farthest 10 (measured 16 (wholes_at []) c) (0 ∷ []))) noisy
    ∙ ap root_up noisy_far
    ∙ root_unique 524288 (root_up 524288) 725 (root_least 524288) noisy_root

-- a line at width 10, if it is quiet
abbrev kept : List ℕ → ℕ → Reply Line
kept c a = quiet (record { width = 10; coefficients = c; allowance = a })

-- a deposit of the zero message at width 10 into an empty station, from what the key holds
abbrev reply : List ℤ → ℕ → List ℤ → List ℕ → Reply Line
reply r n f h =
    cond (ready n told)
    (then (vacant n empty_book 0 10 r (0 ∷ [])) (λ _. kept (wrap n 10 h r (0 ∷ [])) (allowance n 10 f (wrap n 10 h r (0 ∷ [])) (0 ∷ []))))
    (Err Unkeyed)

deposit_is : (key : Key) (f g r : List ℤ) (h : List ℕ) → Made 16 f g key → h_of key ≡ h → deposit key told empty_book 0 10 r (0 ∷ []) ≡ reply r 16 f h
deposit_is key f g r h m e =
    ap (λ (n : ℕ). reply r n (f_of key) (h_of key)) m.degree ∙ ap (λ (x : List ℤ). reply r 16 x (h_of key)) m.f_kept ∙ ap (reply r 16 f) e

one-long : length (reduced_row 3457 (secret one)) ≡ 16
unfolding secret
one-long = refl

none_long : length (reduced_row 3457 (secret (wholes_at []))) ≡ 16
unfolding secret
none_long = refl

quiet_one : kept wrapped.coefficients 1 ≡ Ok wrapped
unfolding radius
quiet_one = refl

loud : (c : List ℕ) → kept c 725 ≡ Err TooNoisy
unfolding radius
loud c = refl

pub wraps : (key : Key) → Made 16 one one key → deposit key told empty_book 0 10 one (0 ∷ []) ≡ Ok wrapped
wraps key m =
    deposit_is key one one one third m (h_from one one third third key m one-long third-inverts third_is)
    ∙ ap (λ (c : List ℕ). kept c (allowance 16 10 one c (0 ∷ []))) wrap_is
    ∙ ap (kept wrapped.coefficients) allowance_is
    ∙ quiet_one

pub too_noisy : (key : Key) → Made 16 (wholes_at []) sixes key → deposit key told empty_book 0 10 sixes (0 ∷ []) ≡ Err TooNoisy
too_noisy key m =
    deposit_is key (wholes_at []) sixes sixes (replicate 16 6) m (h_from (wholes_at []) sixes (numbers_at ((0, 1) ∷ [])) (replicate 16 6) key m none_long one-inverts six_is)
    ∙ ap (kept (wrap 16 10 (replicate 16 6) sixes (0 ∷ []))) noisy_allowance
    ∙ loud (wrap 16 10 (replicate 16 6) sixes (0 ∷ []))

-- the trimmed line, if it is quiet
abbrev shorter : ℕ → List ℤ → Reply Line
shorter n f =
    cond (ready n told)
    (quiet (record { width = 9; coefficients = numbers_at ((0, 342) ∷ []); allowance = trimmed_allowance 1 (trim_loss n 10 f wrapped.coefficients) }))
    (Err Unkeyed)

halved_is : (key : Key) → trim key told (set empty_book 0 (Some wrapped)) 0 ≡ shorter key.degree (f_of key)
unfolding halved
halved_is key = refl

quiet_two : quiet (record { width = 9; coefficients = numbers_at ((0, 342) ∷ []); allowance = trimmed_allowance 1 3 })
    ≡ Ok (record { width = 9; coefficients = numbers_at ((0, 342) ∷ []); allowance = 2 })
unfolding radius trimmed_allowance
quiet_two = refl

pub trims : (key : Key) → Made 16 one one key → trim key told (set empty_book 0 (Some wrapped)) 0
    ≡ Ok (record { width = 9; coefficients = numbers_at ((0, 342) ∷ []); allowance = 2 })
trims key m =
    halved_is key
    ∙ ap (λ (n : ℕ). shorter n (f_of key)) m.degree ∙ ap (shorter 16) m.f_kept
    ∙ ap (λ (d : ℕ). quiet (record { width = 9; coefficients = numbers_at ((0, 342) ∷ []); allowance = trimmed_allowance 1 d })) loss_is
    ∙ quiet_two
