-- Products of whole numbers, multiplied out.
use Rattle.std.proofs.Common.{◌≡◌, ℤ, ◌*ℤ◌, neg_ℤ, ap, ◌∙◌}
use lib.IntN.{*ℤ_comm}
use Rattle.ring.specs.Integers.{integers, *ℤ-+ℤ, +ℤ-*ℤ, *ℤ-assoc}
use Rattle.ring.proofs.Scalars.{mul-neg, mul_left_comm}

pub times-neg : (a b : ℤ) → a *ℤ neg_ℤ b ≡ neg_ℤ (a *ℤ b)
times-neg a b = mul-neg integers a b

pub neg-times : (a b : ℤ) → neg_ℤ a *ℤ b ≡ neg_ℤ (a *ℤ b)
neg-times a b = *ℤ_comm (neg_ℤ a) b ∙ times-neg b a ∙ ap neg_ℤ (*ℤ_comm b a)

pub times-left : (a b c : ℤ) → a *ℤ (b *ℤ c) ≡ b *ℤ (a *ℤ c)
times-left a b c = mul_left_comm integers a b c

-- sums and signs go out of products, and factors come in one order
pub ruleset spread = (*ℤ-+ℤ, +ℤ-*ℤ, times-neg, neg-times, *ℤ-assoc, times-left, *ℤ_comm)
