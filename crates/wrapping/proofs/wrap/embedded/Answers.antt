use Rattle.std.proofs.Common.{◌≡◌, ℕ, ◌+◌, ◌*◌, ◌/◌, ◌%◌, ◌^◌, ◌<◌, ◌≤◌, ap₂, mul-le-mul, arith}
use Rattle.code.specs.Widths.{radius}
use Rattle.code.proofs.FoldLaws.{radius_twice}
use Rattle.wrapping.specs.Wraps.{rounded, embedded}
use Rattle.wrapping.proofs.wrap.embedded.Goals as goal

-- a radius times a number
most : (r x top : ℕ) → r ≤ 1024 → x ≤ top → r * x ≤ 1024 * top
most r x top h g = mul-le-mul h g

pub overflow_mul-rounded-2 : goal.overflow_mul-rounded-2
overflow_mul-rounded-2 c = omega (arith, most c.radius-modulus.result c.args.s 65535 (omega arith) (omega arith))

pub overflow_add-rounded : goal.overflow_add-rounded
overflow_add-rounded c = omega (arith, most c.radius-modulus.result c.args.s 65535 (omega arith) (omega arith))

pub overflow_add-raised : goal.overflow_add-raised
overflow_add-raised c =
    omega (arith, most c.radius-modulus.result c.args.s 65535 (omega arith) (omega arith), most c.radius.result c.args.bit 255 (omega arith) (omega arith))

-- the modulus is twice the radius
computed : (w s bit r m : ℕ) → 0 < w → r ≡ radius w → m ≡ radius w → ((2 * (2 * m * s) + 3457) / 6914 + r * bit) % (2 * m) ≡ embedded w s bit
unfolding embedded rounded
computed w s bit r m some r-is m-is =
    let e : 2 * m ≡ 2 ^ w = omega (arith, radius_twice w some) in
    ap₂ (λ a b. ((2 * (a * s) + 3457) / 6914 + b * bit) % a) e r-is

pub returns : goal.returns
returns c =
    computed c.args.width.bits c.args.s c.args.bit _ _ (omega arith) c.radius.ensures.value c.radius-modulus.ensures.value
