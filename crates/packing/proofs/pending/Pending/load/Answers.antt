use Rattle.std.proofs.Common.{◌≡◌, ℕ, ◌+◌, ◌*◌, ◌%◌, ◌^◌, ◌<◌, ap, mod-eq_of_lt, pow_mono, arith}
use Rattle.packing.proofs.Streams.{above_lt}
use Rattle.packing.proofs.pending.Pending.load.Goals as goal

-- the bits that are there and those above them have room
room : (n k w x : ℕ) → k + w < 20 → n < 2 ^ k → x < 2 ^ w → n + x * 2 ^ k < 1048576
room n k w x some low small = omega (arith, above_lt n k w x low small, pow_mono {i = k + w} {j = 20} (omega arith))

whole : (n k w x : ℕ) → k + w < 20 → n < 2 ^ k → x < 2 ^ w → x * 2 ^ k % 4294967296 ≡ x * 2 ^ k
whole n k w x some low small = mod-eq_of_lt (omega (arith, room n k w x some low small))

pub overflow_add-self : goal.overflow_add-self
overflow_add-self c =
    let here = c.args.self.now in
    record { fits = omega (arith, room here.number here.count c.args.width c.args.number c.requires.room here.ok.1 c.requires.fits) }

pub invariant_of-self : goal.invariant_of-self
invariant_of-self c =
    let here = c.args.self.now in
    let same = whole here.number here.count c.args.width c.args.number c.requires.room here.ok.1 c.requires.fits in
    record { ok = (c.requires.room, omega (arith, same, above_lt here.number here.count c.args.width c.args.number here.ok.1 c.requires.fits)) }

pub returns-clause-number : goal.returns-clause-number
returns-clause-number c =
    let here = c.args.self.now in
    ap (λ x. here.number + x) (whole here.number here.count c.args.width c.args.number c.requires.room here.ok.1 c.requires.fits)
