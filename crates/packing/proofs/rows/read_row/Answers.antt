use Rattle.std.proofs.Common.{◌≡◌, ◌+◌, ◌-◌, ◌*◌, ◌^◌, ◌<◌, ◌≤◌, length, sym, refl, ap, ◌∙◌, subst, arith}
use Rattle.std.proofs.lemmas.List.{length-set}
use Rattle.packing.specs.Digits.{value, digits, unpacked}
use Rattle.packing.proofs.Filling.{Filling, fill_none, fill_more, fill_all}
use Rattle.packing.proofs.Takes.{taken_is, taken_never, one_left, one_fewer}
use Rattle.packing.proofs.rows.read_row.Goals as goal

pub loop-place-init : goal.loop-place-init
loop-place-init c =
    let w = c.args.width.bits in
    let out = c.args.out.now in
    let whole = value 256 c.args.bytes.now in
    let all : length out ≡ length out - 0 = omega arith in (
      subst (λ v. Filling (2 ^ w) out 0 v whole) (sym c.new-reader.ensures.number) (fill_none (2 ^ w) out whole),
      omega (arith, c.new-reader.ensures.bits, c.requires, ap (λ k. k * w) all),
    )

pub returns-in_err-place : goal.returns-in_err-place
returns-in_err-place c =
    let w = c.args.width.bits in
    let some = one_left w (length c.loop-place.out - c.loop-place.place-index) (omega arith) in
    absurd (taken_never w _ _ _ c.args.width.ok.0 c.args.width.ok.1 (omega arith) c.in_err-place.ensures.answers)

pub loop-place-preserved : goal.loop-place-preserved
loop-place-preserved c =
    let w = c.args.width.bits in
    let out = c.loop-place.out in
    let i = c.loop-place.place-index in
    let x = c.in_ok-place.field-0 in
    let got = c.in_ok-place.ensures in
    let within : i < length out = omega arith in (
      fill_more (2 ^ w) out i _ _ _ x within (taken_is w _ _ x got.answers) got.moves.0 c.loop-place.invariant.0,
      omega (arith, got.moves.1, one_fewer w (length out) i within) ∙ ap (λ k. (k - (i + 1)) * w) (sym (length-set out i x)),
    )

pub returns : goal.returns
unfolding unpacked
returns c =
    let w = c.args.width.bits in
    let out = c.loop-place.out in
    let whole = value 256 c.args.bytes.now in
    let over : length out ≤ c.loop-place.place-index = omega arith in
    record {
      answers = refl;
      writes = fill_all (2 ^ w) out _ _ whole over c.loop-place.invariant.0 ∙ ap (λ k. digits (2 ^ w) k whole) c.loop-place.auto.out;
    }
