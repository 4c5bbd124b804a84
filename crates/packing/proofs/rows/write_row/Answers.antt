use Rattle.std.proofs.Common.{◌≡◌, ℕ, ◌+◌, ◌-◌, ◌*◌, ◌/◌, ◌^◌, ◌<◌, ◌≤◌, true, List, ◌∷◌, length, sym, ap, ◌∙◌, subst, ap₂, arith, rules}
use Rattle.std.specs.Slice.Iter.{iter_rest}
use Rattle.std.proofs.lemmas.List.{length-set}
use Rattle.std.proofs.lemmas.Bool.{and_parts}
use Rattle.std.proofs.lemmas.Option.{MatchOption-at_some}
use Rattle.ring.specs.Engines.{all_below}
use Rattle.packing.specs.Digits.{value, digits, packed}
use Rattle.packing.proofs.Filling.{Filling, fill_none, fill_more, fill_all}
use Rattle.packing.proofs.Streams.{stream, loaded, rest_is, lowest_is}
use Rattle.packing.proofs.rows.write_row.Goals as goal
use Rattle.packing.proofs.rows.write_row.Goals.{then-pending-lt8+in-Some, else-pending-lt8, else-pending-lt8-via-else-pending-lt8, else-pending-lt8-via-then-pending-lt8+in-None-1}

pub loop-place-init : goal.loop-place-init
loop-place-init c =
    let out = c.args.out.now in
    let row = c.args.row.now in
    let w = c.args.width.bits in
    let whole = value (2 ^ w) row in
    let empty = c.none-pending.ensures in
    let here : iter_rest c.iter-numbers.result ≡ row = c.iter-numbers.ensures.rest in
    let all : whole ≡ stream c.none-pending.result.number c.none-pending.result.count w (iter_rest c.iter-numbers.result) =
    omega (arith, empty.0, ap₂ (λ k xs. 2 ^ k * value (2 ^ w) xs) empty.1 here) in
    (subst (λ v. Filling 256 out 0 v whole) all (fill_none 256 out whole), omega (arith, empty.1, ap (λ xs. w * length xs) here, c.requires.fills), ap (all_below (2 ^ w)) here ∙ c.requires.fits, omega (arith, empty.1))

-- the bits to come are the same after a load, and there are enough of them for a byte
record Refilled (w p k q j : ℕ) (xs rest : List ℕ) : Type 0 where
  same : stream q j w rest ≡ stream p k w xs
  bits : j + w * length rest ≡ k + w * length xs
  fits : all_below (2 ^ w) rest ≡ true
  enough : 8 ≤ j
  room : j < 20

pub loop-place-preserved : goal.loop-place-preserved
loop-place-preserved c =
    let w = c.args.width.bits in
    let out = c.loop-place.out in
    let i = c.loop-place.place-index in
    let before = c.loop-place.pending in
    let filled = c.if-pending-lt8.pending in
    let xs = iter_rest c.loop-place.numbers in
    let rest = iter_rest c.if-pending-lt8.numbers in
    let whole = value (2 ^ w) c.args.row.now in
    let v = value (2 ^ w) rest in
    let x = c.pass_on.result in
    let got = c.pass_on.ensures in
    let refilled : Refilled w before.number before.count filled.number filled.count xs rest =
    elim c.if-pending-lt8.branch [
      | then-pending-lt8+in-Some t ↦
          let split = MatchOption-at_some _ _ _ t.in-Some.is t.next.ensures.steps in
          let left : rest ≡ iter_rest t.next.new.self = ap iter_rest t.numbers-is in
          let count : filled.count ≡ before.count + w = ap (λ s. s.count) t.pending-is ∙ t.load.ensures.count in
          let one : length xs ≡ length rest + 1 = omega (arith, ap length split, ap length left) in
          record {
            same = loaded before.number before.count w t.in-Some.x.now filled.number filled.count xs rest (split ∙ ap (λ r. t.in-Some.x.now ∷ r) (sym left)) (ap (λ s. s.number) t.pending-is ∙ t.load.ensures.number) count;
            bits = omega (arith, count, ap (λ n. w * n) one);
            fits = ap (all_below (2 ^ w)) left ∙ (and_parts _ _ (ap (all_below (2 ^ w)) (sym split) ∙ c.loop-place.invariant.2)).1;
            enough = omega (arith, count, c.args.width.ok.0);
            room = omega (arith, count, c.args.width.ok.1, t.if-pending-lt8.true);
          }
      | else-pending-lt8 t ↦
          let count : filled.count ≡ before.count = ap (λ s. s.count) t.pending-is in
          elim t.else-pending-lt8.branch [
            | else-pending-lt8-via-else-pending-lt8 u ↦
                let left : rest ≡ xs = ap iter_rest (t.numbers-is ∙ u.numbers-is) in
                record {
                  same = ap₂ (λ s r. stream s.number s.count w r) t.pending-is left;
                  bits = omega (arith, count, ap (λ r. w * length r) left);
                  fits = ap (all_below (2 ^ w)) left ∙ c.loop-place.invariant.2;
                  enough = omega (arith, count, u.if-pending-lt8.false);
                  room = omega (arith, count, c.loop-place.invariant.3);
                }
            | else-pending-lt8-via-then-pending-lt8+in-None-1 u ↦
                let none : length xs ≡ 0 = search rules in
                absurd (omega (arith, ap (λ k. w * k) none, u.if-pending-lt8.true, c.loop-place.invariant.1))
          ]
    ] in
    let fewer : c.pass_on.new.self.count ≡ filled.count - 8 = omega (arith, got.count) in (
      fill_more 256 out i _ _ whole x (omega arith) (got.answers ∙ sym (lowest_is filled.number filled.count 8 v refilled.enough)) (ap₂ (λ n k. n + 2 ^ k * v) got.number fewer ∙ sym (rest_is filled.number filled.count 8 v refilled.enough))
          (subst (λ v. Filling 256 out i v whole) (sym refilled.same) c.loop-place.invariant.0),
      omega (arith, length-set out i x, refilled.bits, got.count, c.loop-place.invariant.1),
      refilled.fits,
      omega (arith, got.count, refilled.room),
    )

pub returns : goal.returns
unfolding packed
returns c =
    let w = c.args.width.bits in
    let row = c.args.row.now in
    let out = c.loop-place.out in
    let whole = value (2 ^ w) row in
    let over : length out ≤ c.loop-place.place-index = omega arith in
    let bytes : length out ≡ length row * w / 8 = omega (arith, c.requires.fills, c.loop-place.auto.out) in
    fill_all 256 out _ _ whole over c.loop-place.invariant.0 ∙ ap (λ k. digits 256 k whole) bytes
