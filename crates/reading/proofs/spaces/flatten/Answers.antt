use Rattle.std.proofs.Common.{◌≡◌, ◌-◌, length, drop, ap, ◌∙◌, take_all, length-drop, arith}
use Rattle.reading.specs.Spaces.{white_front}
use Rattle.reading.proofs.Spacing.{going_starts, going_kept, going_blank, going_ends}
use Rattle.reading.proofs.spaces.flatten.Goals.{then-white-gt0, else-white-gt0}
use Rattle.reading.proofs.spaces.flatten.Goals as goal

pub loop-i-init : goal.loop-i-init
loop-i-init c = going_starts _

pub loop-i-preserved : goal.loop-i-preserved
loop-i-preserved c =
    let old = c.args.text.now in
    let text = c.loop-i.text in
    let i = c.loop-i.i in
    let left = c.loop-i.left in
    let white = c.white_at_front-white.result in
    let next = c.saturating_sub-left in
    let whole : white ≡ white_front left (drop i text) =
    c.white_at_front-white.ensures ∙ ap (white_front left) (take_all (length text - i) (drop i text) (omega (arith, length-drop i text))) in
    elim c.if-white-gt0.branch [
      | then-white-gt0 w ↦
          going_blank old text i left c.loop-i-test.true c.loop-i.invariant white next.result c.if-white-gt0.text whole w.if-white-gt0.true w.text-is next.ensures
      | else-white-gt0 w ↦
          going_kept old text i left c.loop-i-test.true c.loop-i.invariant white next.result c.if-white-gt0.text whole w.if-white-gt0.false w.text-is next.ensures
    ]

pub returns : goal.returns
returns c = going_ends _ _ c.loop-i.i c.loop-i.left c.loop-i-test.false c.loop-i.invariant
