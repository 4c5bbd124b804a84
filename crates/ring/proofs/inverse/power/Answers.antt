use Rattle.std.proofs.Common.{◌*◌, ◌%◌, true, false, sym, ap, ◌∙◌}
use Rattle.ring.specs.Powers.{climb, exponent}
use Rattle.ring.proofs.Inverses.{climb-more, climb-all}
use Rattle.ring.proofs.inverse.power.Goals as goal
use Rattle.ring.proofs.inverse.power.Goals.{then-set, else-set}

pub loop-set-init : goal.loop-set-init
loop-set-init c = ap (λ w. climb c.args.x.value w.value exponent) c.of-power.ensures

pub loop-set-preserved : goal.loop-set-preserved
loop-set-preserved c =
    elim c.if-set.branch [
      | then-set w ↦ climb-more c.args.x.value c.loop-set.power.value _ c.loop-set.set-index true c.loop-set-test.true (sym w.if-set.true)
          (ap (λ v. v.value) (w.power-is ∙ w.times-power-then-set.ensures) ∙ ap (λ v. v.value * c.args.x.value % 3457) c.times-power.ensures)
          ∙ c.loop-set.invariant
      | else-set w ↦ climb-more c.args.x.value c.loop-set.power.value _ c.loop-set.set-index false c.loop-set-test.true (sym w.if-set.false)
          (ap (λ v. v.value) (w.power-is ∙ c.times-power.ensures))
          ∙ c.loop-set.invariant
    ]

pub returns : goal.returns
returns c = sym (climb-all c.args.x.value c.loop-set.power.value c.loop-set.set-index c.loop-set-test.false) ∙ c.loop-set.invariant
