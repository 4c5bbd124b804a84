use Rattle.std.proofs.Common.{◌≡◌, ◌<◌, List, is_some as option_is_some, None, replicate, sym, ap, ◌∙◌, subst, ap₂}
use Rattle.ring.specs.Rows.{unit}
use Rattle.inversion.specs.Leading.{F, field, leading}
use Rattle.inversion.proofs.Runs.{height, run_starts, run_goes, run_falls, run_ends, run_moved, is_some, is_none}
use Rattle.inversion.proofs.Inverting.{solved}
use Rattle.inversion.proofs.euclid.solve.Goals as goal

pub loop-upper-init : goal.loop-upper-init
loop-upper-init c =
    run_moved (sym c.set_modulus.ensures) (sym (c.fill.ensures.after (λ y e. e) ∙ ap₂ replicate c.requires.rooms.1 c.zero.ensures))
    (sym c.set_padded.ensures) (sym (c.set_one.ensures ∙ ap (unit field) c.requires.rooms.3)) (run_starts c.args.f.now c.requires.lengths.0)

pub loop-upper-smaller : goal.loop-upper-smaller
loop-upper-smaller c =
    let q = is_some (leading c.loop-upper.lower) (sym (c.is_some.ensures ∙ ap option_is_some c.leading.ensures.is) ∙ c.loop-upper-test.true) in
    let falls = run_falls c.args.f.now c.loop-upper.upper c.loop-upper.upper_cofactor c.loop-upper.lower c.loop-upper.lower_cofactor
    c.requires.lengths.0 c.loop-upper.invariant q.0 q.1 in
    subst (λ (x : List F). height (leading x) < height (leading c.loop-upper.lower)) (sym (c.swap_with_slice.ensures.other_after ∙ c.divide.ensures.row)) falls

pub loop-upper-preserved : goal.loop-upper-preserved
loop-upper-preserved c =
    let q = is_some (leading c.loop-upper.lower) (sym (c.is_some.ensures ∙ ap option_is_some c.leading.ensures.is) ∙ c.loop-upper-test.true) in
    run_moved (sym c.swap_with_slice.ensures.after) (sym c.swap_with_slice-in-loop-upper.ensures.after)
    (sym (c.swap_with_slice.ensures.other_after ∙ c.divide.ensures.row)) (sym (c.swap_with_slice-in-loop-upper.ensures.other_after ∙ c.divide.ensures.beside))
    (run_goes c.args.f.now c.loop-upper.upper c.loop-upper.upper_cofactor c.loop-upper.lower c.loop-upper.lower_cofactor
    c.requires.lengths.0 c.loop-upper.invariant q.0 q.1)

pub returns : goal.returns
returns c =
    let end : leading c.loop-upper.lower ≡ None =
    is_none (leading c.loop-upper.lower) (sym (c.is_some.ensures ∙ ap option_is_some c.leading.ensures.is) ∙ c.loop-upper-test.false) in
    record {
      found = solved c.args.f.now c.args.u.now c.loop-upper.upper c.loop-upper.upper_cofactor c.loop-upper.lower c.loop-upper.lower_cofactor
          c.finish.new.u c.finish.result c.requires.lengths.0 c.requires.lengths.1 c.loop-upper.invariant end c.finish.ensures.found;
      refuses = c.finish.ensures.refuses;
      last = run_ends c.args.f.now c.loop-upper.upper c.loop-upper.upper_cofactor c.loop-upper.lower c.loop-upper.lower_cofactor c.loop-upper.invariant end;
    }
