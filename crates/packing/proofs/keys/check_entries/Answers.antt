use Rattle.std.proofs.Common.{◌≡◌, ◌-◌, Err, Result, sym, ap, ◌∙◌, ap₂, arith}
use Rattle.std.proofs.lemmas.Bool.{cond-true, cond-false}
use Rattle.std.proofs.lemmas.Result.{err_from_is_err_and}
use Rattle.ring.specs.declared.refusal.Refusal.{Refusal}
use Rattle.ring.specs.Engines.{all_below}
use Rattle.packing.specs.Digits.{digits, unpacked}
use Rattle.packing.specs.Reading.{unread}
use Rattle.packing.proofs.Entries.{entry_stops, entry_goes, entry_refused, entry_obeyed}
use Rattle.packing.proofs.Takes.{taken_is}
use Rattle.packing.proofs.keys.check_entries.Goals as goal

pub loop-init : goal.loop-init
unfolding unpacked
loop-init c =
    let n = c.args.n in (
      ap₂ (λ k v. all_below 3457 (digits 4096 k v)) (let e : n ≡ n - 0 = omega arith in e) (sym c.new-reader.ensures.number),
      omega (arith, c.new-reader.ensures.bits, c.requires),
    )

pub returns-in_err-check_residue : goal.returns-in_err-check_residue
returns-in_err-check_residue c =
    let x = c.in_ok-entry.entry in
    let got = c.in_ok-entry.ensures in
    let why = entry_refused x _ c.in_err-check_residue.ensures in
    let stops = entry_stops 3457 4096 _ _ _ (unread c.take.new.self) x c.loop-test.true (taken_is 12 _ _ x got.answers) got.moves.0 why.0 in
    let exit = err_from_is_err_and c.from_residual-in_err-check_residue.result c.from_residual-in_err-check_residue.ensures.1 in
    exit.1 ∙ ap {B = Result (Unit {0}) Refusal} Err (exit.2 ∙ why.1) ∙ sym (cond-false _ _ _ (c.loop.invariant.0 ∙ stops))

pub loop-preserved : goal.loop-preserved
loop-preserved c =
    let x = c.in_ok-entry.entry in
    let got = c.in_ok-entry.ensures in
    let low = entry_obeyed x c.in_ok-check_residue.ensures in
    let goes = entry_goes 3457 4096 _ _ _ (unread c.take.new.self) x c.loop-test.true (taken_is 12 _ _ x got.answers) got.moves.0 low in
    (c.loop.invariant.0 ∙ goes, omega (arith, got.moves.1))

pub returns : goal.returns
unfolding digits
returns c =
    let none : c.args.n - c.loop.counter ≡ 0 = omega arith in
    sym (cond-true _ _ _ (c.loop.invariant.0 ∙ ap (λ k. all_below 3457 (digits 4096 k (unread c.loop.reader))) none))
