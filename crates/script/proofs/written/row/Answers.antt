use Rattle.std.proofs.Common.{◌≡◌, true, false, [], ◌++◌, get_or, codes, lit<, sym, refl, ap, ◌∙◌, rules}
use Rattle.std.proofs.Output.{has_written_of_eq}
use Rattle.std.proofs.lemmas.Str.{IsUtf8-from_ascii}
use Rattle.std.proofs.lemmas.Str.Ascii.{IsAscii-nil, IsAscii-cons}
use Rattle.script.specs.Written.{term_text}
use Rattle.script.proofs.Listing.{listed_skip, listed_more, listed-done, first_yet}
use Rattle.script.proofs.Writing.{written-more, written_same, written_all}
use Rattle.script.proofs.written.row.Goals as goal

pub loop-place-init : goal.loop-place-init
loop-place-init g c = (([], (refl, refl)), (true, refl, ([], refl, λ plain. search rules)))

pub loop-place-preserved-then-value-eq0 : goal.loop-place-preserved-then-value-eq0
loop-place-preserved-then-value-eq0 g c =
    let was = c.loop-place.invariant.1 in (
      c.loop-place.invariant.0,
      (
        was.0,
        was.1,
        written_same g.W.Write.write_str_gives _ _ _ _ _ was.2
            (listed_skip was.0 c.args.values.now c.loop-place.place c.loop-place-test.true c.if-value-eq0.true),
      ),
    )

pub loop-place-preserved : goal.loop-place-preserved
loop-place-preserved g c =
    let was = c.loop-place.invariant.1 in
    let place = c.loop-place.place in
    let term = term_text place (get_or c.args.values.now place 0) in (
      IsUtf8-from_ascii (codes ",") (IsAscii-cons 44 [] (lit< tt) IsAscii-nil),
      (
        false,
        refl,
        written-more g.W.Write.write_str_gives _ _ _ _ _ _ _ was.2
            (listed_more was.0 c.args.values.now place c.loop-place-test.true c.if-value-eq0.false)
            (λ plain. has_written_of_eq g.W.Write.write_str_gives _ _ _ _ (ap (λ s. s ++ term) was.1) (c.in_ok-term.ensures plain refl)),
      ),
    )

pub returns-then-is_empty : goal.returns-then-is_empty
returns-then-is_empty g c plain ok =
    let was = c.loop-place.invariant.1 in
    let last = listed-done was.0 c.args.values.now c.loop-place.place c.loop-place-test.false in
    let yes : was.0 ≡ true = sym (first_yet was.0 c.loop-place.separator.now was.1) ∙ sym c.is_empty.ensures ∙ c.if-is_empty.true in
    written_all g.W.Write.write_str_gives _ _ _ []
    (written-more g.W.Write.write_str_gives _ _ _ _ _ (codes "-") [] was.2 (last ∙ rw yes) (λ p. c.write.ensures.writes p ok))
    refl plain

pub returns-else-is_empty : goal.returns-else-is_empty
returns-else-is_empty g c plain ok =
    let was = c.loop-place.invariant.1 in
    let last = listed-done was.0 c.args.values.now c.loop-place.place c.loop-place-test.false in
    let no : was.0 ≡ false = sym (first_yet was.0 c.loop-place.separator.now was.1) ∙ sym c.is_empty.ensures ∙ c.if-is_empty.false in
    written_all g.W.Write.write_str_gives _ _ _ _ was.2 (last ∙ rw no) plain
