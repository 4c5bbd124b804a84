use Rattle.std.proofs.Common.{◌≡◌, ℕ, ◌+◌, ◌<◌, cond, eqb, [], ◌∷◌, ◌++◌, length, get_or, take, ℤ, pos, sym, ap, ◌∙◌, subst, ap₂, arith, w32, SFits, rules}
use Rattle.std.proofs.lemmas.List.{take_all, length-append}
use Rattle.std.proofs.lemmas.Int.{to_z-of_z}
use Rattle.std.proofs.lemmas.Slice.Zip.{zip_turn, zip_end}
use Rattle.code.specs.Widths.{radius}
use Rattle.code.specs.Words.{word}
use Rattle.code.specs.Distances.{cost}
use Rattle.code.proofs.WordLaws.{word-length, word-binary}
use Rattle.code.proofs.DistanceLaws.{gap, distance-gap, cost_picked}
use Rattle.code.proofs.Searches.{gap_more, bit_below}
use Rattle.code.proofs.distance.distance.Goals as goal

-- what a turn adds
turn : (r b : ℕ) (z : ℤ) (x n m : ℕ) → b < 2 → n ≡ cost r z 0 → m ≡ cost r z 1 → x ≡ cond (eqb b 0) n m → x ≡ cost r z b
turn r b z x n m h en em ex = ex ∙ ap₂ (cond (eqb b 0)) en em ∙ cost_picked r z b h

pub loop-x-preserved : goal.loop-x-preserved
loop-x-preserved c =
    let r = radius c.args.width.bits in
    let bits = word c.args.number.value in
    let n = length c.loop-x.yielded in
    let place = zip_turn c.args.octet bits c.loop-x.yielded _ _ c.next.new.self _ (search rules) (search rules ∙ c.word-bits.ensures) c.loop-x.yielded_by _ c.in-Some.is c.next.ensures.steps in
    let f : SFits w32 (get_or c.args.octet n (pos 0)) = search rules in
    let fits : SFits w32 c.in-Some.x.now = subst (SFits w32) (sym (place.2 (pos 0))) f in
    let low = subst (λ (b : ℕ). b < 2) (sym (place.3 0)) (bit_below bits n (word-binary c.args.number.value c.args.number.small)) in
    let t = turn r c.in-Some.bit.now c.in-Some.x.now c.pick-sum.result _ _ low (simp to_z-of_z at c.place_costs.ensures.zero) (simp to_z-of_z at c.place_costs.ensures.one) c.pick-sum.ensures.value in
    let added : c.pick-sum.result ≡ cost r (get_or c.args.octet n (pos 0)) (get_or bits n 0) = t ∙ ap₂ (cost r) (place.2 (pos 0)) (place.3 0) in
    let more : length (c.loop-x.yielded ++ (c.in-Some.x, c.in-Some.bit) ∷ []) ≡ n + 1 = length-append c.loop-x.yielded _ in (
      omega (arith, more, c.loop-x.invariant.0, c.pick-sum.ensures.small),
      omega (arith, more, place.0),
      omega (arith, c.loop-x.invariant.2, added, gap_more r c.args.octet bits n place.0 place.1) ∙ sym (ap (λ k. gap r (take k c.args.octet) (take k bits)) more),
    )

pub returns : goal.returns
returns c =
    let bits = word c.args.number.value in
    let ends = zip_end c.args.octet bits c.loop-x.yielded _ _ c.next.new.self _ (search rules) (search rules ∙ c.word-bits.ensures) c.loop-x.yielded_by c.in-None.is c.next.ensures.steps in
    let l : length c.args.octet ≡ 8 = search rules in
    let m : length bits ≡ 8 = word-length c.args.number.value c.args.number.small in
    c.loop-x.invariant.2
    ∙ ap₂ (gap (radius c.args.width.bits)) (take_all _ c.args.octet (omega (arith, ends))) (take_all _ bits (omega (arith, ends)))
    ∙ sym (distance-gap c.args.width.bits c.args.octet c.args.number.value)
