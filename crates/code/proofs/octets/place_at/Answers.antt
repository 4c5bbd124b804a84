use Rattle.std.proofs.Common.{◌≡◌, ℕ, ◌+◌, ◌*◌, ◌^◌, ◌<◌, min, List, length, slice_index_or, pos, sym, ap, ◌∙◌, inl, inr, ◌-◌, arith, w32, to_z, rules}
use Rattle.std.specs.Option.{unwrap_or}
use Rattle.std.proofs.lemmas.Bool.{cases_lt}
use Rattle.std.proofs.lemmas.List.{get_or_past}
use Rattle.std.proofs.lemmas.Int.{ints}
use Rattle.code.proofs.Looked.{item_or_zero}
use Rattle.code.proofs.RowLaws.{whole-at}
use Rattle.code.proofs.octets.place_at.Goals as goal

-- a place that does not fit its type is past the end
saturated : (row : List ℕ) (i n : ℕ) → length row < 2 ^ 64 → i ≡ min n (2 ^ 64 - 1) → slice_index_or row i 0 ≡ slice_index_or row n 0
saturated row i n l e =
    elim (cases_lt n (2 ^ 64 - 1)) [
      | inl h ↦ ap (λ (k : ℕ). slice_index_or row k 0) (omega (arith, e))
      | inr h ↦ get_or_past row i 0 (omega (arith, e)) ∙ sym (get_or_past row n 0 (omega arith))
    ]

pub returns : goal.returns
returns c =
    let row = c.args.row.now in
    let i = c.saturating_add-place.result in
    let n = 8 * c.args.octet + c.args.position in
    let l : length row < 2 ^ 64 = search rules in
    let e : c.unwrap_or.result ≡ slice_index_or row i 0 = c.unwrap_or.ensures ∙ ap (λ o. unwrap_or o 0) c.copied.ensures ∙ item_or_zero row i _ c.get.ensures.lookup in
    let p : to_z w32 c.unwrap_or.result ≡ pos c.unwrap_or.result = omega (arith, ints) in
    p ∙ ap pos (e ∙ saturated row i n l (omega (arith, c.saturating_mul.ensures, c.saturating_add-place.ensures))) ∙ sym (whole-at row n)
