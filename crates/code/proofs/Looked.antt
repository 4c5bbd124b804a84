-- A number of a list at an index, 0 past the end.
use Rattle.std.proofs.Common.{◌≡◌, ℕ, Bor, List, length, get_or, Option, Some, None, sym, ◌∙◌}
use Rattle.std.specs.Slice.{IsItemAt}
use Rattle.std.specs.Option.{option_copied, unwrap_or}
use Rattle.std.proofs.lemmas.List.{get_or_past, get_or_default}
use Rattle.std.proofs.lemmas.Bool.{ltb-true, ltb-false}

pub item_or_zero : (xs : List ℕ) (i : ℕ) (o : Option (Bor ℕ)) → IsItemAt xs i o → unwrap_or (option_copied o) 0 ≡ get_or xs i 0
item_or_zero xs i None h = sym (get_or_past xs i 0 (ltb-false i (length xs) (sym h.0)))
item_or_zero xs i (Some x) h = h.1 ∙ get_or_default xs i x.now 0 (ltb-true i (length xs) (sym h.0))
