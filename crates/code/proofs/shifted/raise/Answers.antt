use Rattle.std.proofs.Common.{get_or, pos, ◌+ℤ◌, w32, SFits, rules}
use Rattle.std.specs.Int.{int_wrap}
use Rattle.std.proofs.lemmas.Int.{to_z-of_z, wrapping_add_is}
use Rattle.code.proofs.Shifts.{at_odd_is, below8}
use Rattle.code.proofs.shifted.raise.Goals as goal

pub returns : goal.returns
returns c =
    record {
      value = at_odd_is (λ y. int_wrap w32 (y +ℤ c.args.by)) c.args.octet.now _ _ _ _ _ _ _ _ c.told-octet
          (to_z-of_z w32 _ (search rules)) (wrapping_add_is w32 _ _ (search rules) c.ranges.by)
          (to_z-of_z w32 _ (search rules)) (wrapping_add_is w32 _ _ (search rules) c.ranges.by)
          (to_z-of_z w32 _ (search rules)) (wrapping_add_is w32 _ _ (search rules) c.ranges.by)
          (to_z-of_z w32 _ (search rules)) (wrapping_add_is w32 _ _ (search rules) c.ranges.by);
      fits = below8 (λ i. SFits w32 (get_or c.args.octet.now i (pos 0))) (search rules) (search rules) (search rules) (search rules) (search rules) (search rules) (search rules) (search rules);
    }
