-- A row filled place by place with what a function makes of another row.
use Rattle.std.proofs.Common.{◌≡◌, ℕ, ◌+◌, ◌<◌, List, map, length, get_or, set, sym, ap, ◌∙◌, arith}
use lib.ListN.{length-map, get_or-map}
use Rattle.std.proofs.lemmas.List.{get_or_default}
use Rattle.ring.proofs.Mixed.{mixed, mixed-set}

pub mapped_put : {X Y : Type 0} (f : X → Y) (xs : List X) (old target : List Y) (i : ℕ) (d : X) (y : Y)
    → i < length xs → target ≡ mixed i (map f xs) old → y ≡ f (get_or xs i d)
    → set target i y ≡ mixed (i + 1) (map f xs) old
mapped_put f xs old target i d y within so_far y-is =
    let long = length-map xs f in
    let e : y ≡ get_or (map f xs) i y = y-is ∙ sym (get_or-map f xs i d) ∙ get_or_default (map f xs) i (f d) y (omega (arith, long)) in
    ap (λ w. set w i y) so_far ∙ mixed-set i (map f xs) old y (omega (arith, long)) e
