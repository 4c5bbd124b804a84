use Rattle.std.proofs.Common.{◌≡◌, ℕ, List, ◌++◌, length, take, sym, ap, ◌∙◌, ap₂, arith}
use lib.ListN.{length-map}
use Rattle.std.proofs.lemmas.List.{take_at, length-take-le}
use Rattle.ring.specs.Ring.{CommRing}
use Rattle.ring.specs.Rows.{product}
use Rattle.ring.specs.Residues.{residue_ring}
use Rattle.ring.specs.Engines.{product_to, numbers}
use Rattle.ring.proofs.turning.product_into.Goals as goal

-- the operands stand at the front of longer rows
multiplied : {C : Type 0} (R : CommRing C) (n m : ℕ) (left right x y past beyond out : List C) → length left ≡ n → length right ≡ n → m ≡ n → left ≡ x → right ≡ y
    → out ≡ product R m (take n (left ++ past)) (take n (right ++ beyond)) → out ≡ product R n x y
multiplied R n m left right x y past beyond out left-long right-long same left-is right-is out-is =
    out-is ∙ ap (λ k. product R k (take n (left ++ past)) (take n (right ++ beyond))) same
    ∙ ap₂ (product R n) (take_at left past n left-long ∙ left-is) (take_at right beyond n right-long ∙ right-is)

pub returns : goal.returns
unfolding product_to
returns g c =
    let n = length c.args.out.now in
    let left-long : length c.load.new.target ≡ n = ap length c.load.ensures ∙ length-map c.args.a.now _ ∙ c.requires.0 in
    let right-long : length c.load-2.new.target ≡ n = ap length c.load-2.ensures ∙ length-map c.args.b.now _ ∙ c.requires.1 in
    let long : length c.horner.new.out ≡ n = c.horner.auto.out ∙ length-take-le n _ (omega arith) in
    c.store.ensures ∙ ap numbers (take_at _ _ _ long
    ∙ multiplied (residue_ring g.row.LAST) n _ _ _ _ _ _ _ _ left-long right-long (sym c.horner.auto.out ∙ long) c.load.ensures c.load-2.ensures c.horner.ensures)
