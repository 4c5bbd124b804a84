-- The product as the action of a list of any length on rows of n: linear in the list, and leading zeros are turns.
use Rattle.std.proofs.Common.{◌≡◌, ℕ, zero, suc, ◌<◌, List, [], ◌∷◌, ◌++◌, length, sym, refl, ap, ◌∙◌, ap₂, arith}
use Rattle.ring.specs.Ring.{CommRing}
use Rattle.ring.specs.Rows.{plus, times, zeros, turn, product}
use Rattle.ring.proofs.RowLaws as r
use Rattle.ring.proofs.Turns as t
use Rattle.ring.proofs.Products as p

module _ {C : Type 0} (R : CommRing C) (n : ℕ) (some : 0 < n) where
  plus_cons : (u v : C) (x y : List C) → plus R (u ∷ x) (v ∷ y) ≡ R.add u v ∷ plus R x y
  unfolding plus
  plus_cons u v x y = refl

  plus_none : (y : List C) → plus R [] y ≡ []
  unfolding plus
  plus_none y = refl

  -- the sum of two lists of one length acts as the sum
  pub act_plus : (x y b : List C) → length x ≡ length y → length b ≡ n → product R n (plus R x y) b ≡ plus R (product R n x b) (product R n y b)
  unfolding product
  act_plus [] [] b e h = ap (λ w. product R n w b) (plus_none []) ∙ sym (r.plus-zeros R (zeros R n) n (p.length-zeros R n some))
  act_plus [] (v ∷ y) b e h = absurd (omega arith)
  act_plus (u ∷ x) [] b e h = absurd (omega arith)
  act_plus (u ∷ x) (v ∷ y) b e h =
      ap (λ w. product R n w b) (plus_cons u v x y)
      ∙ ap₂ (plus R) (r.plus_times R u v b)
      (ap (turn R n) (act_plus x y b (omega arith) h) ∙ t.turn-plus R n _ _ some (p.length-product R n some x b h) (p.length-product R n some y b h))
      ∙ r.plus_medial R _ _ _ _

  -- a multiple of a list acts as the multiple
  pub act_times : (k : C) (x b : List C) → length b ≡ n → product R n (times R k x) b ≡ times R k (product R n x b)
  unfolding product times
  act_times k [] b h = sym (r.times-zeros R k n)
  act_times k (u ∷ x) b h =
      ap₂ (plus R) (r.times-times R k u b) (ap (turn R n) (act_times k x b h) ∙ t.turn-times R n k _)
      ∙ sym (r.times-plus R k _ _)

  -- a leading zero is a turn
  pub act_shift : (x b : List C) → length b ≡ n → product R n (R.zero ∷ x) b ≡ turn R n (product R n x b)
  unfolding product
  act_shift x b h =
      ap (λ w. plus R w (turn R n (product R n x b))) (r.zero-times R b ∙ ap (zeros R) h)
      ∙ p.zeros-plus R n some _ (t.length-turn R n _ some (p.length-product R n some x b h))

  -- zeros at the end do nothing
  pub act_pad : (x : List C) (k : ℕ) (b : List C) → length b ≡ n → product R n (x ++ zeros R k) b ≡ product R n x b
  unfolding product
  act_pad [] zero b h = refl
  act_pad [] (suc k) b h = act_shift (zeros R k) b h ∙ ap (turn R n) (act_pad [] k b h) ∙ p.turn-zeros R n some
  act_pad (u ∷ x) k b h = ap (λ w. plus R (times R u b) (turn R n w)) (act_pad x k b h)
