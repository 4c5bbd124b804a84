-- The elements of a row all pass a test just where a search for one that fails finds none.
use Rattle.std.proofs.Common.{◌≡◌, ℕ, suc, ◌+◌, Bool, true, false, not, cond, ltb, ◌&&◌, List, [], ◌∷◌, length, position, is_none, Some, None, refl, sym, ◌∙◌, arith}
use Rattle.std.proofs.lemmas.Bool.{lt-ltb}
use Rattle.std.proofs.lemmas.Bool.Decides.{nat_tests}
use Rattle.std.specs.List.{position_or_len}

later : (n m : ℕ) → ltb (1 + n) (suc m) ≡ ltb n m
later n m = grind (arith, nat_tests)

either : (b : Bool) (n : ℕ) → is_none (cond b (Some (1 + n)) None) ≡ is_none (cond b (Some n) None)
either true n = refl
either false n = refl

-- what is found in a row, from whether its first element fails and what is found after it
step : (b : Bool) (n l : ℕ) (t : Bool) → is_none (cond (ltb n l) (Some n) None) ≡ t
    → is_none (cond (ltb (cond (not b) (1 + n) 0) (suc l)) (Some (cond (not b) (1 + n) 0)) None) ≡ (not b && t)
step true n l t e = rw (lt-ltb 0 (suc l) (omega arith)) refl
step false n l t e = rw (later n l) (either (ltb n l) n ∙ e)

-- F says whether all elements of a row pass
pub none_fails : {A : Type 0} (fails : A → Bool) (F : List A → Bool) → F [] ≡ true → ((x : A) (xs : List A) → F (x ∷ xs) ≡ (not (fails x) && F xs))
    → (xs : List A) → is_none (position fails xs) ≡ F xs
none_fails fails F none more [] = sym none
none_fails fails F none more (x ∷ xs) = step (fails x) (position_or_len fails xs) (length xs) (F xs) (none_fails fails F none more xs) ∙ sym (more x xs)
