-- An engine obeys where the degree, the lengths and the residues are right.
use Rattle.std.proofs.Common.{◌≡◌, ℕ, ◌-◌, ◌≤◌, true, List, ◌++◌, length, take, drop, Ok, Err, Result, sym, ap, ◌∙◌, subst, ap₂, arith}
use borrow.Rule.Slice.PartMut.{post_of}
use Rattle.std.proofs.lemmas.List.{length-take-le, take_at, drop_at}
use Rattle.std.proofs.lemmas.Bool.Decides.{nat_tests}
use Rattle.ring.specs.declared.refusal.Refusal.{Refusal}
use Rattle.ring.specs.Engines.{all_below, product_mod, engine_answer, engine_buffer}

pub obeys : (n m : ℕ) (a b : List ℕ) (places : ℕ) → n ≤ 1024 → length a ≡ n → length b ≡ n → places ≡ n → all_below m a ≡ true → all_below m b ≡ true
    → engine_answer n m a b places ≡ Ok tt
obeys n m a b places h la lb lp pa pb = grind (arith, nat_tests)

pub fills : (n m : ℕ) (a b before : List ℕ) → engine_answer n m a b (length before) ≡ Ok tt → engine_buffer n m a b before ≡ product_mod m n a b
fills n m a b before e = ap (λ (r : Result (Unit {0}) Refusal). elim r [ Ok u ↦ product_mod m n a b | Err e ↦ before ]) e

-- at the first n places of three rows of 1024
module _ (d m n : ℕ) (a b out : List ℕ) (size : d ≡ n) (small : n ≤ 1024)
    (la : length a ≡ 1024) (lb : length b ≡ 1024) (lo : length out ≡ 1024)
    (pa : all_below m (take n a) ≡ true) (pb : all_below m (take n b) ≡ true) where
  abbrev k : ℕ
  k = n - 0

  cut : k ≡ n
  cut = omega arith

  long : (row : List ℕ) → length row ≡ 1024 → length (take k row) ≡ d
  long row l = length-take-le k row (omega arith) ∙ cut ∙ sym size

  answer : engine_answer d m (take k a) (take k b) (length (take k out)) ≡ Ok tt
  answer =
      obeys d m (take k a) (take k b) (length (take k out)) (omega arith) (long a la) (long b lb) (long out lo)
      (subst (λ (j : ℕ). all_below m (take j a) ≡ true) (sym cut) pa) (subst (λ (j : ℕ). all_below m (take j b) ≡ true) (sym cut) pb)

  pub front_obeys : (r : Result (Unit {0}) Refusal) → r ≡ engine_answer d m (take k a) (take k b) (length (take k out)) → r ≡ Ok tt
  front_obeys r e = e ∙ answer

  -- what was written, with the rest of the buffer behind it
  pub front_fills : (new rest : List ℕ) → length new ≡ length (take k out) → new ≡ engine_buffer d m (take k a) (take k b) (take k out)
      → take n (new ++ rest) ≡ product_mod m n (take n a) (take n b)
  front_fills new rest l e =
      take_at new rest n (l ∙ long out lo ∙ size) ∙ e ∙ fills d m (take k a) (take k b) (take k out) answer
      ∙ ap₂ (λ (i j : ℕ). product_mod m i (take j a) (take j b)) size cut

  -- and the rest of the buffer is as it was
  pub front_rest : (new : List ℕ) → length new ≡ length (take k out) → drop n (new ++ post_of 0 k out) ≡ drop n out
  front_rest new l = drop_at new (post_of 0 k out) n (l ∙ long out lo ∙ size) ∙ ap (λ (j : ℕ). drop j out) cut
