-- A loop over the front of a row with its places: where a turn stands, and how many turns there are.
use Rattle.std.proofs.Common.{◌≡◌, ℕ, ◌<◌, min, List, length, get_or, take, sym, ap, ◌∙◌, zero-add, arith, Option, Some, None, Bor}
use Rattle.std.specs.Iterator.{Yields}
use Rattle.std.specs.List.{enumerate_from}
use Rattle.std.proofs.lemmas.Iterator.{YieldsList}
use Rattle.std.proofs.lemmas.Iterator.Consumers.{YieldsList-turn, YieldsList-end}
use Rattle.std.proofs.lemmas.List.{get_or-take, length-take}
use Rattle.std.proofs.lemmas.List.FromFn.{length-enumerate_from, get_or-enumerate_from}

-- after some turns comes place i, which holds x, in a row of which n places count
pub record Turn {A : Type 0} (row : List A) (n turns i : ℕ) (x : A) : Type 0 where
  pub place : i ≡ turns
  pub within : i < n
  pub inside : i < length row
  pub holds : x ≡ get_or row i x

turned : {A : Type 0} (row : List A) (n m i : ℕ) (x : A) → m < n → m < length row → i ≡ m → x ≡ get_or row m x → Turn row n m i x
turned row n m i x low here e read = record { place = e; within = omega arith; inside = omega arith; holds = read ∙ ap (λ j. get_or row j x) (sym e) }

module _ {S A : Type 0} {steps : S → Option (ℕ × Bor A) → S → Type 0} {s : S} (row : List A) (n : ℕ)
    (road : YieldsList steps (λ p. (p.0, p.1.now)) s (take n (enumerate_from 0 row))) (xs : List (ℕ × Bor A)) (t : S) (so_far : Yields steps s xs t) where
  long : length (take n (enumerate_from 0 row)) ≡ min n (length row)
  long = length-take n (enumerate_from 0 row) ∙ ap (min n) (length-enumerate_from 0 row)

  pub front_turn : (r : Option (ℕ × Bor A)) (u : S) (i : ℕ) (x : Bor A) → r ≡ Some (i, x) → steps t r u → Turn row n (length xs) i x.now
  front_turn r u i x is next =
      let m = length xs in
      let k : (m < length (take n (enumerate_from 0 row))) × ((i, x.now) ≡ get_or (take n (enumerate_from 0 row)) m (i, x.now)) =
      YieldsList-turn road xs t so_far r u (i, x) is next in
      let low : m < n = omega (arith, k.0, long) in
      let here : m < length row = omega (arith, k.0, long) in
      let pair = k.1 ∙ get_or-take n (enumerate_from 0 row) m (i, x.now) low ∙ get_or-enumerate_from 0 row m (i, x.now) here in
      turned row n m i x.now low here (ap (λ (p : ℕ × A). p.0) pair ∙ zero-add m) (ap (λ (p : ℕ × A). p.1) pair)

  pub front_end : (r : Option (ℕ × Bor A)) (u : S) → r ≡ None → steps t r u → length xs ≡ min n (length row)
  front_end r u is next = (YieldsList-end road xs t so_far r u is next).1 ∙ long
