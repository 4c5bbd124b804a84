-- The first call of a list, as a station leaves it.
use Rattle.std.proofs.Common.{◌≡◌, ℕ, ◌<◌, List, [], ◌∷◌, length, get_or, take, Some, None, vec_items, Option, unwrap_or, sym, refl, ap, subst, arith}
use Rattle.places.specs.Replies.{Reply}
use Rattle.custody.specs.declared.call.Answer.{Answer}
use Rattle.custody.specs.declared.exchange.Exchange.{Exchange}
use Rattle.custody.specs.Exchanges.{replied_of}
use Rattle.custody.specs.Promise.{Replied, given}

-- there is an answer
abbrev There : Option (Reply Answer) → Type 0
There None = ⊥
There (Some a) = Unit {0}

-- the first pair, if there is one, has its answer
abbrev Begins : List Replied → Type 0
Begins [] = Unit {0}
Begins (p ∷ ps) = There p.0

given_begins : (rs : List (Reply Answer × List ℕ)) → Begins (given rs)
given_begins [] = tt
given_begins (r ∷ rs) = tt

pub first_of : (xs : List Exchange) (d e : Exchange) → 0 < length xs → take 1 (replied_of xs) ≡ ((get_or xs 0 d).answer, vec_items (get_or xs 0 e).buffer) ∷ []
first_of [] d e l = absurd (omega arith)
first_of (x ∷ xs) d e l = refl

-- it was answered
pub never_silent : (xs : List Exchange) (d : Exchange) (rs : List (Reply Answer × List ℕ)) → replied_of xs ≡ given rs → 0 < length xs → (get_or xs 0 d).answer ≡ None → ⊥
never_silent [] d rs replied l none = absurd (omega arith)
never_silent (x ∷ xs) d rs replied l none = subst There none (subst Begins (sym replied) (given_begins rs))

-- one reply is another: its answer and its buffer are
pub same_answer : (a b : Reply Answer) (u v : List ℕ) → ◌≡◌ {A = List Replied} ((Some a, u) ∷ []) ((Some b, v) ∷ []) → a ≡ b
same_answer a b u v e = ap (λ (l : List Replied). unwrap_or (get_or l 0 (Some a, u)).0 a) e

pub same_buffer : (a b : Reply Answer) (u v : List ℕ) → ◌≡◌ {A = List Replied} ((Some a, u) ∷ []) ((Some b, v) ∷ []) → u ≡ v
same_buffer a b u v e = ap (λ (l : List Replied). (get_or l 0 (Some a, u)).1) e
