-- What is said of a reply, whichever way it was carried.
use Rattle.std.proofs.Common.{◌≡◌, ℕ, ◌*◌, ◌/◌, Bool, true, false, cond, eqb, List, length, Ok, Err, refl, ap, ◌∙◌, arith}
use Rattle.std.proofs.lemmas.Bool.{eq-eqb}
use Rattle.std.proofs.lemmas.Bool.Decides.{nat_tests}
use Rattle.ring.specs.declared.refusal.Refusal.TheVariants.{Length, Unkeyed}
use Rattle.ring.specs.Engines.{engine_answer, engine_buffer, product_mod}
use Rattle.packing.specs.Answers.{written as packed_written}
use Rattle.keying.specs.declared.key.Key.{Key}
use Rattle.keying.specs.Told.{Told, ready}
use Rattle.places.specs.Books.{Line, Book}
use Rattle.places.specs.Checks.{found, buffered}
use Rattle.places.specs.Replies.{Reply, then}
use Rattle.custody.specs.Checks.{held, hand_out}
use Rattle.session.specs.Said.{given, given_row}
use Rattle.session.specs.Requests.{line_length}

pub given-packed : (r : Reply (Unit {0})) (new old : List ℕ) → given r (packed_written r new old) ≡ given r new
given-packed (Ok x) new old = refl
given-packed (Err e) new old = refl

pub given_row-packed : (r : Reply (Unit {0})) (new old : List ℕ) → given_row r (packed_written r new old) ≡ given_row r new
given_row-packed (Ok x) new old = refl
given_row-packed (Err e) new old = refl

-- the same of an engine's buffer
pub given-product : (n m : ℕ) (a b old : List ℕ)
    → given_row (engine_answer n m a b (length old)) (engine_buffer n m a b old) ≡ given_row (engine_answer n m a b (length old)) (product_mod m n a b)
given-product n m a b old =
    elim (engine_answer n m a b (length old))
    as (λ v. given_row v (elim v [ Ok u ↦ product_mod m n a b | Err e ↦ old ]) ≡ given_row v (product_mod m n a b))
    [ Ok u ↦ refl | Err e ↦ refl ]

-- engines that fit a key have its degree
pub ready-degree : (n : ℕ) (told : Told) → ready n told ≡ true → told.field_degree ≡ n
ready-degree n told e = grind (arith, nat_tests)

fitting : (n d : ℕ) (b : Bool) → (b ≡ true → d ≡ n) → (r : Reply Line)
    → then (cond b r (Err Unkeyed)) (λ a. buffered (n * a.width / 8) (line_length d (cond b r (Err Unkeyed))) a) ≡ cond b r (Err Unkeyed)
fitting n d false same r = refl
fitting n d true same (Err e) = refl
fitting n d true same (Ok a) =
    ap (λ k. cond (eqb (k * a.width / 8) (n * a.width / 8)) (Ok a) (Err Length)) (same refl)
    ∙ ap (λ t. cond t (Ok a) (Err Length)) (eq-eqb (n * a.width / 8) (n * a.width / 8) refl)

-- a buffer of the right length is never refused for its length
pub hand-right : (key : Key) (told : Told) (book : Book) (place : ℕ)
    → hand_out key told book place (line_length told.field_degree (held key told book place)) ≡ held key told book place
hand-right key told book place =
    fitting key.degree told.field_degree (ready key.degree told) (ready-degree key.degree told) (found book place)
