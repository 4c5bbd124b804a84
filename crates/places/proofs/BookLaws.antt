-- What a register shows of its places.
use Rattle.std.proofs.Common.{◌≡◌, ℕ, ◌<◌, ◌≤◌, cond, List, length, get_or, set, None, Ok, Err, Option, Result, sym, ap, ◌∙◌}
use lib.ListN.{length-map, get_or-map}
use lib.Seq.{map-set}
use Rattle.std.proofs.lemmas.List.{get_or_default}
use Rattle.std.proofs.lemmas.Bool.{le-ltb}
use Rattle.std.specs.Option.{option_map}
use Rattle.ring.specs.declared.refusal.Refusal.{Refusal}
use Rattle.ring.specs.declared.refusal.Refusal.TheVariants.{Place}
use Rattle.places.specs.declared.filled.Filled.{Filled}
use Rattle.places.specs.Books.{Line, at}
use Rattle.places.specs.Checks.{placed}
use Rattle.places.specs.Views.{line_of, book_of}

pub book-at : (n : ℕ) (places : List (Option Filled)) (p : ℕ) → at (book_of n places) p ≡ option_map (line_of n) (get_or places p None)
unfolding book_of
book-at n places p = get_or-map (option_map (line_of n)) places p None

pub book-set : (n : ℕ) (places : List (Option Filled)) (p : ℕ) (x : Option Filled) → book_of n (set places p x) ≡ set (book_of n places) p (option_map (line_of n) x)
unfolding book_of
book-set n places p x = map-set (option_map (line_of n)) places p x

pub book-length : (n : ℕ) (places : List (Option Filled)) → length (book_of n places) ≡ length places
unfolding book_of
book-length n places = length-map places (option_map (line_of n))

-- what is read at a place up to 7 is what the book shows there
pub held_is : (n : ℕ) (places : List (Option Filled)) (p : ℕ) (d : Option Filled) → p < length places → p ≤ 7
    → ◌≡◌ {A = Result (Option Line) Refusal} (Ok (option_map (line_of n) (get_or places p d))) (placed p (Ok (at (book_of n places) p)))
held_is n places p d within low =
    ap (λ x. Ok (option_map (line_of n) x)) (get_or_default places p d None within)
    ∙ ap Ok (sym (book-at n places p))
    ∙ sym (ap (λ b. cond b (Err Place) (Ok (at (book_of n places) p))) (le-ltb 7 p low))
