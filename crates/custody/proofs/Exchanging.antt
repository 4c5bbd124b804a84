-- One exchange more of a list is carried out.
use Rattle.std.proofs.Common.{◌≡◌, ℕ, ◌+◌, ◌<◌, List, [], ◌∷◌, ◌++◌, map, length, get_or, take, drop, set, Some, vec_items, sym, refl, ap, ◌∙◌, ap₂, add-zero, arith, get_or-drop, drop-drop, drop-set-lt}
use mathlib.Core.List.{map-append, map-map}
use lib.ListN.{get_or-map}
use lib.Seq.{map-set, set-get_or}
use Rattle.std.proofs.lemmas.List.{take_more, take_more_set}
use Rattle.keying.specs.declared.key.Key.{Key}
use Rattle.custody.specs.declared.call.Answer.{Answer}
use Rattle.custody.specs.declared.exchange.Exchange.{Exchange}
use Rattle.keying.specs.Told.{Told}
use Rattle.places.specs.Books.{Book}
use Rattle.places.specs.Replies.{Reply}
use Rattle.custody.specs.Calls.{answer, after, buffer_after}
use Rattle.custody.specs.Ledger.{all_after}
use Rattle.custody.specs.Exchanges.{asked_of, calls_of, replied_of}
use Rattle.custody.specs.Promise.{Replied, given, replies}
use Rattle.custody.proofs.Running.{run_more, reply, replies-more}

pub asked_calls : (xs : List Exchange) → map (λ y. y.0) (asked_of xs) ≡ calls_of xs
asked_calls xs = map-map (λ y. y.0) (λ y. (y.call, vec_items y.buffer)) xs

-- the first i exchanges are answered as the definitions say, the others are as they were, and the book is run so far
pub record Going (key : Key) (told : Told) (start : Book) (old : List Exchange) (i : ℕ) (book : Book) (xs : List Exchange) : Type 0 where
  pub places : book ≡ all_after key told start (calls_of (take i old))
  pub calls : calls_of xs ≡ calls_of old
  pub replied : replied_of (take i xs) ≡ given (replies key told start (asked_of (take i old)))
  pub rest : drop i xs ≡ drop i old

pub going_starts : (key : Key) (told : Told) (start : Book) (old : List Exchange) → Going key told start old 0 start old
unfolding all_after replies
going_starts key told start old = record { places = refl; calls = refl; replied = refl; rest = refl }

module _ (key : Key) (told : Told) (start : Book) (old : List Exchange) (i : ℕ) (book : Book) (xs : List Exchange)
    (going : Going key told start old i book xs) (within : i < length old) (long : length xs ≡ length old)
    (d x next : Exchange) (end : Book)
    (x-is : x ≡ get_or xs i d)
    (call-is : next.call ≡ x.call)
    (answer_is : next.answer ≡ Some (answer key told book x.call (length (vec_items x.buffer))))
    (buffer_is : vec_items next.buffer ≡ buffer_after key told book x.call (vec_items x.buffer))
    (end_is : end ≡ after key told book x.call) where
  -- the exchange is the one that was handed in
  x_old : x ≡ get_or old i d
  x_old =
      x-is ∙ ap (λ k. get_or xs k d) (sym (add-zero i)) ∙ sym (get_or-drop i xs 0 d)
      ∙ ap (λ w. get_or w 0 d) going.rest
      ∙ get_or-drop i old 0 d ∙ ap (λ k. get_or old k d) (add-zero i)

  old_more : take (i + 1) old ≡ take i old ++ x ∷ []
  old_more = take_more old i d within ∙ ap (λ w. take i old ++ w ∷ []) (sym x_old)

  mapped_more : {Y : Type 0} (f : Exchange → Y) → map f (take (i + 1) old) ≡ map f (take i old) ++ f x ∷ []
  mapped_more f = ap (map f) old_more ∙ map-append f (take i old) (x ∷ [])

  book_is : book ≡ all_after key told start (map (λ y. y.0) (asked_of (take i old)))
  book_is = going.places ∙ ap (all_after key told start) (sym (asked_calls (take i old)))

  pub going_on : Going key told start old (i + 1) end (set xs i next)
  going_on = record {
    places = end_is ∙ ap (λ b. after key told b x.call) going.places
        ∙ sym (run_more key told start (calls_of (take i old)) x.call)
        ∙ ap (all_after key told start) (sym (mapped_more (λ y. y.call)));
    calls = map-set (λ y. y.call) xs i next
        ∙ ap (set (calls_of xs) i) (call-is ∙ ap (λ y. y.call) x-is ∙ sym (get_or-map (λ y. y.call) xs i d))
        ∙ set-get_or (calls_of xs) i d.call ∙ going.calls;
    replied = ap replied_of (take_more_set xs i next (omega arith)) ∙ map-append (λ y. (y.answer, vec_items y.buffer)) (take i xs) (next ∷ [])
        ∙ ap₂ (λ u v. u ++ v ∷ []) going.replied
        (ap₂ (λ u v. (u, v)) answer_is buffer_is ∙ ap (λ b. given-one (reply key told b (x.call, vec_items x.buffer))) book_is)
        ∙ sym (map-append given-one (replies key told start (asked_of (take i old))) (reply key told (all_after key told start (map (λ y. y.0) (asked_of (take i old)))) (x.call, vec_items x.buffer) ∷ []))
        ∙ ap given (sym (replies-more key told start (asked_of (take i old)) (x.call, vec_items x.buffer)))
        ∙ ap (λ w. given (replies key told start w)) (sym (mapped_more (λ y. (y.call, vec_items y.buffer))));
    rest = drop-set-lt (i + 1) xs i next (omega arith)
        ∙ sym (drop-drop 1 i xs) ∙ ap (drop 1) going.rest ∙ drop-drop 1 i old;
  }
    where
      given-one : Reply Answer × List ℕ → Replied
      given-one p = (Some p.0, p.1)
