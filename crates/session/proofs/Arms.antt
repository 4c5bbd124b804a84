-- From what a call ensures to what is said of it: its buffer, its reply, and the station and the draft afterwards.
use Rattle.std.proofs.Common.{◌≡◌, ℕ, List, length, ℤ, Some, None, Option, sym, refl, ap, ◌∙◌, subst, ap₂, MatchOption}
use Rattle.std.specs.Option.{option_map}
use Rattle.ring.specs.Engines.{engine_answer, engine_buffer, product_mod}
use Rattle.ring.specs.declared.counting.Counting.{Counting}
use Rattle.ring.specs.declared.turning.Turning.{Turning}
use Rattle.packing.specs.Answers.{written as packed_written}
use Rattle.keying.specs.declared.draft.Draft.{Draft}
use Rattle.keying.specs.declared.key.Key.{Key}
use Rattle.keying.specs.Keying.{Keying, Unkeyed}
use Rattle.keying.specs.Told.{Told, tells}
use Rattle.places.specs.Books.{Book}
use Rattle.places.specs.Replies.{Reply}
use Rattle.custody.specs.Stations.{key_of, shown_by}
use Rattle.custody.specs.declared.station.Station.{Station}
use Rattle.session.specs.declared.state.Session.{Session}
use Rattle.session.specs.Commands.{Begun, Only, Tried}
use Rattle.session.specs.Hands.{Hand, Sketch, Post, at_hand, post, sketch, told_of}
use Rattle.session.specs.Said.{Said, given, given_row, no_draft, obeyed}
use Rattle.session.proofs.Replies.{given-packed, given-product, given_row-packed}

module _ {A B C D E : Type 0} (f : A → B → C → D → E) {a a' : A} {b b' : B} {c c' : C} {d d' : D} where
  pub all_alike : a ≡ a' → b ≡ b' → c ≡ c' → d ≡ d' → f a b c d ≡ f a' b' c' d'
  all_alike p q r s = ap₂ (λ x y. f x y c d) p q ∙ ap₂ (f a' b') r s

-- a buffer that was lent for a call and holds what the call wrote
module _ (s : Said) (reply : Reply (Unit {0})) (items ws old : List ℕ) (filled : items ≡ ws) where
  pub packed_arm : (new : List ℕ) → s ≡ given reply items → ws ≡ packed_written reply new old → s ≡ given reply new
  packed_arm new e writes = e ∙ ap (given reply) (filled ∙ writes) ∙ given-packed reply new old

  pub row_arm : (new : List ℕ) → s ≡ given_row reply items → ws ≡ packed_written reply new old → s ≡ given_row reply new
  row_arm new e writes = e ∙ ap (given_row reply) (filled ∙ writes) ∙ given_row-packed reply new old

  pub product_arm : (n m : ℕ) (a b : List ℕ) → s ≡ given_row reply items → reply ≡ engine_answer n m a b (length old) → ws ≡ engine_buffer n m a b old
      → s ≡ given_row (engine_answer n m a b (length old)) (product_mod m n a b)
  product_arm n m a b e answers writes = e ∙ ap₂ given_row answers (filled ∙ writes) ∙ given-product n m a b old

abbrev pub Engine : Type 0
Engine = Counting Turning

abbrev pub post-of : Key → Told → Book → Post
post-of key told book = record { key = key; told = told; book = book }

-- a station with the key and the engines of another, and with some book
pub moved : (before after : Station Engine Engine) (next : Book) → key_of after ≡ key_of before
    → told_of after.engines.field after.engines.binary ≡ told_of before.engines.field before.engines.binary → shown_by after ≡ next
    → post after ≡ post-of (key_of before) (told_of before.engines.field before.engines.binary) next
moved before after next k t b = ap₂ (λ x y. post-of x y (shown_by after)) k t ∙ ap (post-of (key_of before) (told_of before.engines.field before.engines.binary)) b

abbrev hand_of : ℕ → Option Sketch → Option Post → Hand
hand_of degree draft station = record { degree = degree; draft = draft; station = station }

abbrev sketch_of : Key → Told → Sketch
sketch_of key told = record { key = key; told = told }

-- a new draft over two engines
pub began : (field binary : Turning) (first second : Engine) (draft : Draft Engine Engine) (degree : ℕ)
    → degree ≡ field.degree → first.below ≡ field → second.below ≡ binary
    → Unkeyed draft.key → draft.engines.field ≡ first → draft.engines.binary ≡ second
    → Begun (tells field.degree field.modulus binary.degree binary.modulus) (at_hand (record { degree = degree; draft = Some draft; station = None }))
began field binary first second draft degree d over over' unkeyed f b = record {
  degree = d;
  key = draft.key;
  unkeyed = unkeyed;
  draft = ap₂ (λ (x : Turning) (y : Turning). Some (sketch_of draft.key (tells x.degree x.modulus y.degree y.modulus)))
      (ap (λ (x : Engine). x.below) f ∙ over)
      (ap (λ (x : Engine). x.below) b ∙ over');
  station = refl;
}

-- a draft that was tried
pub tried : (session : Session) (draft draft' : Draft Engine Engine) (reply : Reply (Unit {0})) (f g : List ℤ) (s : Said)
    → session.draft ≡ Some draft
    → told_of draft'.engines.field draft'.engines.binary ≡ told_of draft.engines.field draft.engines.binary
    → Keying (told_of draft.engines.field draft.engines.binary) f g draft.key draft'.key reply
    → s ≡ obeyed reply
    → MatchOption (at_hand session).draft (Only no_draft (at_hand session) s (at_hand (record { degree = session.degree; draft = Some draft'; station = session.station })))
    (λ was. Tried was f g (at_hand session) s (at_hand (record { degree = session.degree; draft = Some draft'; station = session.station })))
tried session draft draft' reply f g s here same keyed answers =
    let station : Option Post = option_map post session.station in
    let after : Hand = hand_of session.degree (Some (sketch draft')) station in
    let before : Option (Draft Engine Engine) → Hand = λ o. hand_of session.degree (option_map sketch o) station in
    let P : Option (Draft Engine Engine) → Type 0 = λ o. MatchOption (option_map sketch o) (Only no_draft (before o) s after) (λ was. Tried was f g (before o) s after) in
    subst P (sym here) (record {
      key = draft'.key;
      reply = reply;
      keying = keyed;
      answers = answers;
      hand = ap (λ t. hand_of session.degree (Some (sketch_of draft'.key t)) station) same;
    })
