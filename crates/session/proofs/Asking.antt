-- What is said to a request is what the station answers to its call.
use Rattle.std.proofs.Common.{◌≡◌, ℕ, Bool, true, false, List, length, replicate, Some, None, Ok, Err, refl, ap, ◌∙◌, ap₂}
use lib.ListN.{length-replicate}
use Rattle.packing.specs.Digits.{packed}
use Rattle.keying.specs.Keys.{h_of}
use Rattle.places.specs.Books.{Line, Book}
use Rattle.places.specs.Changes.{put, emptied}
use Rattle.places.specs.Replies.{Reply, written}
use Rattle.custody.specs.declared.call.Call.{Call}
use Rattle.custody.specs.declared.call.Call.TheVariants as calls
use Rattle.custody.specs.declared.call.Answer.{Answer}
use Rattle.custody.specs.Calls.{done, holding, likeness as likened, likeness_reply, told_of}
use Rattle.custody.specs.Checks.{deposit, join, trim, held, opened, open_reply, hand_out, publish, both_held}
use Rattle.script.specs.declared.request.Request.{Request}
use Rattle.script.specs.declared.request.Request.TheVariants as requests
use Rattle.session.specs.Hands.{Post}
use Rattle.session.specs.Posts as plain
use Rattle.session.specs.Posts.{Plain, answer_at, buffer_at, plain_call, post_at}
use Rattle.session.specs.Requests.{answered, buffer_length, compared, plain_request, post_after, right_length, told_line, wants_bytes}
use Rattle.session.specs.Said.{given, obeyed, said_as, shown}
use Rattle.session.proofs.Replies.{hand-right}

-- a buffer of zeros
abbrev zeros : ℕ → List ℕ
zeros n = replicate n 0

-- what a station answers to a call by its arguments, and what is left then
abbrev answer_to : Post → Plain → ℕ → Reply Answer
answer_to p (plain.deposit place width noise message) size = done (deposit p.key p.told p.book place width noise message)
answer_to p (plain.join first second) size = done (join p.key p.told p.book first second)
answer_to p (plain.trim place) size = done (trim p.key p.told p.book place)
answer_to p (plain.clear place) size = done (held p.key p.told p.book place)
answer_to p (plain.opening place) size = done (open_reply p.key p.told p.book place size)
answer_to p (plain.hand_out place) size = done (hand_out p.key p.told p.book place size)
answer_to p plain.publish size = done (publish p.key p.told size)
answer_to p (plain.tell place) size = told_of (holding (held p.key p.told p.book place))
answer_to p (plain.alike first second) size = likened (likeness_reply p.key (both_held p.key p.told p.book first second))

abbrev buffer_to : Post → Plain → List ℕ → List ℕ
buffer_to p (plain.deposit place width noise message) buffer = buffer
buffer_to p (plain.join first second) buffer = buffer
buffer_to p (plain.trim place) buffer = buffer
buffer_to p (plain.clear place) buffer = buffer
buffer_to p (plain.opening place) buffer = written (open_reply p.key p.told p.book place (length buffer)) (opened p.key) buffer
buffer_to p (plain.hand_out place) buffer = written (hand_out p.key p.told p.book place (length buffer)) (λ a. packed a.width a.coefficients) buffer
buffer_to p plain.publish buffer = written (publish p.key p.told (length buffer)) (λ _. packed 12 (h_of p.key)) buffer
buffer_to p (plain.tell place) buffer = buffer
buffer_to p (plain.alike first second) buffer = buffer

abbrev book_to : Post → Plain → Book
book_to p (plain.deposit place width noise message) = put p.book place (deposit p.key p.told p.book place width noise message)
book_to p (plain.join first second) =
    let reply = join p.key p.told p.book first second in
    emptied (put p.book first reply) second reply
book_to p (plain.trim place) = put p.book place (trim p.key p.told p.book place)
book_to p (plain.clear place) = emptied p.book place (held p.key p.told p.book place)
book_to p (plain.opening place) = p.book
book_to p (plain.hand_out place) = p.book
book_to p plain.publish = p.book
book_to p (plain.tell place) = p.book
book_to p (plain.alike first second) = p.book

abbrev post_to : Post → Plain → Post
post_to p call = record { key = p.key; told = p.told; book = book_to p call }

answer_is : (p : Post) (call : Call) (size : ℕ) → answer_at p call size ≡ answer_to p (plain_call call) size
answer_is p (calls.Deposit place width noise message) size = refl
answer_is p (calls.Join first second) size = refl
answer_is p (calls.Trim place) size = refl
answer_is p (calls.Clear place) size = refl
answer_is p (calls.Open place) size = refl
answer_is p (calls.HandOut place) size = refl
answer_is p calls.Publish size = refl
answer_is p (calls.Tell place) size = refl
answer_is p (calls.Alike first second) size = refl

buffer_is : (p : Post) (call : Call) (buffer : List ℕ) → buffer_at p call buffer ≡ buffer_to p (plain_call call) buffer
buffer_is p (calls.Deposit place width noise message) buffer = refl
buffer_is p (calls.Join first second) buffer = refl
buffer_is p (calls.Trim place) buffer = refl
buffer_is p (calls.Clear place) buffer = refl
buffer_is p (calls.Open place) buffer = refl
buffer_is p (calls.HandOut place) buffer = refl
buffer_is p calls.Publish buffer = refl
buffer_is p (calls.Tell place) buffer = refl
buffer_is p (calls.Alike first second) buffer = refl

post_is : (p : Post) (call : Call) → post_at p call ≡ post_to p (plain_call call)
post_is p (calls.Deposit place width noise message) = refl
post_is p (calls.Join first second) = refl
post_is p (calls.Trim place) = refl
post_is p (calls.Clear place) = refl
post_is p (calls.Open place) = refl
post_is p (calls.HandOut place) = refl
post_is p calls.Publish = refl
post_is p (calls.Tell place) = refl
post_is p (calls.Alike first second) = refl

-- ---- replies
obeyed_as : {X : Type 0} (r : Reply X) (content : List ℕ) → said_as false (done r) content ≡ obeyed r
obeyed_as (Ok x) content = refl
obeyed_as (Err e) content = refl

told_as : (r : Reply Line) (content : List ℕ) → said_as false (told_of (holding r)) content ≡ told_line r
told_as (Ok a) content = refl
told_as (Err e) content = refl

compared_as : (r : Reply Bool) (content : List ℕ) → said_as false (likened r) content ≡ compared r
compared_as (Ok alike) content = refl
compared_as (Err e) content = refl

shown_as : {X : Type 0} (r : Reply X) (content : X → List ℕ) (old : List ℕ) → said_as true (done r) (written r content old) ≡ shown r content
shown_as (Ok x) content old = refl
shown_as (Err e) content old = refl

given_as : (r : Reply (Unit {0})) (content old : List ℕ) → said_as true (done r) (written r (λ _. content) old) ≡ given r content
given_as (Ok x) content old = refl
given_as (Err e) content old = refl

-- a reply that looks at the size of a buffer of zeros looks at a number
sized : {X : Type 0} (r : ℕ → Reply X) (content : X → List ℕ) (n : ℕ) → said_as true (done (r n)) (written (r (length (zeros n))) content (zeros n)) ≡ shown (r n) content
sized r content n =
    ap (λ k. said_as true (done (r n)) (written (r k) content (zeros n))) (length-replicate {A = ℕ} n 0) ∙ shown_as (r n) content (zeros n)

request_said : (p : Post) (request : Request)
    → said_as (wants_bytes request) (answer_to p (plain_request request) (buffer_length p request)) (buffer_to p (plain_request request) (zeros (buffer_length p request)))
    ≡ answered p request
request_said p (requests.Deposit place width noise message) = obeyed_as (deposit p.key p.told p.book place width _ _) _
request_said p (requests.Join first second) = obeyed_as (join p.key p.told p.book first second) _
request_said p (requests.Trim place) = obeyed_as (trim p.key p.told p.book place) _
request_said p (requests.Clear place) = obeyed_as (held p.key p.told p.book place) _
request_said p (requests.Open place size) = sized (λ n. open_reply p.key p.told p.book place n) (opened p.key) size
request_said p (requests.HandOut place (Some size)) =
    sized (λ n. hand_out p.key p.told p.book place n) (λ (a : Line). packed a.width a.coefficients) size
request_said p (requests.HandOut place None) =
    sized (λ n. hand_out p.key p.told p.book place n) (λ (a : Line). packed a.width a.coefficients) (right_length p place)
    ∙ ap (λ r. shown r (λ (a : Line). packed a.width a.coefficients)) (hand-right p.key p.told p.book place)
request_said p (requests.Publish size) =
    ap (λ k. said_as true (done (publish p.key p.told size)) (written (publish p.key p.told k) (λ _. packed 12 (h_of p.key)) (zeros size))) (length-replicate {A = ℕ} size 0)
    ∙ given_as (publish p.key p.told size) (packed 12 (h_of p.key)) (zeros size)
request_said p (requests.Tell place) = told_as (held p.key p.told p.book place) _
request_said p (requests.Alike first second) = compared_as (likeness_reply p.key (both_held p.key p.told p.book first second)) _

request_left : (p : Post) (request : Request) → post_to p (plain_request request) ≡ post_after p request
request_left p (requests.Deposit place width noise message) = refl
request_left p (requests.Join first second) = refl
request_left p (requests.Trim place) = refl
request_left p (requests.Clear place) = refl
request_left p (requests.Open place size) = refl
request_left p (requests.HandOut place size) = refl
request_left p (requests.Publish size) = refl
request_left p (requests.Tell place) = refl
request_left p (requests.Alike first second) = refl

-- ---- a call that has the arguments of a request
module _ (p : Post) (request : Request) (call : Call) (same : plain_call call ≡ plain_request request) where
  pub asked-said : (answer : Reply Answer) (buffer old : List ℕ) (n : ℕ) → n ≡ buffer_length p request → old ≡ zeros n
      → answer ≡ answer_at p call (length old) → buffer ≡ buffer_at p call old → said_as (wants_bytes request) answer buffer ≡ answered p request
  asked-said answer buffer old n l z a w =
      ap₂ (said_as (wants_bytes request))
      (a ∙ answer_is p call (length old)
      ∙ ap₂ (answer_to p) same (ap length z ∙ length-replicate {A = ℕ} n 0 ∙ l))
      (w ∙ buffer_is p call old ∙ ap₂ (buffer_to p) same (z ∙ ap zeros l))
      ∙ request_said p request

  pub asked-left : (after : Post) → after ≡ post_at p call → after ≡ post_after p request
  asked-left after e = e ∙ post_is p call ∙ ap (post_to p) same ∙ request_left p request
