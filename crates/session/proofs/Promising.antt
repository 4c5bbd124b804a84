-- A station that keeps the promise keeps it after each command.
use Rattle.std.proofs.Common.{◌≡◌, List, [], ◌∷◌, ◌++◌, ℤ, IfSome, Some, None, Ok, Err, vec_items, Option, Result, sym, refl, ◌∙◌, subst, MatchOption}
use Rattle.std.specs.Result as results
use Rattle.custody.specs.declared.call.Call.{Call}
use Rattle.custody.specs.declared.call.Call.TheVariants as calls
use Rattle.custody.specs.Calls.{after}
use Rattle.custody.specs.Ledger.{all_after}
use Rattle.custody.specs.Promise.{Asked, given, replies}
use Rattle.custody.proofs.Running.{upheld_start, run_upholds}
use Rattle.keying.specs.declared.key.Key.{Key}
use Rattle.keying.specs.Told.{Told}
use Rattle.places.specs.Books.{empty_book}
use Rattle.script.specs.declared.answer.Answer.{Answer}
use Rattle.script.specs.declared.command.Command.{Command}
use Rattle.script.specs.declared.command.Command.TheVariants.{Engines, Key as Keyed, Commission, Station, Apart}
use Rattle.script.specs.declared.request.Request.{Request}
use Rattle.script.specs.declared.request.Request.TheVariants.{Deposit, Join, Trim, Clear, Open, HandOut, Publish, Tell, Alike}
use Rattle.session.specs.Commands.{Carried, Begun, Only, Tried, Opened, Asked as Inquired}
use Rattle.session.specs.Hands.{Hand, Post, Sketch}
use Rattle.session.specs.Promises.{Promise, Promised}
use Rattle.session.specs.Requests.{answered, book_after, post_after}
use Rattle.session.specs.Said.{Said, no_draft, no_station, said as said_of}

-- the call that a request asks for
abbrev call_of : Request → Call
call_of (Deposit place width noise message) = calls.Deposit place width (record { ref_ptr = (0, 0); now = vec_items noise }) (record { ref_ptr = (0, 0); now = vec_items message })
call_of (Join first second) = calls.Join first second
call_of (Trim place) = calls.Trim place
call_of (Clear place) = calls.Clear place
call_of (Open place size) = calls.Open place
call_of (HandOut place size) = calls.HandOut place
call_of (Publish size) = calls.Publish
call_of (Tell place) = calls.Tell place
call_of (Alike first second) = calls.Alike first second

-- it leaves the book that the request leaves
same-book : (p : Post) (request : Request) → after p.key p.told p.book (call_of request) ≡ book_after p request
same-book p (Deposit place width noise message) = refl
same-book p (Join first second) = refl
same-book p (Trim place) = refl
same-book p (Clear place) = refl
same-book p (Open place size) = refl
same-book p (HandOut place size) = refl
same-book p (Publish size) = refl
same-book p (Tell place) = refl
same-book p (Alike first second) = refl

run_one : (p : Post) (call : Call) → all_after p.key p.told p.book (call ∷ []) ≡ after p.key p.told p.book call
unfolding all_after
run_one p call = refl

pub request_keeps : (p : Post) (request : Request) → Promise p → Promise (post_after p request)
request_keeps p request past =
    let more : List Asked = (call_of request, []) ∷ [] in
    record {
      asked = past.asked ++ more;
      replied = past.replied ++ given (replies p.key p.told p.book more);
      upheld =
          run_upholds p.key p.told past.asked more past.replied p.book past.upheld (book_after p request)
          (given (replies p.key p.told p.book more)) (sym (run_one p (call_of request) ∙ same-book p request)) refl;
    }

-- nothing was asked of a new station
pub new_keeps : (key : Key) (told : Told) → Promise (record { key = key; told = told; book = empty_book })
new_keeps key told = record { asked = []; replied = []; upheld = upheld_start key told empty_book refl }

-- a hand that is as it was
unmoved : {answer said : Said} {before after : Hand} → Only answer before said after → Promised before → Promised after
unmoved only promised = subst Promised (sym only.hand) promised

begun_keeps : {told : Told} {after : Hand} → Begun told after → Promised after
begun_keeps begun =
    let P : Option Post → Type 0 = λ station. IfSome station Promise in
    subst P (sym begun.station) tt

-- each way that a draft may be there or not
tried_keeps : (draft : Option Sketch) (f g : List ℤ) (before after : Hand) (said : Said)
    → MatchOption draft (Only no_draft before said after) (λ was. Tried was f g before said after) → Promised before → Promised after
tried_keeps None f g before after said only promised = unmoved only promised
tried_keeps (Some was) f g before after said tried promised = subst Promised (sym tried.hand) promised

opened-keeps : (draft : Option Sketch) (before after : Hand) (said : Said)
    → MatchOption draft (Only no_draft before said after) (λ was. Opened was before said after) → Promised before → Promised after
opened-keeps None before after said only promised = unmoved only promised
opened-keeps (Some was) before after said opened promised = subst Promised (sym opened.hand) (new_keeps was.key was.told)

asked-keeps : (station : Option Post) (request : Request) (before after : Hand) (said : Said)
    → MatchOption station (Only no_station before said after) (λ p. Inquired (answered p request) (post_after p request) before said after)
    → IfSome station Promise → Promised before → Promised after
asked-keeps None request before after said only _ promised = unmoved only promised
asked-keeps (Some p) request before after said asked past promised = subst Promised (sym asked.hand) (request_keeps p request past)

-- a command keeps the promise
pub carried_keeps : (before : Hand) (command : Command) (said : Said) (after : Hand) → Carried before command said after → Promised before → Promised after
carried_keeps before (Engines field binary) said after c promised = begun_keeps c.1
carried_keeps before (Keyed f g) said after c promised = tried_keeps before.draft (vec_items f) (vec_items g) before after said c promised
carried_keeps before Commission said after c promised = opened-keeps before.draft before after said c promised
carried_keeps before (Station request) said after c promised = asked-keeps before.station request before after said c promised promised
carried_keeps before (Apart task) said after c promised = unmoved c promised

-- and so does one that finds no memory, since it leaves all as it was
pub result_keeps : {E : Type 0} (before : Hand) (command : Command) (after : Hand) (r : Result Answer E)
    → results.MatchResult r (λ answer. Carried before command (said_of answer) after) (λ _. after ≡ before) → Promised before → Promised after
result_keeps before command after (Ok answer) c promised = carried_keeps before command (said_of answer) after c promised
result_keeps before command after (Err e) c promised = subst Promised (sym c) promised
