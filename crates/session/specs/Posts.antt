-- What a station answers to a call that it is handed, and what it and the call's buffer are afterwards.
use Rattle.std.specs.Prelude.{ℕ, List, ℤ}
use Rattle.places.specs.Replies.{Reply}
use Rattle.custody.specs.declared.call.Call.{Call}
use Rattle.custody.specs.declared.call.Call.TheVariants.{Deposit, Join, Trim, Clear, Open, HandOut, Publish, Tell, Alike}
use Rattle.custody.specs.declared.call.Answer.{Answer}
use Rattle.custody.specs.Calls.{after, answer, buffer_after}
use Rattle.custody.specs.Ledger.{all_after}
use Rattle.custody.specs.Promise.{Asked, Replied, given, replies}
use Rattle.session.specs.Hands.{Post}

-- the answer with a buffer of some size
abbrev pub answer_at : Post → Call → ℕ → Reply Answer
answer_at p call size = answer p.key p.told p.book call size

-- the buffer afterwards
abbrev pub buffer_at : Post → Call → List ℕ → List ℕ
buffer_at p call buffer = buffer_after p.key p.told p.book call buffer

-- the station afterwards
abbrev pub post_at : Post → Call → Post
post_at p call = record { key = p.key; told = p.told; book = after p.key p.told p.book call }

-- the same of a list of calls
abbrev pub replies_at : Post → List Asked → List Replied
replies_at p asked = given (replies p.key p.told p.book asked)

abbrev pub post_through : Post → List Call → Post
post_through p calls = record { key = p.key; told = p.told; book = all_after p.key p.told p.book calls }

-- a call by its arguments alone
pub data Plain : Type 0 where
  deposit : ℕ → ℕ → List ℤ → List ℕ → Plain
  join : ℕ → ℕ → Plain
  trim : ℕ → Plain
  clear : ℕ → Plain
  opening : ℕ → Plain
  hand_out : ℕ → Plain
  publish : Plain
  tell : ℕ → Plain
  alike : ℕ → ℕ → Plain

abbrev pub plain_call : Call → Plain
plain_call (Deposit place width noise message) = deposit place width noise.now message.now
plain_call (Join first second) = join first second
plain_call (Trim place) = trim place
plain_call (Clear place) = clear place
plain_call (Open place) = opening place
plain_call (HandOut place) = hand_out place
plain_call Publish = publish
plain_call (Tell place) = tell place
plain_call (Alike first second) = alike first second
