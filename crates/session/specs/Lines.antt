-- What a line of a script is answered.
use Rattle.std.specs.Prelude.{◌≡◌, ℕ, Bool, true, false, ◌⊎◌, List, [], ◌∷◌, ◌++◌, Some, None, codes, IsUtf8, Option, ◌==◌, slice_index}
use Rattle.reading.specs.declared.fault.Unread.TheVariants.{Text}
use Rattle.reading.specs.Lines.{words_of}
use Rattle.script.specs.Shown.{answer_shown}
use Rattle.session.specs.declared.reply.Reply.{Reply}
use Rattle.session.specs.Commands.{Only, Replied}
use Rattle.session.specs.Hands.{Hand}
use Rattle.session.specs.Said.{said as said_of, unread}

-- a word that begins with a hash begins a comment
abbrev pub hashed : List ℕ → Bool
hashed word = slice_index word 0 == 35

-- a word as the name in an answer: itself where it is text, else a question mark
abbrev pub Named : List ℕ → List ℕ → Type 0
Named word name = ((IsUtf8 word) × (name ≡ word)) ⊎ ((IsUtf8 word → ⊥) × (name ≡ codes "?"))

-- a line of these words that is answered is no comment, and its first word is the command's name
abbrev pub Spoken : Hand → List (List ℕ) → Reply → Hand → Type 0
Spoken before [] reply after = ⊥
Spoken before (name ∷ words) reply after =
    (hashed name ≡ false) × Named name reply.name.now × Replied before name words (said_of reply.answer) after

-- a line of these words that is passed over is empty or a comment
abbrev pub Silent : List (List ℕ) → Type 0
Silent [] = Unit {0}
Silent (name ∷ words) = hashed name ≡ true

-- what a line is answered, if anything, and what is at hand afterwards
abbrev pub Answered : Hand → List ℕ → Option Reply → Hand → Type 0
Answered before line None after = (IsUtf8 line) × Silent (words_of line) × (after ≡ before)
Answered before line (Some reply) after =
    ((IsUtf8 line) × Spoken before (words_of line) reply after)
    ⊎ ((IsUtf8 line → ⊥) × (reply.name.now ≡ codes "?") × Only (unread Text) before (said_of reply.answer) after)

-- how a reply is written
abbrev pub reply_shown : Reply → List ℕ
reply_shown reply = reply.name.now ++ (codes ": " ++ answer_shown reply.answer)
