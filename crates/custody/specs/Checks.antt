-- The order of checks of each call, and what an obeyed call makes of the book.
-- A call is read with the key, with what the engines tell, and with the book before it.
use Rattle.std.specs.Prelude.{ℕ, ◌*◌, ◌/◌, cond, List, ℤ, Ok, Err, nat_lt}
use Rattle.ring.specs.declared.refusal.Refusal.TheVariants.{Unkeyed, Width}
use Rattle.code.specs.Rows.{decoded}
use Rattle.wrapping.specs.Wraps.{measured}
use Rattle.keying.specs.declared.key.Key.{Key}
use Rattle.keying.specs.Keys.{f_of}
use Rattle.keying.specs.Told.{Told, ready}
use Rattle.places.specs.Books.{Line, Book}
use Rattle.places.specs.Replies.{Reply, then}
use Rattle.places.specs.Lines.{quiet, deposited, shortened}
use Rattle.places.specs.Checks.{placed, found, vacant, join_places, buffered}

-- 5: the station has no key that its engines fit
abbrev pub keyed : {X : Type 0} → Key → Told → Reply X → Reply X
keyed key told rest = cond (ready key.degree told) rest (Err Unkeyed)

-- deposit: 5, 6, 7, 11, 2, 3, 12
abbrev pub deposit : Key → Told → Book → ℕ → ℕ → List ℤ → List ℕ → Reply Line
deposit key told book place w r message =
    keyed key told (then (vacant key.degree book place w r message) (λ _. quiet (deposited key w r message)))

-- join: 5, 6, 9, 8, 10, 12
abbrev pub join : Key → Told → Book → ℕ → ℕ → Reply Line
join key told book first second = keyed key told (join_places book first second)

-- trim: 5, 6, 8, 11, 12
abbrev pub trim : Key → Told → Book → ℕ → Reply Line
trim key told book place =
    keyed key told (then (found book place) (λ a. cond (nat_lt 8 a.width) (quiet (shortened key a)) (Err Width)))

-- clear and tell: 5, 6, 8
abbrev pub held : Key → Told → Book → ℕ → Reply Line
held key told book place = keyed key told (found book place)

-- the bits that a line opens to, as a message
abbrev pub opened : Key → Line → List ℕ
opened key a = decoded a.width (measured key.degree (f_of key) a.coefficients) (key.degree / 16)

-- open: 5, 6, 8, 2
abbrev pub open_reply : Key → Told → Book → ℕ → ℕ → Reply Line
open_reply key told book place size = then (held key told book place) (λ a. buffered (key.degree / 16) size a)

-- hand out: 5, 6, 8, 2
abbrev pub hand_out : Key → Told → Book → ℕ → ℕ → Reply Line
hand_out key told book place size = then (held key told book place) (λ a. buffered (key.degree * a.width / 8) size a)

-- publish: 5, 2
abbrev pub publish : Key → Told → ℕ → Reply (Unit {0})
publish key told size = keyed key told (buffered (key.degree * 12 / 8) size tt)

-- alike: 5, 6, 8
abbrev pub both_held : Key → Told → Book → ℕ → ℕ → Reply (Line × Line)
both_held key told book first second =
    keyed key told (placed first (placed second (then (found book first) (λ a. then (found book second) (λ b. Ok (a, b))))))
