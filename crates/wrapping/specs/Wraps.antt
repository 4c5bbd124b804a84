-- How a message is wrapped under a public row h of degree n, at a width w, with noise r.
use Rattle.std.specs.Prelude.{ℕ, ◌+◌, ◌*◌, ◌/◌, ◌%◌, ◌^◌, List, map, ℤ, slice_index}
use Rattle.std.specs.List.{range_with_len}
use Rattle.ring.specs.Rows.{product}
use Rattle.ring.specs.Integers.{integers}
use Rattle.code.specs.Widths.{radius}
use Rattle.code.specs.Words.{word}
use Rattle.code.specs.Messages.{number}
use Rattle.code.specs.Rows.{whole, farthest}
use Rattle.code.specs.Roots.{root_up}
use Rattle.wrapping.specs.Secrets.{secret, reduced_row}

-- h times r, in 0 to 3456
unfoldable pub sigma : ℕ → List ℕ → List ℤ → List ℕ
sigma n h r = reduced_row 3457 (product integers n (whole h) r)

-- the whole number nearest to 2^w s / 3457; there is no tie, as 3457 is odd
unfoldable pub rounded : ℕ → ℕ → ℕ
rounded w s = (2 * (2 ^ w * s) + 3457) / 6914

-- place i of the words of a message in a row
unfoldable pub position : List ℕ → ℕ → ℕ
position message i = slice_index (word (number message (i / 8))) (i % 8)

-- a rounded number with a word's bit put on its top, modulo 2^w
unfoldable pub embedded : ℕ → ℕ → ℕ → ℕ
embedded w s bit = (rounded w s + radius w * bit) % 2 ^ w

-- the coefficients that wrap a message, from the row sigma
unfoldable pub embedded_row : ℕ → ℕ → List ℕ → List ℕ → List ℕ
embedded_row n w row message = map (λ i. embedded w (slice_index row i) (position message i)) (range_with_len 0 n)

-- the coefficients c that wrap a message under h with noise r
abbrev pub wrap : ℕ → ℕ → List ℕ → List ℤ → List ℕ → List ℕ
wrap n w h r message = embedded_row n w (sigma n h r) message

-- c times f in whole numbers: what is measured against the words, and what is read
unfoldable pub measured : ℕ → List ℤ → List ℕ → List ℤ
measured n f' c = product integers n (whole c) (secret f')

-- the allowance of coefficients c for a message:
-- the least whole number that no octet of c times f is farther from its word than
unfoldable pub allowance : ℕ → ℕ → List ℤ → List ℕ → List ℕ → ℕ
allowance n w f' c message = root_up (farthest w (measured n f' c) message)
