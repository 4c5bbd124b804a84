-- The lines that a deposit, a join and a trim make.
use Rattle.std.specs.Prelude.{ℕ, ◌+◌, ◌-◌, cond, List, map, ℤ, Ok, Err, nat_lt}
use Rattle.ring.specs.declared.refusal.Refusal.TheVariants.{TooNoisy}
use Rattle.code.specs.Widths.{radius}
use Rattle.wrapping.specs.Wraps.{wrap, allowance}
use Rattle.wrapping.specs.Joins.{joined}
use Rattle.wrapping.specs.Trims.{halved, trim_loss, trimmed_allowance}
use Rattle.keying.specs.declared.key.Key.{Key}
use Rattle.keying.specs.Keys.{f_of, h_of}
use Rattle.places.specs.Books.{Line}
use Rattle.places.specs.Replies.{Reply}

-- a line from its parts
abbrev pub candidate : ℕ → List ℕ → ℕ → Line
candidate w c l = record { width = w; coefficients = c; allowance = l }

-- 12: the new allowance would reach the new radius
abbrev pub quiet : Line → Reply Line
quiet line = cond (nat_lt line.allowance (radius line.width)) (Ok line) (Err TooNoisy)

-- the line that a deposit would fill
abbrev pub deposited : Key → ℕ → List ℤ → List ℕ → Line
deposited key w r message =
    let n = key.degree in
    let c = wrap n w (h_of key) r message in
    record { width = w; coefficients = c; allowance = allowance n w (f_of key) c message }

-- the line that two lines make together: coefficients add modulo 2^w and allowances add
abbrev pub together : Line → Line → Line
together a b = record { width = a.width; coefficients = joined a.width a.coefficients b.coefficients; allowance = a.allowance + b.allowance }

-- the line that a trim makes of a line
abbrev pub shortened : Key → Line → Line
shortened key a = record {
  width = a.width - 1;
  coefficients = map (halved a.width) a.coefficients;
  allowance = trimmed_allowance a.allowance (trim_loss key.degree a.width (f_of key) a.coefficients);
}
