-- Each call that fills a place enters a sound line there.
use Rattle.std.proofs.Common.{◌≡◌, ℕ, ◌+◌, ◌-◌, ◌*◌, ◌<◌, ◌≤◌, ltb, List, [], ◌∷◌, length, ℤ, Ok, Err, sym, refl, ◌∙◌, subst, arith, MatchResult}
use Rattle.std.proofs.lemmas.List.{length-map}
use Rattle.std.proofs.lemmas.Bool.{ltb-true, cond_both}
use Rattle.ring.specs.declared.refusal.Refusal.TheVariants.{TooNoisy}
use Rattle.code.specs.Widths.{radius}
use Rattle.code.specs.Rows.{farthest}
use Rattle.wrapping.specs.Wraps.{sigma, wrap, measured}
use Rattle.wrapping.specs.Joins.{xored}
use Rattle.wrapping.specs.Trims.{halved}
use Rattle.wrapping.proofs.Coefficients.{length-joined}
use Rattle.wrapping.proofs.Coefficients.{length-embedded_row}
use Rattle.wrapping.proofs.WrapLaws.{allowance_covers}
use Rattle.wrapping.proofs.JoinLaws.{join_near}
use Rattle.wrapping.proofs.TrimLaws.{trim_near}
use Rattle.keying.specs.declared.key.Key.{Key}
use Rattle.keying.specs.Keys.{f_of, h_of}
use Rattle.keying.specs.Told.{Told}
use Rattle.places.specs.Books.{Line}
use Rattle.places.specs.Lines.{quiet, deposited, together, shortened}
use Rattle.custody.specs.Checks.{deposit, join, trim}
use Rattle.custody.specs.Ledger.{Ledger, due}
use Rattle.custody.proofs.Outcomes.{Any, deposit_cases, join_cases, trim_cases}
use Rattle.custody.proofs.SoundLedgers.{SoundLine, Sound, Entry}
use Rattle.keying.proofs.TiedKeys.{f_long, ready-some}

-- a line goes in once its allowance is below the radius
quiet_cases : (P : Line → Type 0) (line : Line) → (line.allowance < radius line.width → P line) → MatchResult (quiet line) P Any
quiet_cases P line h =
    cond_both (ltb line.allowance (radius line.width)) (Ok line) (Err TooNoisy) (λ r. MatchResult r P Any) (λ b. h (ltb-true line.allowance (radius line.width) b)) (λ _. tt)

length-xored : (left right : List ℕ) → length left ≡ length right → length (xored left right) ≡ length left
unfolding xored
length-xored [] right l = refl
length-xored (x ∷ left) [] l = sym l
length-xored (x ∷ left) (y ∷ right) l = omega (arith, length-xored left right (omega arith))

module _ (key : Key) (told : Told) (ledger : Ledger) where
  pub deposit_enters : (place w : ℕ) (r : List ℤ) (message : List ℕ) → MatchResult (deposit key told ledger.lines place w r message) (Entry key told place message) Any
  deposit_enters place w r message =
      deposit_cases Any (λ _ _. tt) (Entry key told place message) key told ledger.lines place w r message (λ fit args.
      quiet_cases (Entry key told place message) (deposited key w r message) (λ below. record {
        inside = args.inside;
        fit = fit;
        sound = record {
          low = omega (arith, args.low);
          high = args.high;
          long = length-embedded_row key.degree w (sigma key.degree (h_of key) r) message;
          bits_long = args.message_long;
          below = below;
          near = allowance_covers key.degree w (f_of key) (wrap key.degree w (h_of key) r message) message;
        };
      }))

  -- two sound lines of one width together
  sound_together : (a b : Line) (left right : List ℕ) → 0 < key.degree → SoundLine key a left → SoundLine key b right → a.width ≡ b.width → a.allowance + b.allowance < radius a.width → SoundLine key (together a b) (xored left right)
  sound_together a b left right some s t w below = record {
    low = s.low;
    high = s.high;
    long = length-joined a.width a.coefficients b.coefficients ∙ s.long;
    bits_long = length-xored left right lengths ∙ s.bits_long;
    below = below;
    near =
        join_near key.degree a.width a.allowance b.allowance (f_of key) a.coefficients b.coefficients left right
        (omega (arith, s.low)) some (f_long key) s.long t.long lengths s.near
        (subst (λ (x : ℕ). farthest x (measured key.degree (f_of key) b.coefficients) right ≤ b.allowance * b.allowance) (sym w) t.near);
  }
    where
      lengths : length left ≡ length right
      lengths = s.bits_long ∙ sym t.bits_long

  pub join_enters : Sound key told ledger → (first second : ℕ) → MatchResult (join key told ledger.lines first second) (Entry key told first (xored (due ledger first) (due ledger second))) Any
  join_enters s first second =
      join_cases Any (λ _ _. tt) entry key told ledger.lines first second (λ fit inside a b at_first at_second w.
      quiet_cases entry (together a b) (λ below. record {
        inside = inside;
        fit = fit;
        sound = sound_together a b (due ledger first) (due ledger second) (ready-some key.degree told fit) (s.each first a at_first) (s.each second b at_second) w below;
      }))
    where
      entry : Line → Type 0
      entry = Entry key told first (xored (due ledger first) (due ledger second))

  -- a sound line of a width above 8, shortened
  sound_shortened : (a : Line) (bits : List ℕ) → 0 < key.degree → SoundLine key a bits → 8 < a.width → (shortened key a).allowance < radius (a.width - 1) → SoundLine key (shortened key a) bits
  sound_shortened a bits some s w below = record {
    low = omega arith;
    high = omega (arith, s.high);
    long = length-map a.coefficients (halved a.width) ∙ s.long;
    bits_long = s.bits_long;
    below = below;
    near = trim_near key.degree a.width a.allowance (f_of key) a.coefficients bits (omega arith) some (f_long key) s.long s.near;
  }

  pub trim_enters : Sound key told ledger → (place : ℕ) → MatchResult (trim key told ledger.lines place) (Entry key told place (due ledger place)) Any
  trim_enters s place =
      trim_cases Any (λ _ _. tt) entry key told ledger.lines place (λ fit inside a there w.
      quiet_cases entry (shortened key a) (λ below. record {
        inside = inside;
        fit = fit;
        sound = sound_shortened a (due ledger place) (ready-some key.degree told fit) (s.each place a there) w below;
      }))
    where
      entry : Line → Type 0
      entry = Entry key told place (due ledger place)
