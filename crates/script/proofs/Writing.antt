-- A text that is written part by part.
use Rattle.std.proofs.Common.{◌≡◌, ℕ, List, [], ◌++◌, sym, ap, ◌∙◌, append_assoc, append-nil}
use Rattle.std.proofs.Output.{has_written_append, has_written_of_eq}
use Rattle.std.specs.declared.fmt.Formatter.{Formatter}
use Rattle.std.specs.Fmt.{IsPlainFormatter, HasWritten}

module _ {W : Type 0} (took : W → List ℕ → W → Type 0) where
  -- g is f after the text but for the rest was written
  abbrev pub Halfway : Formatter W → Formatter W → List ℕ → List ℕ → Type 0
  Halfway f g text rest = (done : List ℕ) × (text ≡ done ++ rest) × (IsPlainFormatter f → HasWritten took f done g)

  pub written-more : (f g h : Formatter W) (text rest part left : List ℕ)
      → Halfway f g text rest → rest ≡ part ++ left → (IsPlainFormatter g → HasWritten took g part h) → Halfway f h text left
  written-more f g h text rest part left (done, e, put) cut more = (
    done ++ part,
    e ∙ ap (λ (l : List ℕ). done ++ l) cut ∙ sym (append_assoc done part left),
    λ plain. let x = put plain in has_written_append took f done g part h x (more x.plain),
  )

  pub written_same : (f g : Formatter W) (text rest left : List ℕ) → Halfway f g text rest → rest ≡ left → Halfway f g text left
  written_same f g text rest left (done, e, put) same = (done, e ∙ ap (λ (l : List ℕ). done ++ l) same, put)

  pub written_all : (f g : Formatter W) (text rest : List ℕ) → Halfway f g text rest → rest ≡ [] → IsPlainFormatter f → HasWritten took f text g
  written_all f g text rest (done, e, put) none plain =
      has_written_of_eq took f done text g (sym (e ∙ ap (λ (l : List ℕ). done ++ l) none ∙ append-nil done)) (put plain)
