-- A line that is answered is spoken for by its first word.
use Rattle.std.proofs.Common.{◌≡◌, ℕ, false, List, [], ◌∷◌, is_err, Some, Ok, Err, Result, unwrap_or, sym, ap, ◌∙◌, subst, arith, MatchResult}
use Rattle.std.proofs.lemmas.Bool.{true≢false}
use Rattle.reading.specs.Cuts.{first, others}
use Rattle.session.specs.declared.reply.Reply.{Reply}
use Rattle.session.specs.Commands.{Replied}
use Rattle.session.specs.Hands.{Hand}
use Rattle.session.specs.Lines.{hashed, Named, Spoken}
use Rattle.session.specs.Said.{said}

-- what no error says beside its value
pub no_error : {X E : Type 0} (A : X → Type 0) (U : Type 0) (Q : E → Type 0) (r : Result X E) → MatchResult r (λ x. A x × U) Q → is_err r ≡ false → U
no_error A U Q (Ok x) h e = h.1
no_error A U Q (Err x) h e = absurd (true≢false e)

pub spoken : (before : Hand) (ws : List (List ℕ)) (word : List ℕ) (rest : List (List ℕ)) (reply : Reply) (after : Hand)
    → Some word ≡ first ws → rest ≡ others ws → hashed word ≡ false → Named word reply.name.now
    → Replied before word rest (said reply.answer) after → Spoken before ws reply after
spoken before [] word rest reply after is left plain named replied = absurd (let z : ◌≡◌ {A = ℕ} 0 1 = cc in omega arith)
spoken before (x ∷ xs) word rest reply after is left plain named replied =
    let same : word ≡ x = ap (λ o. unwrap_or o word) is in (
      ap hashed (sym same) ∙ plain,
      subst (λ w. Named w reply.name.now) same named,
      subst (λ w. Replied before w xs (said reply.answer) after) same (subst (λ l. Replied before word l (said reply.answer) after) left replied),
    )
