-- What is read step by step.
use Rattle.std.proofs.Common.{◌≡◌, ℕ, List, [], ◌∷◌, ◌++◌, IsErrAnd, Ok, Err, Result, sym, refl, ap, ◌∙◌, append_assoc, arith}
use Rattle.std.proofs.lemmas.Result.{err_from_is_err_and}
use Rattle.reading.specs.Steps.{then, seen}

-- what went well went well at each step
pub then_ok : {X Y E : Type 0} (r : Result X E) (rest : X → Result Y E) (y : Y) → then r rest ≡ Ok y → (x : X) × (r ≡ Ok x) × (rest x ≡ Ok y)
then_ok (Ok x) rest y e = (x, refl, e)
then_ok (Err d) rest y e =
    let never : ◌≡◌ {A = ℕ} 0 1 = cc in
    absurd (omega arith)

-- what the exit of a `?` returns, where it hands the fault on as a given one
pub handed_on : {X E : Type 0} {e : E} (r : Result X E) → IsErrAnd r (λ d. d ≡ e) → r ≡ Err e
handed_on r h =
    let p = err_from_is_err_and r h in
    p.1 ∙ ap Err p.2

-- one more value after those that were read
pub seen_push : {X E : Type 0} (xs : List X) (x : X) (r : Result (List X) E)
    → seen (λ ys. xs ++ ys) (then r (λ ys. Ok (x ∷ ys))) ≡ seen (λ ys. (xs ++ x ∷ []) ++ ys) r
seen_push xs x (Ok ys) = ap Ok (sym (append_assoc xs (x ∷ []) ys))
seen_push xs x (Err e) = refl
