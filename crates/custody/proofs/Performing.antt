-- What the exit of a `?` returns is the answer to a call that is refused.
use Rattle.std.proofs.Common.{◌≡◌, Ok, Err, sym, refl, ap, ◌∙◌}
use Rattle.std.specs.Result.{IsErrAnd}
use Rattle.std.proofs.lemmas.Result.{err_from_is_err_and}
use Rattle.ring.specs.declared.refusal.Refusal.{Refusal}
use Rattle.custody.specs.declared.call.Answer.{Answer}
use Rattle.places.specs.Replies.{Reply, plain}
use Rattle.custody.specs.Calls.{done}

done_plain : {X : Type 0} (r : Reply X) → done (plain r) ≡ done r
done_plain (Ok x) = refl
done_plain (Err e) = refl

pub declined : {X : Type 0} (reply : Reply X) (e : Refusal) (exit : Reply Answer) → IsErrAnd exit (λ y. y ≡ e) → plain reply ≡ Err e → exit ≡ done reply
declined reply e exit left was =
    let here = err_from_is_err_and exit left in
    here.1 ∙ ap Err here.2 ∙ ap done (sym was) ∙ done_plain reply
