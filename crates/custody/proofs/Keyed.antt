-- A station that goes on has a key that its engines fit.
use Rattle.std.proofs.Common.{◌≡◌, Bool, true, false, cond, Ok, Err, refl, subst}
use Rattle.ring.specs.declared.refusal.Refusal.TheVariants.{Unkeyed}
use Rattle.keying.specs.declared.key.Key.{Key}
use Rattle.keying.specs.Told.{Told, ready}
use Rattle.keying.proofs.Tellings.{Ready, ready_is}
use Rattle.places.specs.Replies.{Reply}
use Rattle.custody.specs.Checks.{keyed}

abbrev Declined : Reply (Unit {0}) → Type 0
Declined (Ok x) = ⊥
Declined (Err e) = Unit {0}

tested : (b : Bool) (x : Unit {0}) → cond b (Ok tt) (Err Unkeyed) ≡ Ok x → b ≡ true
tested true x h = refl
tested false x h = absurd (subst Declined h tt)

pub keyed_is : (key : Key) (told : Told) (x : Unit {0}) → keyed key told (Ok tt) ≡ Ok x → Ready key.degree told
keyed_is key told x h = ready_is key.degree told (tested (ready key.degree told) x h)
