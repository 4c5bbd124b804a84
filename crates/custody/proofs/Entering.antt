-- Every list of calls keeps the ledger sound.
use Rattle.std.proofs.Common.{◌≡◌, ℕ, List, [], ◌∷◌, ◌++◌, refl, subst}
use Rattle.wrapping.specs.Joins.{xored}
use Rattle.keying.specs.declared.key.Key.{Key}
use Rattle.custody.specs.declared.call.Call.{Call}
use Rattle.custody.specs.declared.call.Call.TheVariants.{Deposit, Join, Trim, Clear, Open, HandOut, Publish, Tell, Alike}
use Rattle.keying.specs.Told.{Told}
use Rattle.custody.specs.Checks.{deposit, join, trim, held}
use Rattle.places.specs.Changes.{put}
use Rattle.custody.specs.Ledger.{Ledger, due, owed, entered, entered_all, blank, ledger_of}
use Rattle.custody.proofs.SoundLedgers.{Sound, blank_sound, put_sound, emptied_sound, owed_same}
use Rattle.custody.proofs.Fillings.{deposit_enters, join_enters, trim_enters}

module _ (key : Key) (told : Told) where
  pub entered_sound : (ledger : Ledger) (call : Call) → Sound key told ledger → Sound key told (entered key told ledger call)
  entered_sound ledger (Deposit place width noise message) s =
      put_sound key told ledger place (deposit key told ledger.lines place width noise.now message.now) message.now s (deposit_enters key told ledger place width noise.now message.now)
  entered_sound ledger (Join first second) s =
      let reply = join key told ledger.lines first second in
      let bits = xored (due ledger first) (due ledger second) in
      emptied_sound key told (record { lines = put ledger.lines first reply; dues = owed ledger.dues first reply bits }) second reply
      (put_sound key told ledger first reply bits s (join_enters key told ledger s first second))
  entered_sound ledger (Trim place) s =
      let reply = trim key told ledger.lines place in
      subst (λ (dues : List (List ℕ)). Sound key told (record { lines = put ledger.lines place reply; dues = dues })) (owed_same ledger.dues place reply)
      (put_sound key told ledger place reply (due ledger place) s (trim_enters key told ledger s place))
  entered_sound ledger (Clear place) s = emptied_sound key told ledger place (held key told ledger.lines place) s
  entered_sound ledger (Open place) s = s
  entered_sound ledger (HandOut place) s = s
  entered_sound ledger Publish s = s
  entered_sound ledger (Tell place) s = s
  entered_sound ledger (Alike first second) s = s

  pub entered_all_sound : (ledger : Ledger) (calls : List Call) → Sound key told ledger → Sound key told (entered_all key told ledger calls)
  unfolding entered_all
  entered_all_sound ledger [] s = s
  entered_all_sound ledger (call ∷ calls) s = entered_all_sound (entered key told ledger call) calls (entered_sound ledger call s)

  pub ledger_sound : (calls : List Call) → Sound key told (ledger_of key told calls)
  ledger_sound calls = entered_all_sound blank calls (blank_sound key told)

  -- calls after calls
  pub entered_all_append : (ledger : Ledger) (xs ys : List Call) → entered_all key told ledger (xs ++ ys) ≡ entered_all key told (entered_all key told ledger xs) ys
  unfolding entered_all
  entered_all_append ledger [] ys = refl
  entered_all_append ledger (x ∷ xs) ys = entered_all_append (entered key told ledger x) xs ys
