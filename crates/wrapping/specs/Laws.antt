-- What noise does: laws of wrappings under a key in which h times f is g.
use Rattle.std.specs.Prelude.{◌≡◌, ℕ, ◌+◌, ◌-◌, ◌*◌, ◌<◌, ◌≤◌, true, List, map, length, ℤ}
use Rattle.ring.specs.Engines.{all_below}
use Rattle.code.specs.Widths.{radius}
use Rattle.code.specs.Rows.{farthest, decoded}
use Rattle.wrapping.specs.Secrets.{Tied}
use Rattle.wrapping.specs.Wraps.{wrap, measured, allowance}
use Rattle.wrapping.specs.Exact.{Exact, loudest}
use Rattle.wrapping.specs.Joins.{joined, xored}
use Rattle.wrapping.specs.Trims.{halved, trim_loss, trimmed_allowance}

pub record NoiseLaws : Type 0 where
  -- the exact error is whole, and there is only one
  pub exact_whole : (n w : ℕ) (f g : List ℤ) (h : List ℕ) (r : List ℤ) → Tied n f g h → length r ≡ n → (e : List ℤ) × Exact n w f g h r e
  pub exact_one : (n w : ℕ) (f g : List ℤ) (h : List ℕ) (r d e : List ℤ) → Exact n w f g h r d → Exact n w f g h r e → d ≡ e
  -- a wrapping is no farther from its words than its exact error is long
  pub wrap_near : (n w : ℕ) (f g : List ℤ) (h : List ℕ) (r e : List ℤ) (message : List ℕ) → 0 < w → Tied n f g h → length r ≡ n → Exact n w f g h r e → farthest w (measured n f (wrap n w h r message)) message ≤ loudest e
  -- the allowance is below the radius where the exact error is at most the radius less one long in each octet
  pub wrap_fair : (n w : ℕ) (f g : List ℤ) (h : List ℕ) (r e : List ℤ) (message : List ℕ) → 0 < w → Tied n f g h → length r ≡ n → Exact n w f g h r e → loudest e ≤ (radius w - 1) * (radius w - 1) → allowance n w f (wrap n w h r message) message < radius w
  -- the message comes back where the exact error is shorter than the radius in each octet
  pub wrap_opens : (n w : ℕ) (f g : List ℤ) (h : List ℕ) (r e : List ℤ) (message : List ℕ) → 0 < w → Tied n f g h → length r ≡ n → 16 * length message ≡ n → all_below 256 message ≡ true → Exact n w f g h r e → loudest e < radius w * radius w → decoded w (measured n f (wrap n w h r message)) (length message) ≡ message
  -- no octet is farther from its word than the allowance
  pub allowance_covers : (n w : ℕ) (f : List ℤ) (c message : List ℕ) → farthest w (measured n f c) message ≤ allowance n w f c message * allowance n w f c message
  -- distances add at a join
  pub join_near : (n w L M : ℕ) (f : List ℤ) (a b left right : List ℕ) → 0 < w → 0 < n → length f ≡ n → length a ≡ n → length b ≡ n → length left ≡ length right → farthest w (measured n f a) left ≤ L * L → farthest w (measured n f b) right ≤ M * M → farthest w (measured n f (joined w a b)) (xored left right) ≤ (L + M) * (L + M)
  -- a trim halves the distance with its loss
  pub trim_near : (n w L : ℕ) (f : List ℤ) (c message : List ℕ) → 1 < w → 0 < n → length f ≡ n → length c ≡ n → farthest w (measured n f c) message ≤ L * L → farthest (w - 1) (measured n f (map (halved w) c)) message ≤ trimmed_allowance L (trim_loss n w f c) * trimmed_allowance L (trim_loss n w f c)
