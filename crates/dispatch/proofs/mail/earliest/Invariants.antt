-- `earliest` goes through the letters. The loop's invariant: none of the first k is for the desk.
use mathlib.Core.Path.{◌≡◌}
use mathlib.Core.Bool.{false}
use Prim.Native.Nat.{ℕ, ◌<◌}
use lib.ListN.{get_or}
use Rattle.rules.specs.Networks.{no_slot}
use Rattle.dispatch.specs.Letters.{is_for}
use Rattle.dispatch.proofs.mail.earliest.Given as goal

abbrev pub invariant-loop-k : goal.invariant-loop-k
invariant-loop-k l = (i : ℕ) → i < l.k → is_for l.d (get_or l.n.slots i no_slot).message ≡ false
