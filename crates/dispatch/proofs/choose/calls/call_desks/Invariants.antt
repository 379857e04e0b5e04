-- `call_desks`: what its loops keep.
use mathlib.Core.Path.{◌≡◌}
use mathlib.Core.Bool.{false}
use Prim.Native.Nat.{ℕ, ◌+◌, ◌-◌, ◌≤◌, ◌<◌}
use lib.ListN.{get_or}
use Rattle.rules.specs.declared.system.System.{System}
use Rattle.rules.specs.Networks.{no_slot}
use Rattle.network.proofs.Shift.{shifted}
use Rattle.network.proofs.Gaps.{holding}
use Rattle.network.proofs.Posted.{after}
use Rattle.board.specs.Lent.{lent}
use Rattle.dispatch.specs.Letters.{is_for}
use Rattle.dispatch.specs.Boards.{On, no_choices}
use Rattle.dispatch.proofs.Called.{Going}
use Rattle.dispatch.proofs.choose.calls.call_desks.Given as goal

-- none of the first letters is for the desk
abbrev pub invariant-loop-place : goal.invariant-loop-place
invariant-loop-place l = (l.place ≤ l.used) × ((i : ℕ) → i < l.place → is_for l.desk (get_or l.network.slots i no_slot).message ≡ false)

abbrev pub decreases-loop-place : goal.decreases-loop-place
decreases-loop-place l = l.used - l.place

-- j letters behind the delivered one have moved down
abbrev pub invariant-loop-j : goal.invariant-loop-j
invariant-loop-j l = (l.place + l.j ≤ l.end) × (l.network ≡ holding l.initial.network.used (shifted l.initial.network.slots l.place l.j))

abbrev pub decreases-loop-j : goal.decreases-loop-j
decreases-loop-j l = l.end - l.j

-- e rounds have posted their letters
abbrev pub invariant-loop-e : goal.invariant-loop-e
invariant-loop-e l = (l.e ≤ l.rounds) × (l.network ≡ after l.posting l.initial.network l.e)

abbrev pub decreases-loop-e : goal.decreases-loop-e
decreases-loop-e l = l.rounds - l.e

-- the first k calls are made
abbrev pub invariant-loop-k : goal.invariant-loop-k
invariant-loop-k l =
    let i = l.initial in
    let begun = lent i.hintprocessors i.hintmoves i.heldprocessors i.heldnumbers i.notes i.board in
    let here = lent l.hintprocessors l.hintmoves l.heldprocessors l.heldnumbers l.notes l.board in
    (l.k ≤ 12006)
    × ((r : System) → On l.codes l.numbers l.users l.size i.network begun no_choices r
    → Going l.codes l.numbers l.users l.size 12006 r i.out (12006 - l.k) l.d l.awake l.network here l.last l.progress l.out)

abbrev pub decreases-loop-k : goal.decreases-loop-k
decreases-loop-k l = 12006 - l.k
