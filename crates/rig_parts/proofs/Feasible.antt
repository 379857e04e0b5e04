-- What a change posts fits, where it can be carried out.
use mathlib.Core.Path.{◌≡◌}
use mathlib.Core.Bool.{true}
use Prim.Native.Nat.{ℕ, ◌+◌, ◌≤◌}
use lib.ListN.{length}
use borrow.Author.Tests.{leb-true}
use Rattle.base.proofs.Tests.{and_right}
use Rattle.rules.specs.Networks.{messages_of}
use Rattle.rig_parts.specs.Sweeps.{sweep_ok}
use Rattle.rig_parts.specs.declared.change.Change.{Change}
use Rattle.rig_parts.specs.Fetches.{scope_ok}
use Rattle.rig_parts.specs.Feasible.{change_ok}

pub change_room : (n used : ℕ) (x : Change) → change_ok n used x ≡ true → used + length (messages_of n x.outcome.posting) ≤ 256
change_room n used x h =
    let all = used + length (messages_of n x.outcome.posting) in
    leb-true all 256 (and_right (sweep_ok x.sweep) _ (and_right (scope_ok x.scope) _ h))
