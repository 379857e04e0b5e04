-- The letters of the parts of a rig that 9 does not refuse are letters that it does not refuse.
use mathlib.Core.Path.{◌≡◌}
use mathlib.Core.Bool.{true}
use Prim.Native.Nat.{ℕ, ◌≤◌}
use Rattle.rules.specs.declared.message.Network.{Network}
use Rattle.rules.specs.declared.system.TaskTable.{TaskTable}
use Rattle.rules.specs.Networks.{message_at}
use Rattle.rules.specs.Sound.{message_ok}
use Rattle.rules_sound.proofs.Network.{message_fine}
use Rattle.rules_sound.proofs.Sound.{sound}
use Rattle.rig_parts.specs.declared.kept.Kept.{Kept}
use Rattle.rig_parts.specs.Facts.{Facts}
use Rattle.rig_parts.specs.Turns.{Rig}

-- the letter at position q
pub message_ok_lem : {f : Facts} {n : ℕ} {ts : TaskTable} {k : Network} {s : Kept} (g : Rig f n ts k s) (q : ℕ) → 1 ≤ q → q ≤ k.used
    → message_ok n f.tasks (message_at k q) ≡ true
message_ok_lem g q some there =
    let p = g.parts in
    let r = p.system in
    rw (p.facts_of_lem, p.processors, g.network)
    (message_fine r.processors r.plan r.network p.shaped.slots (sound r p.shaped p.sound).network q some (rw g.network at there))
