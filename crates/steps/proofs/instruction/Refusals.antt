-- What the first tests of a run suppose holds in the parts of a rig.
use Prim.Native.Nat.{ℕ}
use Rattle.base.proofs.Tests.{within_both}
use Rattle.rules.specs.declared.system.TaskTable.{TaskTable}
use Rattle.rig_parts.specs.declared.kept.Kept.{Kept}
use Rattle.rules.specs.Systems.{task_in}
use Rattle.rig_parts.specs.Facts.{Facts, PartsOf}
use Rattle.rig_parts.proofs.BoundsParts.{count_few}
use Rattle.rig_parts.proofs.BoundsReady.{place_some, place_last}
use Rattle.steps.specs.instruction.Refusals.{Placed}

pub placed : {f : Facts} {n : ℕ} {ts : TaskTable} {s : Kept} {used : ℕ} → PartsOf f n ts s used → Placed f.tasks ts
placed {ts = ts} p =
    record {
      few = count_few p;
      place = λ t w ready. within_both 1 64 (task_in ts t).pc (place_some p t w ready) (place_last p t w ready);
    }
