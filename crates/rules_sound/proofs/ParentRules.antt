-- What a desk keeps for a parent stays fine: its pointer set, a child held.
use mathlib.Core.Path.{◌≡◌}
use mathlib.Core.Bool.{true}
use Prim.Native.Nat.{ℕ, ◌≤◌}
use Rattle.base.proofs.Sets.{inserted_below}
use Rattle.plan.specs.declared.TaskId.{TaskId}
use Rattle.rules.specs.declared.channel.Hint.{Hint}
use Rattle.rules.specs.declared.system.ParentEntry.{ParentEntry}
use Rattle.rules.specs.Local.{holding_child}
use Rattle.rules.specs.Starts.{pointing}
use Rattle.rules.specs.Sound.{known_ok}
use Rattle.rules_sound.specs.Fine.{FineParent}
use Rattle.rules_sound.proofs.Cells.{known_fine}

module _ (n m : ℕ) (e : ParentEntry) (f : FineParent n m e) where
  pub pointing_fine : (h : Hint) → known_ok n h ≡ true → FineParent n m (pointing e h)
  pointing_fine h k = record { hint = known_fine n h k; held = f.held }

  pub holding_child_lem : (t : TaskId) → 1 ≤ t.0 → t.0 ≤ m → FineParent n m (holding_child e t)
  holding_child_lem t l h = record { hint = f.hint; held = inserted_below t.0 e.held m l h f.held }
