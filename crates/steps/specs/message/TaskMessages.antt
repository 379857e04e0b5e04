-- The letters that are about a task: which one a letter is, and that it can be opened beside what is not lent for it.
use Rattle.std.specs.Prelude.{◌≡◌, List, ℕ, ◌≤◌}
use Rattle.plan.specs.declared.ProcessorId.{ProcessorId}
use Rattle.plan.specs.declared.TaskId.{TaskId}
use Rattle.rules.specs.declared.message.Message.{Message}
use Rattle.rules.specs.declared.message.Message.TheVariants.{Migration}
use Rattle.rules.specs.declared.channel.Hint.{Hint}
use Rattle.rules.specs.declared.rule.Ended.{Ended}
use Rattle.rules.specs.declared.system.TaskTable.{TaskTable}
use Rattle.rules.specs.declared.system.Parents.{Parents}
use Rattle.rules.specs.Systems.{task_in}
use Rattle.rules.specs.Arrivals.{terminated_rule}
use Rattle.rig_parts.specs.Sweeps.{parent_in}
use Rattle.rig_parts.specs.Scopes.{named_in}
use Rattle.board.specs.Lent.{lent}
use Rattle.board.specs.Rigs.{Opens}
use Rattle.steps.specs.message.Parts.{Some}

-- m is a mover letter
pub record IsMover (m : Message) : Type 0 where
  pub processor : ProcessorId
  pub task : TaskId
  pub is : m ≡ Migration processor task

-- what an ended letter for child t along h leaves: of the parent, of what the letter's desk keeps for it, and the letter
abbrev pub ended_in : List ℕ → TaskTable → Parents → Hint → TaskId → Ended
ended_in parents ts ps h t =
    let u = named_in parents t.0 in
    terminated_rule (task_in ts u) (parent_in ps h.processor u) h t

-- what it supposes
pub record CanEnd (parents : List ℕ) (h : Hint) (t : TaskId) : Type 0 where
  pub child_low : 1 ≤ t.0
  pub child : t.0 ≤ 64
  pub parent : (named_in parents t.0).0 ≤ 64
  pub processor_low : 1 ≤ h.processor.0
  pub processor : h.processor.0 ≤ 6

-- a mover letter can be opened beside some codes and notes
abbrev pub MoverOpens : (users hintprocessors hintmoves heldprocessors heldnumbers board : List ℕ) → Message → Type 0
MoverOpens users hintprocessors hintmoves heldprocessors heldnumbers board m =
    (IsMover m)
    × (Some (λ codes. Some (λ notes. Opens codes users (lent hintprocessors hintmoves heldprocessors heldnumbers notes board) m)))
