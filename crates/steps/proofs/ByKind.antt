-- The verdict on a step, by its kind.
use mathlib.Core.Path.{◌≡◌, refl}
use mathlib.Core.Bool.{Bool, true, false}
use Prim.Native.Nat.{ℕ}
use borrow.Author.Tests.{ne_eqb}
use lib.Dec.{eqb}
use Rattle.std.specs.Prelude.{Err}
use Rattle.base.specs.Choice.{pick, unless}
use Rattle.rules.specs.declared.step.Step.{Step}
use Rattle.rules.specs.declared.step.StepRefusal.TheVariants.{NoMessage, BadStep}
use Rattle.rules.specs.declared.system.TaskTable.{TaskTable}
use Rattle.rig_parts.specs.declared.kept.Kept.{Kept}
use Rattle.rules.specs.Numbers.{task_id, processor_id}
use Rattle.rules.specs.Steps.{well_formed}
use Rattle.rig_parts.specs.Answers.{Verdict}
use Rattle.rig_parts.specs.Facts.{Facts}
use Rattle.rig_parts.specs.RunVerdicts.{judged_run}
use Rattle.rig_parts.specs.MoveVerdicts.{judged_move}
use Rattle.board.specs.Verdicts.{step_verdict}
use Rattle.steps.specs.Kinds.{kind_refusal}

-- a refusal under the choice
under : (a b : Bool) (v : Verdict) → unless (pick a b false) (Err BadStep) (pick a (Err NoMessage) v) ≡ Err (pick a (unless b BadStep NoMessage) BadStep)
under true true v = refl
under true false v = refl
under false b v = refl

module _ (f : Facts) (n : ℕ) (ts : TaskTable) (s : Kept) (used : ℕ) (x : Step) where
  abbrev verdict : Verdict
  verdict = step_verdict f n ts s used x

  pub bad_run : x.kind ≡ 1 → (x.number ≡ 0 → ⊥) → verdict ≡ Err BadStep
  unfolding step_verdict well_formed
  bad_run k h = rw (k, ne_eqb x.number 0 h) refl

  pub a_run : x.kind ≡ 1 → x.number ≡ 0 → verdict ≡ judged_run f n ts s used (task_id x.task)
  unfolding step_verdict well_formed
  a_run k h = rw (k, h) refl

  pub a_move : x.kind ≡ 3 → verdict ≡ judged_move f.tasks n ts used (task_id x.task) (processor_id x.number)
  unfolding step_verdict well_formed
  a_move k = rw k refl

  pub no_run_no_move : (x.kind ≡ 1 → ⊥) → (x.kind ≡ 3 → ⊥) → verdict ≡ Err (kind_refusal x)
  unfolding step_verdict well_formed
  no_run_no_move k h = rw (ne_eqb x.kind 1 k, ne_eqb x.kind 3 h) (under (eqb x.kind 2) (eqb x.task 0) _)
