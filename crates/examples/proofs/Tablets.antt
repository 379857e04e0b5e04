-- What is said of tablets, used: task 1 of one plan is marked and that of the other is not, task 2 receives another word, and tablets of both rigs
-- show the same, whatever the steps and desks.
use mathlib.Core.Path.{◌≡◌, refl, sym, ◌∙◌}
use mathlib.Core.Bool.{true, false}
use mathlib.Core.List.{List, [], ◌∷◌}
use Prim.Native.Nat.{ℕ, ◌≤◌}
use native.Mathlib.Omega.{arith}
use Rattle.std.specs.Prelude.{Ok, Err}
use Rattle.plan.specs.declared.Plan.{Plan}
use Rattle.plan.specs.Numbers.{task_id}
use Rattle.plan.specs.Programs.{programs}
use Rattle.plan.specs.Refusals.{plan_answer}
use Rattle.plan.specs.Words.{levels}
use Rattle.rules.specs.declared.step.Step.{Step}
use Rattle.rules.specs.declared.task.TaskState.TheVariants.{Done}
use Rattle.rules.specs.declared.step.StepRefusal.TheVariants.{NoTask}
use Rattle.rules.specs.Numbers.{processor_id}
use Rattle.rules.specs.Systems.{task_at}
use Rattle.rules.specs.Starts.{started}
use Rattle.rules.specs.Steps.{History, ruled_steps, quiescent, received_on}
use Rattle.rules.specs.Views.{tablet_of}
use Rattle.rules.specs.Erasures.{erased_instruction, erased_programs}
use Rattle.rules.proofs.Evaluated.{evaluated}
use Rattle.rules_laws.proofs.Shapes.{started_shaped}
use Rattle.rules_sound.proofs.Kept.{ruled_steps_lem}
use Rattle.rules_sound.proofs.Starts.{started_ok}
use Rattle.claim.specs.Statement.{from}
use Rattle.claim.specs.Tablets.{SameTablets}
use Rattle.examples.specs.Tablets.{high_plan, low_plan, level_steps, level_channel}
use Rattle.claim.proofs.Tablets.{same_tablets}

high_accepted : plan_answer (programs high_plan) ≡ Ok tt
unfolding evaluated
high_accepted = refl

low_accepted : plan_answer (programs low_plan) ≡ Ok tt
unfolding evaluated
low_accepted = refl

differ_in_a_set : erased_programs (programs high_plan) ≡ erased_programs (programs low_plan)
unfolding evaluated erased_programs erased_instruction
differ_in_a_set = refl

pub levels_hidden : (n : ℕ) (ss : List Step) → 1 ≤ n → n ≤ 6 → SameTablets n high_plan low_plan ss
levels_hidden n ss some few = same_tablets n high_plan low_plan ss some few high_accepted low_accepted differ_in_a_set

-- the runs on two desks, with 9 tested at the end only
abbrev ruled : Plan → History
ruled p = ruled_steps (started 2 p) level_steps

as_ruled : (p : Plan) → plan_answer (programs p) ≡ Ok tt → from 2 p level_steps ≡ ruled p
as_ruled p a = sym (ruled_steps_lem (started 2 p) level_steps (started_shaped 2 p) (started_ok 2 p (omega arith) (omega arith) a))

-- words differ, and marks
ruled_high_word : received_on level_channel (ruled high_plan).reports ≡ levels 0 0 0 0 ∷ []
unfolding evaluated
ruled_high_word = refl

ruled_low_word : received_on level_channel (ruled low_plan).reports ≡ levels 8 0 0 0 ∷ []
unfolding evaluated
ruled_low_word = refl

ruled_high_mark : (task_at (ruled high_plan).system (task_id 1)).overflow ≡ true
unfolding evaluated
ruled_high_mark = refl

ruled_low_mark : (task_at (ruled low_plan).system (task_id 1)).overflow ≡ false
unfolding evaluated
ruled_low_mark = refl

pub high_marked : (task_at (from 2 high_plan level_steps).system (task_id 1)).overflow ≡ true
high_marked = rw (as_ruled high_plan high_accepted) ruled_high_mark

pub low_unmarked : (task_at (from 2 low_plan level_steps).system (task_id 1)).overflow ≡ false
low_unmarked = rw (as_ruled low_plan low_accepted) ruled_low_mark

-- tablets show the same: task 2 done on desk 2, behind its last instruction; and no third task. Both rigs rest
ruled_shown : tablet_of (ruled low_plan).system (task_id 2) ≡ Ok (record { task = task_id 2; state = Done; processor = processor_id 2; pc = 3 })
unfolding evaluated
ruled_shown = refl

ruled_none : tablet_of (ruled low_plan).system (task_id 3) ≡ Err NoTask
unfolding evaluated
ruled_none = refl

ruled_rests : quiescent (ruled low_plan).system ≡ true
unfolding evaluated
ruled_rests = refl

same : SameTablets 2 high_plan low_plan level_steps
same = levels_hidden 2 level_steps (omega arith) (omega arith)

pub high_shown : tablet_of (from 2 high_plan level_steps).system (task_id 2) ≡ Ok (record { task = task_id 2; state = Done; processor = processor_id 2; pc = 3 })
high_shown = same.records (task_id 2) ∙ rw (as_ruled low_plan low_accepted) ruled_shown

pub high_none : tablet_of (from 2 high_plan level_steps).system (task_id 3) ≡ Err NoTask
high_none = same.records (task_id 3) ∙ rw (as_ruled low_plan low_accepted) ruled_none

pub high_rests : quiescent (from 2 high_plan level_steps).system ≡ true
high_rests = same.rest ∙ rw (as_ruled low_plan low_accepted) ruled_rests
