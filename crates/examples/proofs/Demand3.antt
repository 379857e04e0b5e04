-- What demand 3 says of one run: from its words and its rest on three desks, those of the one-desk rig, whatever its steps.
use mathlib.Core.Path.{◌≡◌, refl, sym, ap, ◌∙◌}
use mathlib.Core.Bool.{true}
use mathlib.Core.List.{List, [], ◌∷◌}
use Prim.Native.Nat.{ℕ}
use native.Mathlib.Omega.{arith}
use Rattle.std.specs.Prelude.{Ok}
use Rattle.base.specs.Beginnings.{Beginning}
use Rattle.plan.specs.declared.TaskId.{TaskId}
use Rattle.plan.specs.declared.Word.{Word}
use Rattle.plan.specs.Numbers.{task_id}
use Rattle.plan.specs.Programs.{programs, canonical}
use Rattle.plan.specs.Refusals.{plan_answer}
use Rattle.plan.specs.Words.{levels}
use Rattle.rules.specs.declared.step.Step.{Step}
use Rattle.rules.specs.declared.task.TaskState.TheVariants.{Done}
use Rattle.rules.specs.declared.task.Task.{Task}
use Rattle.rules.specs.Systems.{task_at}
use Rattle.rules.specs.Starts.{started}
use Rattle.rules.specs.Steps.{History, ruled_steps, quiescent, received_on}
use Rattle.rules.proofs.Evaluated.{evaluated}
use Rattle.rules_laws.proofs.Shapes.{started_shaped}
use Rattle.rules_sound.proofs.Kept.{ruled_steps_lem}
use Rattle.rules_sound.proofs.Starts.{started_ok}
use Rattle.claim.specs.Statement.{from, Rests, Demand3}
use Rattle.examples.specs.Demand3.{example_plan, example_before, example_all, example_channel}
use Rattle.claim.proofs.Demand3.{demand_3}

accepted : plan_answer (programs example_plan) ≡ Ok tt
unfolding evaluated
accepted = refl

-- the run, with 9 tested at the end only
run_as_ruled : (ss : List Step) → from 3 example_plan ss ≡ ruled_steps (started 3 example_plan) ss
run_as_ruled ss =
    sym (ruled_steps_lem (started 3 example_plan) ss (started_shaped 3 example_plan) (started_ok 3 example_plan (omega arith) (omega arith) accepted))

ruled_rests : quiescent (ruled_steps (started 3 example_plan) example_all).system ≡ true
unfolding evaluated
ruled_rests = refl

rests : quiescent (from 3 example_plan example_all).system ≡ true
rests = rw (run_as_ruled example_all) ruled_rests

-- the words that pass
abbrev first : Word
first = levels 0 0 33057 0

abbrev second : Word
second = levels 0 0 5178 0

-- the words received before the last, and at rest; the receiver's word and place
ruled_before : received_on example_channel (ruled_steps (started 3 example_plan) example_before).reports ≡ first ∷ second ∷ []
unfolding evaluated
ruled_before = refl

ruled_all : received_on example_channel (ruled_steps (started 3 example_plan) example_all).reports ≡ first ∷ second ∷ second ∷ []
unfolding evaluated
ruled_all = refl

abbrev receiver : TaskId
receiver = task_id 3

-- a done task with this place and word
pub record DoneAt (place : ℕ) (word : Word) (x : Task) : Type 0 where
  pub state : x.state ≡ Done
  pub at : x.pc ≡ place
  pub with : x.word ≡ word

ruled_receiver : DoneAt 5 second (task_at (ruled_steps (started 3 example_plan) example_all).system receiver)
unfolding evaluated
ruled_receiver = record { state = refl; at = refl; with = refl }

three_processors : (ss : List Step) → Demand3 3 example_plan ss
three_processors ss = demand_3 3 example_plan ss (omega arith) (omega arith) accepted

-- (b): from the words before the last, the first two of the one-desk rig
pub first_words : (ts : List Step) → Rests example_plan ts
    → Beginning (first ∷ second ∷ []) (received_on example_channel (from 1 example_plan ts).reports)
first_words ts at_rest = rw (run_as_ruled example_before, ruled_before) at ((three_processors example_before).beginning ts at_rest example_channel)

-- (c): from the words at rest, all of them
pub all_words : (ts : List Step) → Rests example_plan ts
    → received_on example_channel (from 1 example_plan ts).reports ≡ first ∷ second ∷ second ∷ []
all_words ts at_rest =
    sym ((three_processors example_all).same_words rests ts at_rest example_channel)
    ∙ ap (λ (h : History). received_on example_channel h.reports) (run_as_ruled example_all) ∙ ruled_all

-- and that its receiver is done, at which place and with which word
pub receiver_done : (ts : List Step) → Rests example_plan ts → DoneAt 5 second (task_at (from 1 example_plan ts).system receiver)
unfolding canonical
receiver_done ts at_rest =
    let same = (three_processors example_all).same_tasks rests ts at_rest receiver refl in
    let here : DoneAt 5 second (task_at (from 3 example_plan example_all).system receiver) = rw (run_as_ruled example_all) ruled_receiver in
    record { state = sym same.state ∙ here.state; at = sym same.place ∙ here.at; with = sym same.word ∙ here.with }
