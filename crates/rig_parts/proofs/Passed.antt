-- What a run and a move have passed where their tests refuse nothing.
use mathlib.Core.Path.{◌≡◌, refl}
use mathlib.Core.Bool.{true, not}
use mathlib.Core.List.{List}
use Prim.Native.Nat.{ℕ, ◌+◌}
use lib.Dec.{eqb, leb}
use lib.ListN.{length}
use borrow.Author.Tests.{eqb-false, not-true}
use Rattle.std.specs.Prelude.{Ok, Err}
use Rattle.base.specs.Choice.{within}
use Rattle.plan.specs.declared.TaskId.{TaskId}
use Rattle.plan.specs.declared.ProcessorId.{ProcessorId}
use Rattle.rules.specs.declared.task.Task.{Task}
use Rattle.rules.specs.declared.task.TaskState.TheVariants.{Ready}
use Rattle.rules.specs.declared.message.Message.TheVariants.{Migration}
use Rattle.rules.specs.declared.rule.Posting.TheVariants.{Single}
use Rattle.rules.specs.declared.step.StepRefusal.TheVariants.{NoTask, NotReady, NetworkFull, NoProcessor, AlreadyThere, MovesSpent}
use Rattle.rules.specs.declared.system.TaskTable.{TaskTable}
use Rattle.rules.specs.Numbers.{most_moves}
use Rattle.rules.specs.Answers.{is_accepted}
use Rattle.rules.specs.Tasks.{is_in, is_at}
use Rattle.rules.specs.Networks.{messages_of}
use Rattle.rules.specs.Systems.{task_in}
use Rattle.rig_parts.specs.RunVerdicts.{run_refusal}
use Rattle.rig_parts.specs.MoveVerdicts.{move_refusal}
use Rattle.rig_parts.proofs.Answers.{passed}

-- a run of task t
pub run_passed : (codes : List ℕ) (m : ℕ) (ts : TaskTable) (t : TaskId) → is_accepted (run_refusal codes m ts t) ≡ true
    → (within 1 m t.0 ≡ true) × (is_in Ready (task_in ts t) ≡ true)
unfolding run_refusal
run_passed codes m ts t h =
    let (w, h₁) = passed (within 1 m t.0) (Err NoTask) _ refl h in
    let (ready, _) = passed (is_in Ready (task_in ts t)) (Err NotReady) _ refl h₁ in
    (w, ready)

-- a move of task t, with record x, to desk e
pub record MovePassed (m n used : ℕ) (t : TaskId) (e : ProcessorId) (x : Task) : Type 0 where
  pub task : within 1 m t.0 ≡ true
  pub processor : within 1 n e.0 ≡ true
  pub ready : is_in Ready x ≡ true
  pub unspent : (x.moves ≡ most_moves) → ⊥
  pub fitting : leb (used + length (messages_of n (Single (Migration e t)))) 256 ≡ true

pub move_passed : (m n : ℕ) (ts : TaskTable) (used : ℕ) (t : TaskId) (e : ProcessorId) → is_accepted (move_refusal m n ts used t e) ≡ true
    → MovePassed m n used t e (task_in ts t)
unfolding move_refusal
move_passed m n ts used t e h =
    let x = task_in ts t in
    let (a, h₁) = passed (within 1 m t.0) (Err NoTask) _ refl h in
    let (b, h₂) = passed (within 1 n e.0) (Err NoProcessor) _ refl h₁ in
    let (r, h₃) = passed (is_in Ready x) (Err NotReady) _ refl h₂ in
    let (_, h₄) = passed (not (is_at e x)) (Err AlreadyThere) _ refl h₃ in
    let (s, h₅) = passed (not (eqb x.moves most_moves)) (Err MovesSpent) _ refl h₄ in
    let (f, _) = passed (leb (used + length (messages_of n (Single (Migration e t)))) 256) (Err NetworkFull) (Ok tt) refl h₅ in
    record { task = a; processor = b; ready = r; unspent = eqb-false x.moves most_moves (not-true _ s); fitting = f }
