-- A rig without words is read and written as the rig is: a task, a cell, what a desk keeps for a parent, letters; and what its plan says.
use mathlib.Core.Path.{◌≡◌, refl, ap, fun_ext, ◌∙◌}
use mathlib.Core.List.{map}
use Prim.Native.Nat.{ℕ, ◌-◌, ◌<◌}
use native.Mathlib.Omega.{arith}
use Rattle.std.specs.Prelude.{Ok}
use Rattle.plan.specs.declared.TaskId.{TaskId}
use Rattle.plan.specs.declared.ProcessorId.{ProcessorId}
use Rattle.plan.specs.declared.ChannelId.{ChannelId}
use Rattle.plan.specs.Kinds.{op_create, op_send, op_receive, op_set}
use Rattle.plan.specs.Programs.{program_at}
use Rattle.plan.specs.Refusals.{plan_answer}
use Rattle.plan.specs.Users.{users, first_of, sender_of, receiver_of, parent_of}
use Rattle.rules.specs.declared.task.Task.{Task}
use Rattle.rules.specs.declared.channel.Hint.{Hint}
use Rattle.rules.specs.declared.channel.Cell.{Cell}
use Rattle.rules.specs.declared.system.ParentEntry.{ParentEntry}
use Rattle.rules.specs.declared.system.System.{System}
use Rattle.rules.specs.Numbers.{task_id, same_task}
use Rattle.rules.specs.Hints.{hint}
use Rattle.rules.specs.Tasks.{born}
use Rattle.rules.specs.Networks.{messages_of}
use Rattle.rules.specs.Systems.{with_tasks, task_at, with_task, with_cell, parent_at, with_parent, meaning, task_program}
use Rattle.rules.specs.Effects.{Effect, completed, for_channels, for_receiving, for_sending}
use Rattle.rules.specs.Starts.{located, pointing, pointed, birth}
use Rattle.rules.specs.Erasures.{erased_instruction, erased_programs, erased_task, erase}
use Rattle.erasure.specs.Erased.{erased_effect}
use Rattle.erasure.proofs.Programs.{program_erased, users_erased}
use Rattle.erasure.proofs.Plans.{meaning_erased, tasks_erased}
use Rattle.erasure.proofs.Tasks.{task_read, task_stored_lem}
use Rattle.erasure.proofs.Networks.{joined_erased, posted_erased}

module _ (r : System) where
  pub task_erased : (t : TaskId) → task_at (erase r) t ≡ erased_task (task_at r t)
  unfolding erase
  task_erased t = task_read r.tasks t

  pub with_task_lem : (t : TaskId) (x : Task) → with_task (erase r) t (erased_task x) ≡ erase (with_task r t x)
  unfolding erase with_task
  with_task_lem t x = ap (with_tasks (erase r)) (task_stored_lem r.tasks t x)

  pub with_cell_lem : (d : ProcessorId) (c : ChannelId) (x : Cell) → with_cell (erase r) d c x ≡ erase (with_cell r d c x)
  unfolding erase with_cell
  with_cell_lem d c x = refl

  pub parent_at_lem : (d : ProcessorId) (t : TaskId) → parent_at (erase r) d t ≡ parent_at r d t
  unfolding erase parent_at
  parent_at_lem d t = refl

  pub with_parent_lem : (d : ProcessorId) (t : TaskId) (e : ParentEntry) → with_parent (erase r) d t e ≡ erase (with_parent r d t e)
  unfolding erase with_parent
  with_parent_lem d t e = refl

  pub pointed_erased : (d : ProcessorId) (t : TaskId) (h : Hint) → pointed (erase r) d t h ≡ erase (pointed r d t h)
  pointed_erased d t h = ap (λ (e : ParentEntry). with_parent (erase r) d t (pointing e h)) (parent_at_lem d t) ∙ with_parent_lem d t (pointing (parent_at r d t) h)

  pub tasks_same : (erase r).plan.tasks ≡ r.plan.tasks
  unfolding erase
  tasks_same = tasks_erased r.plan

  -- what an accepted plan says
  module _ (a : plan_answer (meaning r) ≡ Ok tt) where
    pub means : meaning (erase r) ≡ erased_programs (meaning r)
    unfolding erase
    means = meaning_erased r.plan a

    pub program_of_lem : (t : TaskId) → task_program (erase r) t ≡ map erased_instruction (task_program r t)
    program_of_lem t = ap (λ m. program_at m (t.0 - 1)) means ∙ program_erased (meaning r) (t.0 - 1)

    first_erased : (k n : ℕ) → k < op_set → task_id (first_of (users (meaning (erase r)) k n)) ≡ task_id (first_of (users (meaning r) k n))
    first_erased k n l = ap (λ m. task_id (first_of (users m k n))) means ∙ ap (λ us. task_id (first_of us)) (users_erased k n l (meaning r))

    pub sender_erased : (c : ChannelId) → sender_of (meaning (erase r)) c ≡ sender_of (meaning r) c
    sender_erased c = first_erased op_send c.0 (omega arith)

    pub receiver_erased : (c : ChannelId) → receiver_of (meaning (erase r)) c ≡ receiver_of (meaning r) c
    receiver_erased c = first_erased op_receive c.0 (omega arith)

    pub parent_erased : (t : TaskId) → parent_of (meaning (erase r)) t ≡ parent_of (meaning r) t
    parent_erased t = first_erased op_create t.0 (omega arith)

    pub for_receiving_lem : (t : TaskId) (d : ProcessorId) (rule : Cell → Cell) → for_receiving (erase r) t d rule ≡ erase (for_receiving r t d rule)
    unfolding erase for_channels
    for_receiving_lem t d rule =
        ap (λ test. for_channels 128 test rule d (erase r)) (fun_ext λ (c : ChannelId). ap (λ u. same_task u t) (receiver_erased c))

    pub for_sending_lem : (t : TaskId) (d : ProcessorId) (rule : Cell → Cell) → for_sending (erase r) t d rule ≡ erase (for_sending r t d rule)
    unfolding erase for_channels
    for_sending_lem t d rule = ap (λ test. for_channels 128 test rule d (erase r)) (fun_ext λ (c : ChannelId). ap (λ u. same_task u t) (sender_erased c))

-- a birth
pub birth_erased : (r : System) → plan_answer (meaning r) ≡ Ok tt → (t : TaskId) (d : ProcessorId) (own : Hint) → birth (erase r) t d own ≡ erase (birth r t d own)
unfolding birth with_task with_parent
birth_erased r a t d own =
    let q = with_task r t (born d own) in
    ap (λ (s : System). for_receiving (pointed s d t (hint d 1)) t d (located d 1)) (with_task_lem r t (born d own))
    ∙ ap (λ (s : System). for_receiving s t d (located d 1)) (pointed_erased q d t (hint d 1))
    ∙ for_receiving_lem (pointed q d t (hint d 1)) a t d (located d 1)

-- letters join the mail
pub completed_erased : (e : Effect) → completed (erased_effect e) ≡ erase (completed e)
unfolding completed erase
completed_erased e =
    rw (posted_erased e.system.processors e.posting, joined_erased e.system.network (messages_of e.system.processors e.posting)) refl
