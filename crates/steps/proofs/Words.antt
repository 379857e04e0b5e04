-- The verdict on a run that changes nothing but a word, and what it leaves.
use mathlib.Core.Path.{◌≡◌, refl, sym, ap, ◌∙◌}
use mathlib.Core.Bool.{Bool, true, false}
use mathlib.Core.List.{List}
use Prim.Native.Nat.{ℕ, ◌+◌, ◌≤◌}
use native.Mathlib.Omega.{arith}
use lib.Dec.{eqb}
use borrow.Author.Tests.{ne_eqb, eq-eqb, le-leb}
use Rattle.std.specs.Prelude.{Ok}
use Rattle.base.specs.Choice.{within}
use Rattle.base.proofs.Tests.{tests_differ}
use Rattle.plan.specs.declared.TaskId.{TaskId}
use Rattle.plan.specs.declared.ProcessorId.{ProcessorId}
use Rattle.plan.specs.declared.Instruction.{Instruction}
use Rattle.plan.specs.Words.{with_level, set_word, add_word}
use Rattle.rules.specs.declared.task.Task.{Task}
use Rattle.rules.specs.declared.task.TaskState.TheVariants.{Ready}
use Rattle.rules.specs.declared.step.Step.{Step}
use Rattle.rules.specs.declared.system.TaskTable.{TaskTable}
use Rattle.rules.specs.declared.system.Channels.{Channels}
use Rattle.rules.specs.declared.system.Store.{Store}
use Rattle.rig_parts.specs.declared.kept.Kept.{Kept}
use Rattle.rules.specs.Numbers.{task_id}
use Rattle.rules.specs.Networks.{messages_of}
use Rattle.rules.specs.Steps.{is_run, well_formed}
use Rattle.rules.specs.Systems.{store, task_in, task_stored}
use Rattle.rules.specs.Tasks.{is_in}
use Rattle.rig_parts.specs.declared.change.Scope.{Scope}
use Rattle.rig_parts.specs.Answers.{Verdict}
use Rattle.rig_parts.specs.Facts.{Facts}
use Rattle.rig_parts.specs.Fetches.{cell_put, site_in}
use Rattle.rig_parts.specs.Scopes.{alone, run_scope}
use Rattle.rig_parts.specs.RunVerdicts.{run_refusal, judged_run, ran_in, run_change, send_in, task_change}
use Rattle.rig_parts.proofs.BoundsReady.{next_at}
use Rattle.steps.specs.Words.{word_changed}
use Rattle.board.specs.Lent.{lent, Whole, tasks_on, channels_on, store_of, parents_on, SameAbove, SameStanding}
use Rattle.board.specs.Acted.{Acted, plain_act}
use Rattle.board.specs.Verdicts.{step_verdict}
use Rattle.steps.proofs.Acting.{stored_none}

-- by a test
by_bool : {P : Type 0} (b : Bool) → (b ≡ true → P) → (b ≡ false → P) → P
by_bool true p q = p refl
by_bool false p q = q refl

-- no run that was not carried out was
pub never : {P : Type 0} → false ≡ true → P
never e = absurd (tests_differ e refl)

-- a set or an add on level 0 leaves the other levels
pub above_kept : (x : Task) (i : Instruction) → i.level ≡ 0 → SameAbove x.word (word_changed x i).word
unfolding set_word add_word with_level
above_kept x i e =
    by_bool (eqb i.opcode 6) (λ q. rw (q, e) (refl, refl, refl)) (λ q. rw (q, e) (refl, refl, refl))

-- and the task in its state at its desk
pub standing_kept : (x : Task) (i : Instruction) → SameStanding x (word_changed x i)
standing_kept x i = by_bool (eqb i.opcode 6) (λ q. rw q (refl, refl)) (λ q. rw q (refl, refl))

module _ (f : Facts) (n : ℕ) (ts : TaskTable) (s : Kept) (used : ℕ) (x : Step) where
  -- the task of the step, alone
  abbrev t : TaskId
  t = task_id x.task

  abbrev k : Scope
  k = alone t (task_in ts t).processor

  -- a set or an add of a ready task is accepted
  pub word_judged : is_run x ≡ true → x.number ≡ 0 → within 1 f.tasks x.task ≡ true → is_in Ready (task_in ts t) ≡ true → 6 ≤ (next_at f ts t).opcode → used ≤ 256
      → step_verdict f n ts s used x ≡ Ok (task_change k (site_in f.codes ts s.store k) (word_changed (task_in ts t) (next_at f ts t)))
  unfolding step_verdict judged_run run_refusal ran_in run_change run_scope send_in site_in messages_of well_formed
  word_judged run zero w ready high few =
      let o = (next_at f ts t).opcode in
      rw
      (run, eq-eqb x.number 0 zero, w, ready, ne_eqb o 1 (λ e. omega arith), ne_eqb o 2 (λ e. omega arith), ne_eqb o 3 (λ e. omega arith), ne_eqb o 4 (λ e. omega arith), ne_eqb o 5 (λ e. omega arith))
      (by_bool (eqb o 6) (λ e. rw (e, le-leb (used + 0) 256 (omega arith)) refl) (λ e. rw (e, le-leb (used + 0) 256 (omega arith)) refl))

module _ (ss rs hp hm op on notes board board' : List ℕ) (t : TaskId) (y : Task) (v : Verdict) where
  abbrev s : Store
  s = store_of (lent hp hm op on notes board)

  -- and its task's new record is all that it leaves
  pub word_acted : (codes : List ℕ) (d : ProcessorId) → v ≡ Ok (task_change (alone t d) (site_in codes (tasks_on board) s (alone t d)) y)
      → (Whole board') × (tasks_on board' ≡ task_stored (tasks_on board) t y) × (channels_on board' ≡ channels_on board) × (parents_on board' ≡ parents_on board)
      → Acted ss rs v (lent hp hm op on notes board) plain_act (lent hp hm op on notes board')
  unfolding cell_put
  word_acted codes d e w =
      rw e
      (record {
        whole = w.0;
        act = refl;
        tasks = w.1 ∙ sym (stored_none (task_stored (tasks_on board) t y) _);
        store = ap (λ (z : Channels). store (record { hintprocessors = hp; hintmoves = hm; heldprocessors = op; heldnumbers = on; notes = notes }) z) w.2;
        parents = w.3;
      })
