-- The rig at the start of an accepted plan runs with the net at its start.
use mathlib.Core.Path.{◌≡◌, refl, sym, subst}
use mathlib.Core.Bool.{true, false, true≢false}
use mathlib.Core.List.Memᴰ
use mathlib.Core.List.{[]}
use mathlib.Core.Logic.{◌≢◌}
use Prim.Native.Nat.{ℕ, ◌-◌, ◌≤◌}
use native.Mathlib.Omega.{arith}
use lib.ListN.{length}
use borrow.Author.Tests.{eq-eqb, ne_eqb}
use Rattle.std.specs.Prelude.{Ok}
use Rattle.base.specs.Sets.{member}
use Rattle.base.proofs.Sets.{none_member}
use Rattle.base.proofs.Tests.{tests_differ, within_low}
use Rattle.plan.specs.declared.Plan.{Plan}
use Rattle.plan.specs.declared.TaskId.{TaskId}
use Rattle.plan.specs.Programs.{programs}
use Rattle.plan.specs.Refusals.{plan_answer}
use Rattle.plan.specs.Users.{parent_of}
use Rattle.plan.specs.Words.{zero_word}
use Rattle.rules.specs.declared.task.TaskState.TheVariants.{Unborn, Moving, Done}
use Rattle.rules.specs.declared.task.Task.{Task}
use Rattle.rules.specs.Tasks.{is_in, no_task, unborn, born}
use Rattle.rules.specs.Starts.{started, blank}
use Rattle.rules_laws.proofs.Shapes.{started_plan, started_shaped}
use Rattle.rules_sound.proofs.Starts.{started_ok}
use Rattle.net.specs.States.{start_net}
use Rattle.transitions.specs.Readings.{reading, no_parent_entry}
use Rattle.transitions.specs.Progress.{completed_by}
use Rattle.transitions.specs.Messages.{flat}
use Rattle.transitions.specs.Views.{Histories}
use Rattle.transitions.specs.Family.{Placed, Child, Kin}
use Rattle.transitions.specs.Agreement.{coming_to, word_with, Agrees, TasksOk, Running}
use Rattle.transitions.proofs.Rigs.{tasks_ok_lem}
use Rattle.invariant.proofs.StartViews.{start_tasks, start_reading, read_started, start_cases, start_histories, start_views, blank_task, start_parents, parent_here, nowhere, first}
use Rattle.rules.specs.declared.system.ParentEntry.{ParentEntry}
use Rattle.rules.specs.Numbers.{processor_id}
use Rattle.rules.specs.Hints.{unknown}
use Rattle.rules.specs.Systems.{task_at}
use Rattle.channel.specs.Updates.{at_number}
use Rattle.channel.specs.Hints.{Table}
use Rattle.channel.proofs.Hints.{bear}
use Rattle.channel.proofs.Keep.{starts}
use Rattle.transitions.proofs.Updates.{at_other, task_cases, at_elim, at_task_lem}
use Rattle.transitions.proofs.Tasks.{state_is}
use Rattle.transitions.proofs.Outcomes.{part_at}
use Rattle.channel.proofs.Updates.{at_elim as at-number-elim}
use Rattle.channel.specs.Events as events

module _ (n : ℕ) (p : Plan) where
  -- nobody has a child
  start_childless : (t : TaskId) → (start_tasks n p t).children ≡ 0
  start_childless t = start_cases n p (λ x. x.children ≡ 0) t (λ e. refl) (λ ne. refl) (λ ne. refl)

  -- no desk knows of a task that is not born
  blank_table : Table n (λ k. 0) 0 0 (λ d. unknown)
  unfolding events.blank
  blank_table = (starts n).table

  unborn_placed : (x : Task) → is_in Moving x ≡ false → x.moves ≡ 0 → x.processor.0 ≡ 0 → Placed n (λ k. 0) x (λ d. no_parent_entry) []
  unborn_placed x k m z =
      record {
        one_mover = rw k refl;
        address = λ d i. absurd (Memᴰ.not-nil i);
        table = rw (m, z) blank_table;
        self = λ d l e. absurd (omega arith);
      }

  -- the first task was sent to desk 1
  first_placed : 1 ≤ n → Placed n (at_number (λ k. 0) 1 1) (born (processor_id 1) unknown) (at_number (λ d. no_parent_entry) 1 parent_here) []
  first_placed l =
      let es : ℕ → ParentEntry = λ d. no_parent_entry in
      record {
        one_mover = refl;
        address = λ d i. absurd (Memᴰ.not-nil i);
        table = rw (part_at (λ (e : ParentEntry). e.hint) es 1 parent_here) (bear 1 (omega arith) l blank_table);
        self = at-number-elim (λ d e. 1 ≤ d → e.hint.processor.0 ≡ d → 1 ≡ d) es 1 parent_here (λ i e. e) (λ d ne i e. absurd (omega arith));
      }

  -- every task is in its place
  start_places : 1 ≤ n → (t : TaskId) → Placed n (start_histories t) (start_tasks n p t) (start_parents t) []
  start_places l =
      task_cases (λ t. Placed n (start_histories t) (start_tasks n p t) (start_parents t) []) first
      (rw (
        at_task_lem nowhere first (at_number (λ k. 0) 1 1),
        at_task_lem (λ t d. no_parent_entry) first (at_number (λ d. no_parent_entry) 1 parent_here),
        at_task_lem (task_at (blank n p)) first (born (processor_id 1) unknown),
      )
      (first_placed l))
      (λ t ne.
      let h = at_other nowhere first t (at_number (λ k. 0) 1 1) ne in
      let e = at_other (λ t d. no_parent_entry) first t (at_number (λ d. no_parent_entry) 1 parent_here) ne in
      let k = at_other (task_at (blank n p)) first t (born (processor_id 1) unknown) ne in
      rw (h, e, k)
      (blank_task n p (λ x. Placed n (λ i. 0) x (λ d. no_parent_entry) []) t (unborn_placed unborn refl refl refl) (unborn_placed no_task refl refl refl)))

  -- no child is in a set, no ended letter is under way, and nobody is held
  start_held : (t : TaskId) (d : ℕ) → (start_parents t d).held ≡ 0
  start_held t d =
      at_elim (λ u f. (f d).held ≡ 0) (λ u e. no_parent_entry) first (at_number (λ e. no_parent_entry) 1 parent_here)
      (at-number-elim (λ i e. e.held ≡ 0) (λ e. no_parent_entry) 1 parent_here refl (λ i ne. refl) d) (λ u ne. refl) t

  start_children : (u : TaskId) → 2 ≤ u.0
      → let v = parent_of (programs p) u in Child u (start_histories v) (start_tasks n p v) (start_tasks n p u) (start_parents v) []
  start_children u h =
      let v = parent_of (programs p) u in
      let none : member u.0 (start_tasks n p v).children ≡ false = rw (start_childless v) (none_member u.0) in
      let out : (d : ℕ) → member u.0 (start_parents v d).held ≡ false = λ d. rw (start_held v d) (none_member u.0) in
      let here = out (start_histories v (start_tasks n p v).moves) in
      let unborn : is_in Unborn (start_tasks n p u) ≡ true =
      start_cases n p (λ x. is_in Unborn x ≡ true) u (λ e. absurd (omega arith)) (λ ne. refl) (λ ne. refl) in
      let done = state_is Unborn Done (start_tasks n p u) unborn in
      record {
        living = rw (none, here, unborn, done) refl;
        later = rw here (omega arith);
        held_for = λ d i. absurd (tests_differ i (out d));
        way = λ o i. absurd (Memᴰ.not-nil i);
        own = λ f. absurd (tests_differ unborn f);
        own_here = λ f. absurd (tests_differ unborn f);
      }

  start_kin : Kin (programs p) (start_tasks n p)
  start_kin q u l h = absurd (tests_differ h (rw (start_childless q) (none_member u.0)))

  -- a task that is not born agrees with the net, and so does the first
  unborn_agrees : (t : TaskId) → t.0 ≢ 1 → (x : Task) → x.state ≡ Unborn → x.pc - 1 ≡ 0 → x.word ≡ zero_word → x.overflow ≡ false
      → Agrees (programs p) start_net [] t x
  unfolding start_net completed_by coming_to word_with
  unborn_agrees t ne x b k w o =
      record {
        born = rw b (ne_eqb 1 t.0 (λ e. ne (sym e)));
        completed = rw (b, k) refl;
        word = rw b (sym w);
        overflow = sym o;
        sync = λ f. absurd (true≢false (sym (rw b at f)));
        waits = λ f. absurd (true≢false (sym (rw b at f)));
        done = λ f. absurd (true≢false (sym (rw b at f)));
      }

  start_agrees : (t : TaskId) → Agrees (programs p) start_net [] t (start_tasks n p t)
  unfolding start_net completed_by coming_to word_with
  start_agrees t =
      start_cases n p (λ x. Agrees (programs p) start_net [] t x) t
      (λ e.
      record {
        born = eq-eqb 1 t.0 (sym e);
        completed = refl;
        word = refl;
        overflow = refl;
        sync = λ f. absurd (true≢false (sym f));
        waits = λ f. absurd (true≢false (sym f));
        done = λ f. absurd (true≢false (sym f));
      })
      (λ ne. unborn_agrees t ne unborn refl refl refl refl)
      (λ ne. unborn_agrees t ne no_task refl refl refl refl)

-- 9 does not refuse the tasks
start_tasks_lem : (n : ℕ) (p : Plan) → 1 ≤ n → n ≤ 6 → plan_answer (programs p) ≡ Ok tt → TasksOk (programs p) (reading (started n p))
start_tasks_lem n p l h a =
    subst (λ (q : Plan). TasksOk (programs q) (reading (started n p))) (started_plan n p)
    (tasks_ok_lem (started n p) (started_shaped n p) (started_ok n p l h a))

-- so all holds of the rig as it is read
start_runs : (n : ℕ) (p : Plan) → 1 ≤ n → n ≤ 6 → TasksOk (programs p) (start_reading n p)
    → Running (programs p) start_histories start_net (start_reading n p) (λ c. [])
unfolding flat start_net
start_runs n p l h ok =
    record {
      few = h;
      tasks = ok;
      views = start_views n p l;
      places = λ t w. start_places n p l t;
      children = λ u w. start_children n p u (within_low 2 (length (programs p)) u.0 w);
      kin = start_kin n p;
      root = refl;
      agrees = start_agrees n p;
      passed = λ c. refl;
    }

pub start_running : (n : ℕ) (p : Plan) → 1 ≤ n → n ≤ 6 → plan_answer (programs p) ≡ Ok tt
    → (h : Histories) × Running (programs p) h start_net (reading (started n p)) (λ c. [])
start_running n p l h a =
    let ok : TasksOk (programs p) (start_reading n p) = rw (read_started n p) at (start_tasks_lem n p l h a) in
    (start_histories, rw (read_started n p) (start_runs n p l h ok))
