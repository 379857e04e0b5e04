-- An accepted run of a sync, a set or an add is a task's own act.
use mathlib.Core.Path.{◌≡◌, refl, ap}
use mathlib.Core.Bool.{Bool, true, false, ◌||◌, or-false}
use Prim.Native.Nat.{ℕ}
use lib.Dec.{eqb}
use borrow.Author.Tests.{eqb-true}
use Rattle.std.specs.Prelude.{None, Ok}
use Rattle.base.specs.Choice.{pick}
use Rattle.base.proofs.Choices.{pick_cases}
use Rattle.base.proofs.Tests.{and_right, is_true, or_neither, tests_differ}
use Rattle.plan.specs.declared.TaskId.{TaskId}
use Rattle.plan.specs.declared.Instruction.{Instruction}
use Rattle.plan.specs.declared.Word.{Word}
use Rattle.plan.specs.Kinds.{op_sync, op_send, op_receive, op_set, op_add, is_finish}
use Rattle.plan.specs.Programs.{Programs}
use Rattle.plan.specs.Refusals.{level_ok, operand_ok, instruction_ok}
use Rattle.plan.specs.Words.{set_word, add_word}
use Rattle.rules.specs.declared.task.Task.{Task}
use Rattle.rules.specs.declared.task.TaskState.TheVariants.{Waiting}
use Rattle.rules.specs.declared.system.System.{System}
use Rattle.rules.specs.Tasks.{with_state, with_word, with_overflow, advanced, is_childless}
use Rattle.rules.specs.Systems.{task_at, with_task, meaning}
use Rattle.rules.specs.Effects.{completed, changed}
use Rattle.rules.specs.Local.{sync_rule, set_rule, add_rule}
use Rattle.rules.specs.Runs.{executed, next_of, ran, run_answer}
use Rattle.rules.specs.Sound.{system_ok}
use Rattle.rules_laws.specs.Shapes.{Shaped}
use Rattle.net.specs.States.{at_task}
use Rattle.net.specs.Labels.{is_create, is_join, is_transfer}
use Rattle.net.specs.Effects.{word_after, overflow_after}
use Rattle.transitions.specs.Readings.{Reading, reading, with_task_read}
use Rattle.transitions.specs.Progress.{program_of}
use Rattle.transitions.specs.Views.{Histories}
use Rattle.transitions.specs.Transitions.{Runs, went_on, Own, goes_on, waits, OwnTransition}
use Rattle.transitions.proofs.Unseen.{SeenAlike, alike_on, alike_waits, alike_at, unseen_of}
use Rattle.transitions.proofs.Frames.{read_task}
use Rattle.transitions.proofs.Runs.{completed_changed, run_is_task, run_instruction, runs_of}

-- one of three, and what a function makes of them
three : {A : Type 0} {B : Type 0} (f : A → B) (b c : Bool) (x y z : A) → pick b (f x) (pick c (f y) (f z)) ≡ f (pick b x (pick c y z))
three f true c x y z = refl
three f false true x y z = refl
three f false false x y z = refl

-- what a sync, a set or an add makes of the task's record
abbrev own_rule : Instruction → Task → Task
own_rule i x = pick (eqb i.opcode op_sync) (sync_rule x) (pick (eqb i.opcode op_set) (set_rule x i) (add_rule x i))

-- an instruction of no other kind
module _ (i : Instruction) (no_create : is_create i ≡ false) (no_finish : is_finish i ≡ false) (no-transfer : is_transfer i ≡ false) where
  kinds : (eqb i.opcode op_send ≡ false) × (eqb i.opcode op_receive ≡ false)
  kinds = or_neither (eqb i.opcode op_send) (eqb i.opcode op_receive) no-transfer

  -- the effect is that of its rule alone
  own_effect : (r : System) (t : TaskId) → executed r t i ≡ changed (with_task r t (own_rule i (task_at r t)))
  unfolding executed
  own_effect r t =
      let (no-send, no-receive) = kinds in
      let x = task_at r t in
      rw (no_create, no_finish, no-send, no-receive)
      (three (λ y. changed (with_task r t y)) (eqb i.opcode op_sync) (eqb i.opcode op_set) (sync_rule x) (set_rule x i) (add_rule x i))

  module _ (n : ℕ) (fine : instruction_ok n i ≡ true) (x : Task) where
    goes : (w : Word) (b : Bool) → word_after i x.word ≡ w → overflow_after i x.word x.overflow ≡ b → (is_join i ≡ true → is_childless x ≡ true)
        → Own i x (advanced (with_overflow (with_word x w) b))
    goes w b e f j = let o : Own i x (went_on i x) = goes_on no-transfer j in rw (e, f) at o

    adds : eqb i.opcode op_sync ≡ false → eqb i.opcode op_set ≡ false → eqb i.opcode op_add ≡ true
    unfolding operand_ok
    adds s p =
        let (no-send, no-receive) = kinds in
        is_true (eqb i.opcode op_add) (λ e. tests_differ (rw (no_create, s, no_finish, no-send, no-receive, p, e) at (and_right (level_ok i) _ fine)) refl)

    -- which does what is asked of an own act
    own_rule_lem : Own i x (own_rule i x)
    unfolding sync_rule word_after overflow_after
    own_rule_lem =
        pick_cases (Own i x) (eqb i.opcode op_sync) _ _
        (λ s.
        let k = eqb-true i.opcode op_sync s in
        pick_cases (Own i x) (is_childless x) (advanced x) (advanced (with_state x Waiting))
        (λ e. goes x.word x.overflow (rw k refl) (rw k (or-false x.overflow)) (λ j. e))
        (λ e. waits k e))
        (λ s.
        let join : is_join i ≡ true → is_childless x ≡ true = λ j. absurd (tests_differ j (rw (s, no_finish) refl)) in
        pick_cases (Own i x) (eqb i.opcode op_set) _ _
        (λ p. goes (set_word x.word i) x.overflow (rw p refl) (rw (eqb-true i.opcode op_set p) (or-false x.overflow)) join)
        (λ p. let sum = add_word x.word i in goes sum.word (x.overflow || sum.overflow) (rw (p, adds s p) refl) (rw (adds s p) refl) join))

-- what becomes of a ready task by its own instruction is seen by no channel
own_alike : (m : Programs) (x : Reading) (t : TaskId) (i : Instruction) → Runs m x t i → (y : Task) → Own i (x.tasks t) y
    → SeenAlike (program_of m t) (x.tasks t) y
own_alike m x t i run y (goes_on n j) =
    alike_on (program_of m t) (x.tasks t) run.ready run.low (rw run.next n) (word_after i (x.tasks t).word)
    (overflow_after i (x.tasks t).word (x.tasks t).overflow)
own_alike m x t i run y (waits k c) = alike_waits (program_of m t) (x.tasks t) run.ready run.low

module _ (r : System) (shaped : Shaped r) (ok : system_ok r ≡ true) (h : Histories) (t : TaskId) (a : run_answer r t ≡ Ok tt)
    (no_create : is_create (next_of r t) ≡ false) (no_finish : is_finish (next_of r t) ≡ false) (no-transfer : is_transfer (next_of r t) ≡ false) where
  abbrev then : Task
  then = own_rule (next_of r t) (task_at r t)

  effect : ran r t ≡ changed (with_task r t then)
  unfolding ran
  effect = own_effect (next_of r t) no_create no_finish no-transfer r t

  pub own_received : (ran r t).received ≡ None
  own_received = rw effect refl

  read : reading (completed (ran r t)) ≡ with_task_read (reading r) t then
  read = rw (effect, completed_changed (with_task r t then)) (read_task r shaped t then (run_is_task r shaped ok t a))

  own : Own (next_of r t) (task_at r t) then
  own = own_rule_lem (next_of r t) no_create no_finish no-transfer r.plan.tasks (run_instruction r shaped ok t a) (task_at r t)

  -- what becomes of the task that runs; no other changes
  pub own_changes : (z : Task) × Own (next_of r t) (task_at r t) z × ((reading (completed (ran r t))).tasks ≡ at_task (reading r).tasks t z)
  own_changes = (then, own, ap (λ (y : Reading). y.tasks) read)

  pub own_transition : OwnTransition (meaning r) h (reading r) (reading (completed (ran r t)))
  unfolding reading
  own_transition =
      let runs = runs_of r shaped ok t a in
      let alike = alike_at (meaning r) (reading r).tasks t then (own_alike (meaning r) (reading r) t (next_of r t) runs then own) in
      rw read
      (record {
        task = t;
        instruction = next_of r t;
        runs = runs;
        not_create = no_create;
        not_finish = no_finish;
        then = then;
        own = own;
        tasks = refl;
        parents = refl;
        messages = refl;
        unseen = unseen_of (meaning r) h (reading r) (with_task_read (reading r) t then) refl refl refl (λ c. refl) alike;
      })
