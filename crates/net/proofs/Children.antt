-- The children of a task, in a consistent state of an accepted plan: a task that is about to create one is not late, and a sync or finish waits
-- for exactly the born tasks whose parent it is.
use mathlib.Core.Path.{◌≡◌, refl, sym, ap, ◌∙◌}
use mathlib.Core.Bool.{true, false, not}
use Prim.Native.Nat.{ℕ, ◌-◌, ◌<◌, ◌≤◌}
use native.Mathlib.Omega.{arith}
use lib.ListN.{length, take, length-take}
use lib.Seq.{get_or-take}
use borrow.Author.Tests.{eqb-true, eq-eqb, not-false}
use Rattle.std.specs.Prelude.{Ok}
use Rattle.base.specs.Choice.{within}
use Rattle.base.specs.Lists.{any}
use Rattle.base.proofs.Tests.{and_left, and_right, and_both, or_neither, tests_differ, is_false, is_true, every_at, every_fails}
use Rattle.base.proofs.Fronts.{any_front_at, any_front_here}
use Rattle.plan.specs.declared.TaskId.{TaskId}
use Rattle.plan.specs.declared.Instruction.{Instruction}
use Rattle.plan.specs.Numbers.{task_id}
use Rattle.plan.specs.Kinds.{op_create, is_use, no_instruction}
use Rattle.plan.specs.Programs.{Programs, program_at, instruction_at}
use Rattle.plan.specs.Users.{parent_of}
use Rattle.plan.specs.Refusals.{plan_answer}
use Rattle.plan_laws.proofs.Parents.{created_by, created_once, no_parent}
use Rattle.net.specs.States.{Net}
use Rattle.net.specs.Labels.{is_create}
use Rattle.net.specs.Guards.{program_for, is_complete, is_active, next_of, child_complete, children_complete}
use Rattle.net.specs.Consistent.{is_created, Consistent}
use Rattle.net.proofs.Remaining.{active_short, active_task}
use Rattle.net.proofs.NextInstruction.{program_some, next_creates}

-- a task whose parent is t is one of 2 .. T
pub child_within : (m : Programs) → plan_answer m ≡ Ok tt → (t u : TaskId) → 1 ≤ t.0 → parent_of m u ≡ t → within 2 (length m) u.0 ≡ true
child_within m a t u low e =
    is_true (within 2 (length m) u.0)
    (λ w. let z : task_id 0 ≡ t = sym (no_parent m a u.0 w) ∙ e in omega (arith, ap (λ (x : TaskId). x.0) z))

module _ (m : Programs) (a : plan_answer m ≡ Ok tt) (s : Net) (c : Consistent m s) where
  -- whom a task is about to create is not born yet
  pub next_unborn : (t u : TaskId) → is_active m s t ≡ true → is_use op_create u.0 (next_of m s t) ≡ true → s.born u ≡ false
  unfolding is_created next_of
  next_unborn t u active e =
      let (w, parent) = next_creates m a s t active u e in
      let (low, high) = active_task m s t active in
      let g = program_at m (t.0 - 1) in
      let here : is_use op_create u.0 (instruction_at g (s.completed t)) ≡ true = rw (program_some m t low) at e in
      let short : s.completed t < length g = rw (← program_some m t low) (active_short m s t active) in
      is_false (s.born u)
      (λ b.
      let there : any (is_use op_create u.0) (take (s.completed t) g) ≡ true = rw (parent, program_some m t low) at (sym (c.child u w) ∙ b) in
      let (i, k, l, q) = any_front_at (is_use op_create u.0) no_instruction g (s.completed t) there in
      let same = created_once m a u.0 (t.0 - 1) i (s.completed t) (omega arith) l short q here in
      omega arith)

  module _ (t : TaskId) (low : 1 ≤ t.0) (high : t.0 ≤ length m) where
    -- the children of a task whose children are complete
    pub children_complete_lem : children_complete m s t ≡ true → (u : TaskId) → parent_of m u ≡ t → s.born u ≡ true → is_complete m s u ≡ true
    unfolding children_complete is_created
    children_complete_lem h u e b =
        let g = program_for m t in
        let done = s.completed t in
        let there : any (is_use op_create u.0) (take done g) ≡ true = rw e at (sym (c.child u (child_within m a t u low e)) ∙ b) in
        let (i, k, l, q) = any_front_at (is_use op_create u.0) no_instruction g done there in
        let x = instruction_at g i in
        let r = every_at (child_complete m s) (take done g) i no_instruction (omega (arith, length-take done g)) h in
        let y : child_complete m s x ≡ true = rw (get_or-take done g i no_instruction k) at r in
        let create = and_left (is_create x) _ q in
        let operand = eqb-true x.operand u.0 (and_right (is_create x) _ q) in
        rw (create, operand) at y

    -- who waits waits for a child
    pub waits_for : children_complete m s t ≡ false → (u : TaskId) × (parent_of m u ≡ t) × (s.born u ≡ true) × (is_complete m s u ≡ false)
    unfolding children_complete is_created
    waits_for h =
        let g = program_for m t in
        let done = s.completed t in
        let (i, j, r) = every_fails (child_complete m s) (take done g) no_instruction h in
        let n = length-take done g in
        let k : i < done = omega arith in
        let l : i < length g = omega arith in
        let x = instruction_at g i in
        let y : child_complete m s x ≡ false = rw (get_or-take done g i no_instruction k) at r in
        let (create, incomplete) = or_neither (not (is_create x)) (is_complete m s (task_id x.operand)) y in
        let u = task_id x.operand in
        let uses : is_use op_create u.0 x ≡ true = and_both (is_create x) _ (not-false (is_create x) create) (eq-eqb x.operand u.0 refl) in
        let parent : parent_of m u ≡ t = born_by x i u.0 l refl uses in
        (u, parent, c.child u (child_within m a t u low parent) ∙ rw parent (any_front_here (is_use op_create u.0) no_instruction g done i k l uses), incomplete)
      where
        born_by : (x : Instruction) (i u : ℕ) → i < length (program_for m t) → x ≡ instruction_at (program_for m t) i → is_use op_create u x ≡ true → parent_of m (task_id u) ≡ t
        born_by x i u l e uses =
            created_by m a u (t.0 - 1) i (omega arith) (rw (program_some m t low) at l) (rw (e, program_some m t low) at uses) ∙ ap task_id (omega arith)

    pub complete_children : ((u : TaskId) → parent_of m u ≡ t → s.born u ≡ true → is_complete m s u ≡ true) → children_complete m s t ≡ true
    complete_children h =
        is_true (children_complete m s t) (λ e. let (u, parent, born, incomplete) = waits_for e in tests_differ (h u parent born) incomplete)
