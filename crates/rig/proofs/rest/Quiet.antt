-- Rest by case: letters in the mail, a task that can run, and neither.
use mathlib.Core.Path.{◌≡◌, refl, ap}
use mathlib.Core.Bool.{Bool, true, false, not}
use mathlib.Core.List.{List}
use Prim.Native.Nat.{ℕ, suc, ◌+◌, ◌<◌}
use native.Mathlib.Numerals.{add-one}
use borrow.Author.Tests.{ne_eqb}
use Rattle.base.specs.Range.{below}
use Rattle.base.proofs.Tests.{below_more, below_fails}
use Rattle.rules.specs.declared.system.TaskTable.{TaskTable}
use Rattle.rules.specs.Numbers.{task_id}
use Rattle.rules.specs.Answers.{is_accepted}
use Rattle.rig_parts.specs.RunVerdicts.{run_refusal}
use Rattle.rig.specs.rest.Rests.{quiet_in}

module _ (count : ℕ) (codes : List ℕ) (ts : TaskTable) where
  -- a run of task k + 1 is refused
  abbrev pub stuck_after : ℕ → Bool
  stuck_after k = not (is_accepted (run_refusal codes count ts (task_id (suc k))))

  -- by its number
  stuck_is : (k : ℕ) {b : Bool} → is_accepted (run_refusal codes count ts (task_id (k + 1))) ≡ b → stuck_after k ≡ not b
  stuck_is k h = ap not (rw (add-one k) at h)

  -- one task more
  pub stuck_more : (k : ℕ) → below k stuck_after ≡ true → is_accepted (run_refusal codes count ts (task_id (k + 1))) ≡ false → below (k + 1) stuck_after ≡ true
  stuck_more k b h = below_more stuck_after k b (stuck_is k h)

  module _ (used : ℕ) where
    pub quiet_network : (used ≡ 0 → ⊥) → quiet_in count codes ts used ≡ false
    unfolding quiet_in
    quiet_network h = rw (ne_eqb used 0 h) refl

    -- one task that can run
    pub quiet_fails : (k : ℕ) → used ≡ 0 → k < count → is_accepted (run_refusal codes count ts (task_id (k + 1))) ≡ true → quiet_in count codes ts used ≡ false
    unfolding quiet_in
    quiet_fails k e l h = rw e (below_fails stuck_after count k l (stuck_is k h))

    pub quiet_all : used ≡ 0 → below count stuck_after ≡ true → quiet_in count codes ts used ≡ true
    unfolding quiet_in
    quiet_all e h = rw e h
