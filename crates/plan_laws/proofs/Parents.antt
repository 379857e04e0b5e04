-- The parent of a task in an accepted plan: a task of a lower number, by one instruction.
use mathlib.Core.Path.{◌≡◌, refl, ap}
use mathlib.Core.Bool.{true, false, ◌||◌}
use mathlib.Core.List.{List, [], ◌∷◌}
use Prim.Native.Nat.{ℕ, suc, ◌-◌, ◌≤◌, ◌<◌}
use native.Mathlib.Omega.{arith}
use lib.ListN.{length}
use lib.Dec.{leb}
use borrow.Author.Tests.{leb-true, ltb-true}
use Rattle.std.specs.Prelude.{Ok}
use Rattle.base.specs.Choice.{within}
use Rattle.base.specs.Lists.{every}
use Rattle.base.proofs.Tests.{and_left, or_cases, within_low, within_high, within_both, up_to_at}
use Rattle.plan.specs.Numbers.{task_id}
use Rattle.plan.specs.Kinds.{op_create, is_use}
use Rattle.plan.specs.Programs.{Programs, program_at, instruction_at}
use Rattle.plan.specs.Users.{users, first_of, only_lower, parent_of}
use Rattle.plan.specs.Refusals.{create_ok, creates_ok, plan_answer}
use Rattle.plan_laws.proofs.Programs.{create_operand, users_within}
use Rattle.plan_laws.proofs.Users.{user_has, one_use, used_within, no_user, used_by, structure_passed}

-- exactly one, lower than u: the first
lower_only : (u : ℕ) (l : List ℕ) → only_lower u l ≡ true → (l ≡ first_of l ∷ []) × (first_of l < u)
lower_only u [] h = let z : ◌≡◌ {A = ℕ} 0 1 = cc in absurd (omega arith)
lower_only u (t ∷ []) h = (refl, ltb-true t u h)
lower_only u (t ∷ s ∷ l) h = let z : ◌≡◌ {A = ℕ} 0 1 = cc in absurd (omega arith)

module _ (m : Programs) (a : plan_answer m ≡ Ok tt) where
  -- task u is created once, by a task of a lower number
  created : (u : ℕ) → within 2 (length m) u ≡ true
      → (users m op_create u ≡ first_of (users m op_create u) ∷ []) × (first_of (users m op_create u) < u)
  unfolding creates_ok
  created u w =
      let l = within_low 2 (length m) u w in
      or_cases (leb u 1) (create_ok m u)
      (up_to_at (λ u. leb u 1 || create_ok m u) (length m) u (omega arith) (within_high 2 (length m) u w) (structure_passed m a).0)
      (λ e. absurd (omega (arith, leb-true u 1 e)))
      (lower_only u (users m op_create u))

  -- the instruction i + 1 of task k + 1 creates task u: its parent is that task
  pub created_by : (u k i : ℕ) → k < length m → i < length (program_at m k) → is_use op_create u (instruction_at (program_at m k) i) ≡ true
      → parent_of m (task_id u) ≡ task_id (suc k)
  unfolding every
  created_by u k i l q e = ap task_id (used_by m a op_create 2 (length m) (create_operand (length m)) (λ u w. rw (created u w).0 refl) u k i l q e)

  -- a task is created by one instruction only
  pub created_once : (u k i j : ℕ) → k < length m → i < length (program_at m k) → j < length (program_at m k)
      → is_use op_create u (instruction_at (program_at m k) i) ≡ true → is_use op_create u (instruction_at (program_at m k) j) ≡ true → i ≡ j
  created_once u k i j l p q e r =
      let (one, lower) = created u (used_within m a op_create 2 (length m) (create_operand (length m)) u k i l p e) in
      one_use m op_create u (rw one (omega arith)) k l i j p q e r

  -- each task 2 .. T has a parent of a lower number, which has the instruction that creates it
  pub has_parent_lem : (u : ℕ) → 2 ≤ u → u ≤ length m → (1 ≤ (parent_of m (task_id u)).0) × ((parent_of m (task_id u)).0 < u)
  unfolding every
  has_parent_lem u l h =
      let (one, lower) = created u (within_both 2 (length m) u l h) in
      let t = first_of (users m op_create u) in
      let all : every (within 1 (length m)) (t ∷ []) ≡ true = rw one at (users_within m op_create u) in
      (within_low 1 (length m) t (and_left (within 1 (length m) t) true all), lower)

  pub creating : (u : ℕ) → 2 ≤ u → u ≤ length m
      → (i : ℕ) × (i < length (program_at m ((parent_of m (task_id u)).0 - 1)))
      × (is_use op_create u (instruction_at (program_at m ((parent_of m (task_id u)).0 - 1)) i) ≡ true)
  creating u l h = user_has m op_create u (has_parent_lem u l h).0

  -- neither task 1 nor another number outside 2 .. T has a parent
  pub no_parent : (u : ℕ) → within 2 (length m) u ≡ false → parent_of m (task_id u) ≡ task_id 0
  no_parent u e = ap task_id (no_user m a op_create 2 (length m) (create_operand (length m)) u e)
