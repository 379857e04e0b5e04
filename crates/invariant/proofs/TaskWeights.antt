-- What the letters about tasks weigh: what keeps it, and how it changes with one letter.
use mathlib.Core.Path.{◌≡◌, refl}
use mathlib.Core.Logic.{◌≢◌}
use mathlib.Core.Bool.{true}
use mathlib.Core.List.{List, [], ◌∷◌}
use Prim.Native.Nat.{ℕ, suc, ◌+◌, ◌*◌, ◌≤◌}
use native.Mathlib.Omega.{arith}
use lib.ListN.{length}
use Rattle.base.specs.Choice.{within}
use Rattle.base.proofs.Folds.{fold_same}
use Rattle.base.proofs.Tests.{within_both}
use Rattle.plan.specs.declared.TaskId.{TaskId}
use Rattle.plan.specs.Numbers.{task_id}
use Rattle.plan.specs.Programs.{Programs}
use Rattle.plan.specs.Users.{parent_of}
use Rattle.rules.specs.declared.channel.Hint.{Hint}
use Rattle.channel.specs.Bags.{total}
use Rattle.channel.proofs.Forwards.{forwards_most}
use Rattle.transitions.specs.Readings.{Reading}
use Rattle.transitions.specs.Messages.{ended_of, movers_of}
use Rattle.transitions.specs.Views.{Histories}
use Rattle.invariant.specs.Weights.{ended_weight, task_weight, tasks_weight}
use Rattle.invariant.proofs.Work.{tasks_change}

-- an ended letter weighs at most 1 and one for each desk
pub ended_most : (history : ℕ → ℕ) (moves n : ℕ) (xs : List Hint) → total (ended_weight history moves n) xs ≤ suc n * length xs
unfolding total
ended_most history moves n [] = omega arith
ended_most history moves n (x ∷ xs) = omega (arith, forwards_most history moves n x.moves, ended_most history moves n xs)

module _ (m : Programs) (h h' : Histories) (x y : Reading) where
  -- the letters about task u, whose parent has not moved; where they are the same
  pub weight_is : (u : TaskId) (es : List Hint) (ls : List ℕ) → h' (parent_of m u) ≡ h (parent_of m u)
      → (y.tasks (parent_of m u)).moves ≡ (x.tasks (parent_of m u)).moves → y.processors ≡ x.processors
      → ended_of u y.messages ≡ es → movers_of u y.messages ≡ ls
      → task_weight m h' y u ≡ total (ended_weight (h (parent_of m u)) (x.tasks (parent_of m u)).moves x.processors) es + length ls
  weight_is u es ls a b n e l = rw (a, b, n, e, l) refl

  pub weight_same : (u : TaskId) → h' (parent_of m u) ≡ h (parent_of m u) → (y.tasks (parent_of m u)).moves ≡ (x.tasks (parent_of m u)).moves
      → y.processors ≡ x.processors → ended_of u y.messages ≡ ended_of u x.messages → movers_of u y.messages ≡ movers_of u x.messages
      → task_weight m h' y u ≡ task_weight m h x u
  weight_same u a b n e l = weight_is u (ended_of u x.messages) (movers_of u x.messages) a b n e l

  -- .. or no ended letter
  pub weight_none : (u : TaskId) → ended_of u x.messages ≡ [] → y.messages ≡ x.messages → task_weight m h' y u ≡ task_weight m h x u
  unfolding total
  weight_none u none e = rw (e, none) refl

  -- of all tasks, and of all but one
  pub weights_same : ((u : TaskId) → within 1 (length m) u.0 ≡ true → task_weight m h' y u ≡ task_weight m h x u) → tasks_weight m h' y ≡ tasks_weight m h x
  weights_same same =
      fold_same ◌+◌ 0 (length m) (λ k. task_weight m h' y (task_id (suc k))) (λ k. task_weight m h x (task_id (suc k)))
      (λ k l. same (task_id (suc k)) (within_both 1 (length m) (suc k) (omega arith) (omega arith)))

  pub weights_change : (t : TaskId) → within 1 (length m) t.0 ≡ true
      → ((u : TaskId) → within 1 (length m) u.0 ≡ true → u.0 ≢ t.0 → task_weight m h' y u ≡ task_weight m h x u)
      → tasks_weight m h' y + task_weight m h x t ≡ tasks_weight m h x + task_weight m h' y t
  weights_change t is same = tasks_change (length m) (task_weight m h' y) (task_weight m h x) t is same
