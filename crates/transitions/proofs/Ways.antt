-- Along which pointer a finishing child's ended letter goes: it says where the parent was sent, and it names another desk than the child's.
use mathlib.Core.Path.{◌≡◌, sym, ◌∙◌}
use mathlib.Core.Bool.{false}
use mathlib.Core.Logic.{◌≢◌, by_cases}
use mathlib.Core.List.{List}
use Prim.Native.Nat.{ℕ, ◌≤◌, ◌<◌}
use native.Mathlib.Omega.{arith}
use native.Mathlib.Decide.{dec_lt}
use Rattle.plan.specs.declared.TaskId.{TaskId}
use Rattle.rules.specs.declared.task.TaskState.TheVariants.{Unborn}
use Rattle.rules.specs.declared.task.Task.{Task}
use Rattle.rules.specs.declared.channel.Hint.{Hint}
use Rattle.rules.specs.declared.system.ParentEntry.{ParentEntry}
use Rattle.rules.specs.Hints.{newer}
use Rattle.rules.specs.Tasks.{is_in}
use Rattle.channel.specs.Hints.{Way}
use Rattle.channel.proofs.Hints.{newer_cases, pointed}
use Rattle.transitions.specs.Family.{Placed, Child}

module _ {n : ℕ} {history : ℕ → ℕ} {parent child : Task} {u : TaskId} {entries : ℕ → ParentEntry} {movers : List ℕ} {ended : List Hint}
    (p : Placed n history parent entries movers) (k : Child u history parent child entries ended) (born : is_in Unborn child ≡ false) (d : ℕ) where
  -- "along the newer of its own and the desk's pointer"
  pub finish_way : let along = newer (entries d).hint child.origin in Way history parent.moves along.processor.0 along.moves
  finish_way =
      newer_cases (λ q. Way history parent.moves q.processor.0 q.moves) (entries d).hint child.origin
      (λ l. k.own born)
      (λ l. pointed (p.table.right d) (omega (arith, (k.own born).some)))

  -- a child away from its parent is not held at its finish
  pub finish_other : 1 ≤ d → parent.processor.0 ≢ d → (newer (entries d).hint child.origin).processor.0 ≢ d
  finish_other low apart =
      newer_cases (λ q. q.processor.0 ≢ d) (entries d).hint child.origin
      (λ l (e : child.origin.processor.0 ≡ d).
      let w = k.own born in
      by_cases
      (dec_lt child.origin.moves parent.moves)
      (λ lt.
      let there : history child.origin.moves ≡ d = sym w.says ∙ e in
      let q : child.origin.moves < (entries d).hint.moves = rw there at (p.table.past child.origin.moves w.some lt) in
      omega arith)
      (λ ge. let z : child.origin.moves ≡ parent.moves = omega (arith, w.old) in apart (k.own_here born z ∙ e)))
      (λ l e. apart (p.self d low e))
