-- `rests`: an empty mail, and no task that can run. The loop's invariant: a run of each of the first k tasks is refused.
use mathlib.Core.Path.{◌≡◌}
use mathlib.Core.Bool.{Bool, true, not}
use Prim.Native.Nat.{ℕ, suc, ◌+◌}
use Rattle.base.specs.Range.{below}
use Rattle.rules.specs.declared.system.System.{System}
use Rattle.rules.specs.Answers.{is_accepted}
use Rattle.rules.specs.Steps.{step_answer, run_step}
use Rattle.dispatch.proofs.rest.rests.Given as goal

-- task k + 1 cannot run
abbrev pub stuck : System → ℕ → Bool
stuck r k = not (is_accepted (step_answer r (run_step (suc k))))

abbrev pub invariant-loop-k : goal.invariant-loop-k
invariant-loop-k l = below l.k (stuck l.r) ≡ true
