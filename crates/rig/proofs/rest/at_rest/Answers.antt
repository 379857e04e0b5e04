use mathlib.Core.Path.{◌≡◌, sym, ap, ◌∙◌}
use mathlib.Core.Bool.{Bool, true}
use mathlib.Core.List.{List}
use Prim.Native.Nat.{ℕ, ◌+◌}
use native.Mathlib.Omega.{arith}
use borrow.Author.Rules.{rules}
use Rattle.base.specs.Range.{below}
use Rattle.base.proofs.Tests.{below_none}
use Rattle.rules.specs.Answers.{StepAnswer, is_accepted}
use Rattle.rules.specs.declared.system.TaskTable.{TaskTable}
use Rattle.rules.specs.Numbers.{task_id}
use Rattle.rig_parts.specs.RunVerdicts.{run_refusal}
use Rattle.board.specs.Lent.{tasks_on}
use Rattle.rig.proofs.rest.Quiet.{quiet_network, quiet_all, quiet_fails, stuck_more}
use Rattle.rig.proofs.rest.at_rest.Goals as goal

pub returns-then-used-ne0 : goal.returns-then-used-ne0
returns-then-used-ne0 c = sym (quiet_network _ _ _ _ c.if-used-ne0.true)

pub loop-k-init : goal.loop-k-init
loop-k-init c = below_none _

-- the answer to a run of task k + 1
asked : {q : StepAnswer} {b : Bool} (codes : List ℕ) (count : ℕ) (ts : TaskTable) (k : ℕ) → q ≡ run_refusal codes count ts (task_id (k + 1)) → b ≡ is_accepted q
    → is_accepted (run_refusal codes count ts (task_id (k + 1))) ≡ b
asked codes count ts k e h = sym (h ∙ ap is_accepted e)

pub returns-then-is_accepted : goal.returns-then-is_accepted
returns-then-is_accepted c =
    sym (quiet_fails _ _ _ _ c.loop-k.k c.if-used-ne0.false (omega arith) (asked c.args.codes.now c.args.count (tasks_on c.args.board.now) c.loop-k.k c.run_refusal.ensures c.is_accepted.ensures ∙ c.if-is_accepted.true))

pub loop-k-preserved : goal.loop-k-preserved
loop-k-preserved c = stuck_more _ _ _ c.loop-k.k c.loop-k.invariant (asked c.args.codes.now c.args.count (tasks_on c.args.board.now) c.loop-k.k c.run_refusal.ensures c.is_accepted.ensures ∙ c.if-is_accepted.false)

pub returns : goal.returns
returns c =
    let e : c.loop-k.k ≡ c.args.count = omega arith in
    sym (quiet_all _ _ _ _ c.if-used-ne0.false (rw e at c.loop-k.invariant))
