use Rattle.rules.specs.declared.task.Task.{Task}
use mathlib.Core.List.{List}
use mathlib.Core.Path.{◌≡◌, sym, ap, ◌∙◌}
use mathlib.Core.Bool.{true, false, not, Bool}
use Prim.Native.Nat.{ℕ, ◌+◌, ◌-◌}
use native.Mathlib.Numerals.{add-one}
use native.Mathlib.Omega.{arith}
use borrow.Author.Rules.{rules}
use Rattle.base.specs.Range.{below}
use Rattle.base.proofs.Tests.{below_none, below_more, below_fails}
use Rattle.rules.specs.Numbers.{task_id}
use Rattle.rules.specs.Systems.{task_in}
use Rattle.rules.specs.Finish.{is_stuck}
use Rattle.board.specs.Lent.{tasks_on}
use Rattle.finish.specs.Answers.{finishes_in}
use Rattle.finish.proofs.stuck.finishes.Invariants.{clear}
use Rattle.finish.proofs.stuck.finishes.Goals as goal

-- whether task k + 1 is stuck
asked : (board : List ℕ) (k : ℕ) {x : Task} {r : Bool} → x ≡ task_in (tasks_on board) (task_id (k + 1)) → r ≡ is_stuck x → clear board k ≡ not r
asked board k e h = ap not (sym (h ∙ ap is_stuck (e ∙ ap (λ (t : ℕ). task_in (tasks_on board) (task_id t)) (add-one k))))

pub loop-k-init : goal.loop-k-init
loop-k-init c = below_none _

pub task_at-x-requires : goal.task_at-x-requires
task_at-x-requires c = omega arith

pub returns-then-is_stuck : goal.returns-then-is_stuck
unfolding finishes_in
returns-then-is_stuck c =
    let k = c.loop-k.k in
    sym (below_fails (clear c.args.board.now) _ k (omega arith) (asked c.args.board.now k c.task_at-x.ensures c.is_stuck.ensures ∙ ap not c.if-is_stuck.true))

pub loop-k-preserved : goal.loop-k-preserved
loop-k-preserved c =
    let k = c.loop-k.k in
    below_more (clear c.args.board.now) k c.loop-k.invariant (asked c.args.board.now k c.task_at-x.ensures c.is_stuck.ensures ∙ ap not c.if-is_stuck.false)

pub returns : goal.returns
unfolding finishes_in
returns c =
    let e : c.loop-k.k ≡ c.args.count = omega arith in
    sym (rw e at c.loop-k.invariant)
