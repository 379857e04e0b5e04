use mathlib.Core.Path.{◌≡◌, sym, ◌∙◌}
use mathlib.Core.Bool.{true, false}
use borrow.Author.Rules.{rules}
use native.Mathlib.Omega.{arith}
use Rattle.base.proofs.Tests.{below_none, below_more, below_fails}
use Rattle.rig_check.proofs.system.EachTask.{pointer_ok, origins_places, few_tasks}
use Rattle.rig_check.proofs.system.origins_ok.Goals as goal

pub loop-k-init : goal.loop-k-init
loop-k-init c = below_none _

pub offset_bounds-ts-k : goal.offset_bounds-ts-k
offset_bounds-ts-k c = omega (arith, few_tasks c.args.r c.requires)

pub bounds-ts-k : goal.bounds-ts-k
bounds-ts-k c = omega (arith, few_tasks c.args.r c.requires)

pub returns-then-not-origin_ok : goal.returns-then-not-origin_ok
returns-then-not-origin_ok c =
    let r = c.args.r in
    let fails : c.origin_ok.result ≡ false = search rules in
    sym (origins_places r ∙ below_fails (pointer_ok r.processors r.tasks) r.plan.tasks c.loop-k.k c.loop-k-test.true (sym c.origin_ok.ensures ∙ fails))

pub loop-k-preserved : goal.loop-k-preserved
loop-k-preserved c =
    let holds : c.origin_ok.result ≡ true = search rules in
    below_more _ c.loop-k.k c.loop-k.invariant (sym c.origin_ok.ensures ∙ holds)

pub returns : goal.returns
returns c =
    let r = c.args.r in
    let e : c.loop-k.k ≡ r.plan.tasks = omega arith in
    sym (origins_places r ∙ (rw e at c.loop-k.invariant))
