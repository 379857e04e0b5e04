-- `check_slots` answers as the paper asks of the plan's meaning: the sizes first, and then what the pass says.
use mathlib.Core.Path.{◌≡◌, refl, sym, ◌∙◌}
use mathlib.Core.Bool.{true}
use borrow.Author.Tests.{not-true, not-false}
use Rattle.plan.specs.declared.Plan.{Plan}
use Rattle.plan.proofs.Parts.{tasks_of_lem}
use Rattle.plan_value.specs.Slots.{plan_in}
use Rattle.plan_value.specs.Sizes.{sizes_in}
use Rattle.plan_value.proofs.Sized.{some_tasks, few_tasks}
use Rattle.plan_value.proofs.Values.{answer_unsized, answer_of}
use Rattle.plan_value.proofs.check_slots.Goals as goal
use Rattle.plan_value.proofs.check_slots.Goals.{Else-not-sizes_ok, Start}

-- the plan
abbrev plan : Start → Plan
plan c = plan_in c.args.tasks c.args.lengths.now c.args.codes.now

-- where the sizes have passed
sized : (c : Else-not-sizes_ok) → let p = plan c.before.before in sizes_in p.tasks p.lengths ≡ true
sized c = sym c.sizes_ok.ensures ∙ not-false c.sizes_ok.result c.if-not-sizes_ok.false-raw

pub returns-then-not-sizes_ok : goal.returns-then-not-sizes_ok
returns-then-not-sizes_ok c =
    let e = sym c.sizes_ok.ensures ∙ not-true c.sizes_ok.result c.if-not-sizes_ok.true-raw in
    sym (answer_unsized (plan c.before.before) e)

pub pass_slots-p-requires : goal.pass_slots-p-requires
pass_slots-p-requires c = (sized c.before.before.before, record { parents = refl; senders = refl; receivers = refl })

pub answer-requires : goal.answer-requires
answer-requires c =
    let s = c.before in
    let e = s.before.before.before.before in
    let p = plan e.before.before in
    rw (s.pass_slots-p.ensures.size ∙ tasks_of_lem p) (some_tasks p.tasks p.lengths (sized e), few_tasks p.tasks p.lengths (sized e))

pub returns : goal.returns
returns c =
    let s = c.before.before in
    let e = s.before.before.before.before in
    c.answer.ensures ∙ answer_of (plan e.before.before) s.pass_slots-p.ensures (sized e)
