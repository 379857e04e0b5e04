use mathlib.Core.Path.{◌≡◌, ◌∙◌}
use native.Mathlib.Omega.{arith}
use Rattle.base.proofs.Tables.{length_table}
use Rattle.plan_value.specs.Slots.{plan_in}
use Rattle.plan_index.proofs.ends.Meaning.{tasks_few, sends_fit, unsent, send_numbers_of}
use Rattle.plan_index.proofs.ends.Numbering.{counted_none, counted_more, tasks_none, tasks_more}
use Rattle.plan_index.proofs.ends.numbers.put_numbers.Goals as goal

pub loop-k-init : goal.loop-k-init
loop-k-init c =
    let a = c.args in
    (c.requires.1 ∙ tasks_none a.lengths.now a.codes.now, counted_none a.lengths.now a.codes.now)

pub bounds-lengths-k : goal.bounds-lengths-k
bounds-lengths-k c =
    let a = c.args in
    omega (arith, tasks_few (plan_in a.tasks a.lengths.now a.codes.now) c.requires.0)

pub number_task-requires : goal.number_task-requires
number_task-requires c =
    let a = c.args in
    let p = plan_in a.tasks a.lengths.now a.codes.now in
    let few = tasks_few p c.requires.0 in
    let fits = sends_fit p c.requires.0 c.loop-k.k (omega arith) in (
      omega (arith, few),
      fits.0,
      rw c.loop-k.invariant.0 (length_table 4096 _),
      fits.1,
      rw c.loop-k.invariant.1 (length_table 129 _),
      rw c.loop-k.invariant.1 (unsent p c.requires.0 c.loop-k.k (omega arith)),
    )

pub loop-k-preserved : goal.loop-k-preserved
loop-k-preserved c =
    let a = c.args in (
      rw (c.number_task.ensures.0, c.loop-k.invariant.0) (tasks_more a.lengths.now a.codes.now c.loop-k.k),
      rw (c.number_task.ensures.1, c.loop-k.invariant.1) (counted_more a.lengths.now a.codes.now c.loop-k.k),
    )

pub returns : goal.returns
returns c =
    let a = c.args in
    let e : c.loop-k.k ≡ a.tasks = omega arith in
    (rw (← e) c.loop-k.invariant.0) ∙ send_numbers_of (plan_in a.tasks a.lengths.now a.codes.now) c.requires.0
