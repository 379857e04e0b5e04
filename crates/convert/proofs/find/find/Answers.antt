use mathlib.Core.Path.{◌≡◌, refl, ◌∙◌}
use Prim.Native.Nat.{◌≤◌, ◌<◌}
use native.Mathlib.Omega.{arith}
use lib.ListN.{length, get_or}
use Rattle.plan.specs.Programs.{program_at}
use Rattle.plan_value.proofs.Sized.{few_tasks, count_few}
use Rattle.plan_file.specs.Code.{programs_in}
use Rattle.plan_file.proofs.Instructions.{code_tasks, place_first, place_row, place_below}
use Rattle.convert.specs.Tasks.{task_in}
use Rattle.convert.proofs.Slots.{task_is}
use Rattle.convert.proofs.Finding.{found_none, found_more, found_all}
use Rattle.convert.proofs.find.find.Goals as goal

pub loop-k-init : goal.loop-k-init
loop-k-init c =
    let a = c.args in
    (refl, few_tasks a.tasks a.lengths.now c.requires.sizes, place_first a.lengths.now, found_none (programs_in a.file.now a.tasks a.lengths.now))

pub find_task-m-requires : goal.find_task-m-requires
find_task-m-requires c =
    let a = c.args in
    let task : c.loop-k.k < a.tasks = omega arith in
    (count_few a.tasks a.lengths.now c.requires.sizes c.loop-k.k task, omega (arith, c.loop-k.invariant.2, c.requires.bytes, place_below a.lengths.now a.tasks c.loop-k.k task))

pub overflow_mul-at : goal.overflow_mul-at
overflow_mul-at c =
    let a = c.args in
    let task : c.loop-k.k < a.tasks = omega arith in
    omega (arith, count_few a.tasks a.lengths.now c.requires.sizes c.loop-k.k task)

pub overflow_add-at : goal.overflow_add-at
overflow_add-at c =
    let a = c.args in
    let task : c.loop-k.k < a.tasks = omega arith in
    omega (arith, c.loop-k.invariant.2, c.requires.bytes, place_below a.lengths.now a.tasks c.loop-k.k task)

pub loop-k-preserved : goal.loop-k-preserved
loop-k-preserved c =
    let a = c.args in
    let k = c.loop-k.k in
    let inv = c.loop-k.invariant in
    let m = programs_in a.file.now a.tasks a.lengths.now in
    let is : task_in a.file.now c.loop-k.at (get_or a.lengths.now k 0) ≡ program_at m k = task_is a.file.now a.tasks a.lengths.now k (omega arith) inv.2 refl in
    (refl, inv.1, omega (arith, inv.2, place_row a.lengths.now k), found_more m k inv.3 (rw is at c.find_task-m.ensures) refl refl refl)

pub returns : goal.returns
returns c =
    let a = c.args in
    let m = programs_in a.file.now a.tasks a.lengths.now in
    let e : c.loop-k.k ≡ length m = omega (arith, code_tasks a.file.now a.tasks a.lengths.now) in
    found_all m (rw e at c.loop-k.invariant.3)
