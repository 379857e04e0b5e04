use mathlib.Core.Path.{◌≡◌}
use Prim.Native.Nat.{◌+◌, ◌*◌, ◌≤◌}
use native.Mathlib.Omega.{arith}
use Rattle.convert.specs.Tasks.{task_in}
use Rattle.convert.proofs.Finding.{marks_start, marks_more, marks_bound, marks_end}
use Rattle.convert.proofs.find.find_task.Goals as goal

pub loop-i-init : goal.loop-i-init
loop-i-init c =
    let a = c.args in
    let e = c.new-m.ensures in
    rw e (omega arith, omega arith, marks_start (task_in a.file.now a.at a.count))

pub next-m-requires : goal.next-m-requires
next-m-requires c = (omega arith, omega arith)

pub loop-i-preserved : goal.loop-i-preserved
loop-i-preserved c =
    let a = c.args in
    let i = c.loop-i.i in
    let e = c.fetch.ensures in
    let operand : c.fetch.result.operand ≤ 65535 =
    rw e (omega (arith, c.type_inv.file (a.at + 4 * i + 2), c.type_inv.file (a.at + 4 * i + 2 + 1))) in
    let (rounds, size) = marks_bound c.loop-i.m c.fetch.result i c.loop-i.invariant.0 operand c.loop-i.invariant.1 in
    rw c.next-m.ensures
    (rounds, size, marks_more a.file.now a.at a.count i c.loop-i.m c.fetch.result (omega arith) c.loop-i.invariant.2 e)

pub returns : goal.returns
returns c =
    let a = c.args in
    let e : c.loop-i.i ≡ a.count = omega arith in
    marks_end a.file.now a.at a.count c.loop-i.m (rw e at c.loop-i.invariant.2)
