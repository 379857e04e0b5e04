use mathlib.Core.List.{[], List}
use Prim.Native.Nat.{◌+◌, ◌-◌, ℕ, ◌≤◌}
use native.Mathlib.Omega.{arith}
use Rattle.plan.specs.declared.Plan.{Plan}
use Rattle.rules.specs.declared.step.Step.{Step}
use Rattle.board.specs.Lent.{Lent}
use Rattle.steps.proofs.instruction.Refusals.{placed}
use Rattle.finish.specs.Settles.{After}
use Rattle.finish.proofs.Going.{parts, rig_on, at_rest, one_further, few_runs}
use Rattle.finish.proofs.settle.settle.Goals as goal

-- a list has few runs
runs : {codes numbers users : List ℕ} {count : ℕ} {l : Lent} {p : Plan} {list : List Step} {work : ℕ} → After codes numbers users count l p list work → work ≤ 4096
runs a = few_runs (record { list = _; after = a })

pub runnable-t-requires : goal.runnable-t-requires
runnable-t-requires c = (placed (parts c.requires.start), omega arith)

pub loop-t-init : goal.loop-t-init
loop-t-init c = (λ p a. record { list = []; after = a }, c.runnable-t.ensures)

pub run-requires : goal.run-requires
run-requires c = rig_on (c.loop-t.invariant.0 c.requires.plan c.requires.start).after

pub overflow_add-work : goal.overflow_add-work
overflow_add-work c = omega (arith, few_runs (c.loop-t.invariant.0 c.requires.plan c.requires.start))

pub overflow_sub-t : goal.overflow_sub-t
overflow_sub-t c = omega (arith, c.loop-t-test.true)

pub runnable-t-requires-in-loop-t : goal.runnable-t-requires-in-loop-t
runnable-t-requires-in-loop-t c =
    let r = c.run.ensures in
    let (low, high, can) = c.loop-t.invariant.1.some c.loop-t-test.true in
    let b = c.requires in
    let g = c.loop-t.invariant.0 b.plan b.start in
    let n = one_further g.after c.loop-t.t can r in
    (placed (parts n), omega arith)

pub loop-t-smaller : goal.loop-t-smaller
loop-t-smaller c =
    let r = c.run.ensures in
    let (low, high, can) = c.loop-t.invariant.1.some c.loop-t-test.true in
    let b = c.requires in
    let g = c.loop-t.invariant.0 b.plan b.start in
    let n = one_further g.after c.loop-t.t can r in
    omega (arith, runs n)

pub loop-t-preserved : goal.loop-t-preserved
loop-t-preserved c = (
  λ p a.
      let (low, high, can) = c.loop-t.invariant.1.some c.loop-t-test.true in
      let g = c.loop-t.invariant.0 p a in
      record { list = _; after = one_further g.after c.loop-t.t can c.run.ensures },
  c.runnable-t-in-loop-t.ensures,
)

pub returns : goal.returns
returns c p a =
    let g = c.loop-t.invariant.0 p a in
    record { gone = g; rests = at_rest g.after (c.loop-t.invariant.1.none (omega arith)) }
