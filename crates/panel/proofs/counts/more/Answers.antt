-- `more`: the count of the answer goes up by one, case by case.
use mathlib.Core.Path.{refl}
use Prim.Native.Nat.{◌≤◌}
use native.Mathlib.Omega.{arith}
use Rattle.panel.proofs.counts.more.Goals as goal

pub overflow_add-result : goal.overflow_add-result
overflow_add-result c = let e : c.args.q.accepted ≤ 65534 = c.requires.few 0 in omega arith

pub overflow_add-result-in-Err-BadSystem : goal.overflow_add-result-in-Err-BadSystem
overflow_add-result-in-Err-BadSystem c = let e : c.args.q.system ≤ 65534 = c.requires.few 9 in omega arith

pub overflow_add-result-in-Err-NoTask : goal.overflow_add-result-in-Err-NoTask
overflow_add-result-in-Err-NoTask c = let e : c.args.q.task ≤ 65534 = c.requires.few 10 in omega arith

pub overflow_add-result-in-Err-NotReady : goal.overflow_add-result-in-Err-NotReady
overflow_add-result-in-Err-NotReady c = let e : c.args.q.ready ≤ 65534 = c.requires.few 11 in omega arith

pub overflow_add-result-in-Err-FinishWithChildren : goal.overflow_add-result-in-Err-FinishWithChildren
overflow_add-result-in-Err-FinishWithChildren c = let e : c.args.q.finish ≤ 65534 = c.requires.few 12 in omega arith

pub overflow_add-result-in-Err-NetworkFull : goal.overflow_add-result-in-Err-NetworkFull
overflow_add-result-in-Err-NetworkFull c = let e : c.args.q.full ≤ 65534 = c.requires.few 13 in omega arith

pub overflow_add-result-in-Err-NoMessage : goal.overflow_add-result-in-Err-NoMessage
overflow_add-result-in-Err-NoMessage c = let e : c.args.q.message ≤ 65534 = c.requires.few 14 in omega arith

pub overflow_add-result-in-Err-NoProcessor : goal.overflow_add-result-in-Err-NoProcessor
overflow_add-result-in-Err-NoProcessor c = let e : c.args.q.processor ≤ 65534 = c.requires.few 15 in omega arith

pub overflow_add-result-in-Err-AlreadyThere : goal.overflow_add-result-in-Err-AlreadyThere
overflow_add-result-in-Err-AlreadyThere c = let e : c.args.q.there ≤ 65534 = c.requires.few 16 in omega arith

pub overflow_add-result-in-Err-MoveWithChildren : goal.overflow_add-result-in-Err-MoveWithChildren
overflow_add-result-in-Err-MoveWithChildren c = let e : c.args.q.children ≤ 65534 = c.requires.few 17 in omega arith

pub overflow_add-result-in-Err-MovesSpent : goal.overflow_add-result-in-Err-MovesSpent
overflow_add-result-in-Err-MovesSpent c = let e : c.args.q.spent ≤ 65534 = c.requires.few 18 in omega arith

pub overflow_add-result-in-Err-BadStep : goal.overflow_add-result-in-Err-BadStep
overflow_add-result-in-Err-BadStep c = let e : c.args.q.step ≤ 65534 = c.requires.few 19 in omega arith

pub returns-in-Ok : goal.returns-in-Ok
returns-in-Ok c = rw c.in-Ok.is refl

pub returns-in-Err-BadSystem : goal.returns-in-Err-BadSystem
returns-in-Err-BadSystem c = let a = c.in-Err-BadSystem in rw (a.is, rw a.is at a.field-0-is) refl

pub returns-in-Err-NoTask : goal.returns-in-Err-NoTask
returns-in-Err-NoTask c = let a = c.in-Err-NoTask in rw (a.is, rw a.is at a.field-0-is) refl

pub returns-in-Err-NotReady : goal.returns-in-Err-NotReady
returns-in-Err-NotReady c = let a = c.in-Err-NotReady in rw (a.is, rw a.is at a.field-0-is) refl

pub returns-in-Err-FinishWithChildren : goal.returns-in-Err-FinishWithChildren
returns-in-Err-FinishWithChildren c = let a = c.in-Err-FinishWithChildren in rw (a.is, rw a.is at a.field-0-is) refl

pub returns-in-Err-NetworkFull : goal.returns-in-Err-NetworkFull
returns-in-Err-NetworkFull c = let a = c.in-Err-NetworkFull in rw (a.is, rw a.is at a.field-0-is) refl

pub returns-in-Err-NoMessage : goal.returns-in-Err-NoMessage
returns-in-Err-NoMessage c = let a = c.in-Err-NoMessage in rw (a.is, rw a.is at a.field-0-is) refl

pub returns-in-Err-NoProcessor : goal.returns-in-Err-NoProcessor
returns-in-Err-NoProcessor c = let a = c.in-Err-NoProcessor in rw (a.is, rw a.is at a.field-0-is) refl

pub returns-in-Err-AlreadyThere : goal.returns-in-Err-AlreadyThere
returns-in-Err-AlreadyThere c = let a = c.in-Err-AlreadyThere in rw (a.is, rw a.is at a.field-0-is) refl

pub returns-in-Err-MoveWithChildren : goal.returns-in-Err-MoveWithChildren
returns-in-Err-MoveWithChildren c = let a = c.in-Err-MoveWithChildren in rw (a.is, rw a.is at a.field-0-is) refl

pub returns-in-Err-MovesSpent : goal.returns-in-Err-MovesSpent
returns-in-Err-MovesSpent c = let a = c.in-Err-MovesSpent in rw (a.is, rw a.is at a.field-0-is) refl

pub returns-in-Err-BadStep : goal.returns-in-Err-BadStep
returns-in-Err-BadStep c = let a = c.in-Err-BadStep in rw (a.is, rw a.is at a.field-0-is) refl
