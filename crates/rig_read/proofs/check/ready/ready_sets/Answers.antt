use mathlib.Core.Path.{◌≡◌, refl}
use native.Mathlib.Omega.{arith}
use borrow.Author.Tests.{le-leb, lt-leb}
use Rattle.rig_read.proofs.Readies.{sets_none, sets_joined, sets_left}
use Rattle.rig_read.proofs.check.ready.ready_sets.Goals as goal
use Rattle.rig_read.proofs.check.ready.ready_sets.Goals.{then-d-ge1+then-d-le6, else-d-ge1, else-d-ge1-via-then-d-ge1+else-d-le6, else-d-ge1-via-else-d-ge1}

pub loop-t-init : goal.loop-t-init
loop-t-init c = sets_none c.args.board.now

pub loop-t-preserved : goal.loop-t-preserved
loop-t-preserved c =
    let x = c.args.board.now in
    let d = c.ready_desk-d.result in
    let e = c.ready_desk-d.ensures in
    elim c.if-d-ge1.branch [
      | then-d-ge1+then-d-le6 w ↦ rw w.sets-is (sets_joined x (omega arith) c.loop-t.invariant e (rw (le-leb 1 d w.if-d-ge1.true, le-leb d 6 w.if-d-le6.true) refl) w.insert.ensures)
      | else-d-ge1 w ↦
          rw w.sets-is
          (sets_left x (omega arith) c.loop-t.invariant e
          (elim w.else-d-ge1.branch [
            | else-d-ge1-via-then-d-ge1+else-d-le6 u ↦ rw (le-leb 1 d u.if-d-ge1.true, lt-leb d 6 u.if-d-le6.false) refl
            | else-d-ge1-via-else-d-ge1 u ↦ rw (lt-leb 1 d u.if-d-ge1.false) refl
          ]))
    ]

pub returns : goal.returns
returns c =
    let l = c.loop-t in
    let e : l.t ≡ c.args.m = omega arith in
    rw e at l.invariant
