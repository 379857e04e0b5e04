-- `mortarsedge_dispatch`.
use mathlib.Core.Path.{ap, ◌∙◌}
use Prim.Native.Nat.{ℕ, ◌+◌, ◌*◌}
use native.Mathlib.Omega.{arith}
use Rattle.live_dispatch.proofs.Dispatches.{one_at_most, dispatch_short, short_steps, short_records, enough_room, dispatch_meets}
use Rattle.live_dispatch.proofs.mortarsedge_dispatch.Goals as goal

pub returns-then-steps-lt8 : goal.returns-then-steps-lt8
returns-then-steps-lt8 c =
    let a = c.args in
    dispatch_short a.rig.now a.desk a.steps.now a.records.now (short_steps a.rig.now a.desk a.steps.now a.records.now (omega (arith, c.if-steps-lt8.true)))

pub returns-then-records-lt22 : goal.returns-then-records-lt22
returns-then-records-lt22 c =
    let a = c.args in
    dispatch_short a.rig.now a.desk a.steps.now a.records.now
    (short_records a.rig.now a.desk a.steps.now a.records.now (omega (arith, c.if-steps-lt8.false)) (omega (arith, c.if-records-lt22.true)))

pub put_turn-both-requires : goal.put_turn-both-requires
put_turn-both-requires c =
    let one = c.put_turn-first in
    (omega (arith, one.ensures.0, one_at_most c.call_held-q.result.delivery), omega (arith, one.auto, c.if-steps-lt8.false), omega (arith, one.auto, c.if-records-lt22.false))

pub answered-requires : goal.answered-requires
answered-requires c =
    let q = c.call_held-q.result in
    omega (arith, c.put_turn-both.ensures.0, c.put_turn-first.ensures.0, one_at_most q.delivery, one_at_most q.run)

pub returns : goal.returns
returns c =
    let b = c.args.rig.now in
    let desk = c.args.desk in
    let steps = c.args.steps.now in
    let records = c.args.records.now in
    let one = c.put_turn-first in
    let two = c.put_turn-both in
    dispatch_meets b desk steps records (enough_room b desk steps records (omega (arith, c.if-steps-lt8.false)) (omega (arith, c.if-records-lt22.false)))
    c.call_held-q.result (rw c.byte_given.ensures at c.call_held-q.ensures)
    one.ensures.0 two.ensures.0 one.ensures.1 two.ensures.1 one.ensures.2 two.ensures.2
    (c.answered.ensures ∙ ap (λ (n : ℕ). n + 256 * (4 * two.result)) c.answer_number.ensures)
