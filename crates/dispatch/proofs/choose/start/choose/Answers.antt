-- `choose` makes the table of who uses what and the parts of the start, and calls the desks.
use mathlib.Core.Path.{refl}
use Rattle.plan.specs.declared.Plan.{Plan}
use Rattle.rig_parts.specs.Facts.{facts}
use Rattle.run.specs.file.Begins.{Begins}
use Rattle.run.proofs.file.Beginning.{few_users}
use Rattle.dispatch.proofs.Starting.{starts}
use Rattle.dispatch.proofs.choose.start.choose.Goals as goal

pub build-requires : goal.build-requires
build-requires c = (refl, few_users c.requires.begins)

pub call_desks-rest-requires : goal.call_desks-rest-requires
call_desks-rest-requires c =
    let a = c.args in
    let z = c.no_tables-tables in
    let on = c.start_board in
    let begins_on = λ (p : Plan) (b : Begins a.processors p (facts a.count a.codes.now a.numbers.now a.senders.now a.receivers.now a.parents.now)).
    starts a.count a.codes.now a.numbers.now c.build.ensures b c.no_messages-network.ensures z.ensures on.ensures
    (c.locate.ensures z.result.heldprocessors z.result.heldnumbers z.result.notes on.new.board on.ensures.whole) in
    (record { system = _; on = begins_on _ c.requires.begins }, refl)

pub returns : goal.returns
returns c p b =
    let a = c.args in
    let z = c.no_tables-tables in
    let on = c.start_board in
    let begins_on = λ (p : Plan) (b : Begins a.processors p (facts a.count a.codes.now a.numbers.now a.senders.now a.receivers.now a.parents.now)).
    starts a.count a.codes.now a.numbers.now c.build.ensures b c.no_messages-network.ensures z.ensures on.ensures
    (c.locate.ensures z.result.heldprocessors z.result.heldnumbers z.result.notes on.new.board on.ensures.whole) in
    c.call_desks-rest.ensures _ (begins_on p b)
