-- `counts_after` runs the steps from the start of a plan, as `drive` of `run` does, and counts on what they leave.
use mathlib.Core.Path.{refl}
use Rattle.plan.specs.declared.Plan.{Plan}
use Rattle.rules.specs.StepFiles.{file_steps}
use Rattle.rig_parts.specs.Facts.{facts}
use Rattle.board.specs.Lent.{lent}
use Rattle.run.specs.file.Begins.{Begins}
use Rattle.run.proofs.file.Beginning.{few_users, begun}
use Rattle.run.proofs.file.Traces.{ran_rig}
use Rattle.panel.proofs.Reached.{run_lends, run_shows}
use Rattle.panel.proofs.file.counts_after.Goals as goal

pub build-requires : goal.build-requires
build-requires c = (refl, few_users c.requires.0.begins)

pub run_steps-after-requires : goal.run_steps-after-requires
run_steps-after-requires c =
    let a = c.args in
    let z = c.no_tables-tables in
    let on = c.start_board in
    let rig = λ (p : Plan) (b : Begins a.processors p (facts a.count a.codes.now a.numbers.now a.senders.now a.receivers.now a.parents.now)).
    begun a.count a.codes.now a.numbers.now c.build.ensures b c.no_messages-network.ensures z.ensures on.ensures
    (c.locate.ensures z.result.heldprocessors z.result.heldnumbers z.result.notes on.new.board on.ensures.whole) in
    record {
      rig = rig _ c.requires.0.begins;
      whole = on.ensures.whole;
      indexed = c.build.ensures.indexed;
      few = c.requires.1;
      blank = refl;
    }

pub counts_on-requires : goal.counts_on-requires
counts_on-requires c =
    let a = c.args in
    let z = c.no_tables-tables in
    let on = c.start_board in
    let rig = λ (p : Plan) (b : Begins a.processors p (facts a.count a.codes.now a.numbers.now a.senders.now a.receivers.now a.parents.now)).
    begun a.count a.codes.now a.numbers.now c.build.ensures b c.no_messages-network.ensures z.ensures on.ensures
    (c.locate.ensures z.result.heldprocessors z.result.heldnumbers z.result.notes on.new.board on.ensures.whole) in
    record {
      whole = c.run_steps-after.ensures.1;
      parts = (ran_rig (rig _ c.requires.0.begins) _ c.run_steps-after.ensures.0).parts;
      indexed = c.build.ensures.indexed;
    }

pub returns : goal.returns
returns c p b =
    let a = c.args in
    let z = c.no_tables-tables in
    let on = c.start_board in
    let rig = λ (p : Plan) (b : Begins a.processors p (facts a.count a.codes.now a.numbers.now a.senders.now a.receivers.now a.parents.now)).
    begun a.count a.codes.now a.numbers.now c.build.ensures b c.no_messages-network.ensures z.ensures on.ensures
    (c.locate.ensures z.result.heldprocessors z.result.heldnumbers z.result.notes on.new.board on.ensures.whole) in
    let users = c.build.new.users in
    let g = rig p b in
    let r = c.run_steps-after in
    let h = r.ensures.0 in
    let xs = file_steps a.steps.now in
    let left_on = lent r.new.hintprocessors r.new.hintmoves r.new.heldprocessors r.new.heldnumbers r.new.notes r.new.board in
    run_shows a.codes.now a.numbers.now users a.count a.processors g xs left_on r.result h _
    (c.counts_on.ensures _ (run_lends a.codes.now a.numbers.now users a.count a.processors g xs left_on r.result h))
