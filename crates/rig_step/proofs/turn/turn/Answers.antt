-- `turn` puts the parts on a board, makes the step there, and takes the parts from the board.
use mathlib.Core.Path.{refl}
use Rattle.board.specs.Lent.{lent}
use Rattle.rig_step.proofs.Boards.{packed_rig, packed_turn, few_of}
use Rattle.rig_step.proofs.turn.turn.Goals as goal

pub build-requires : goal.build-requires
build-requires c = (refl, few_of c.requires.parts)

pub turn_on-t-requires : goal.turn_on-t-requires
turn_on-t-requires c =
    let a = c.args in
    packed_rig a.count a.codes.now a.numbers.now a.senders.now a.receivers.now a.parents.now a.processors a.tasks a.network a.kept _ c.put_rig.new.board
    c.build.ensures
    c.put_rig.ensures.1
    c.put_rig.ensures.2
    c.put_rig.ensures.3
    c.requires
    c.put_rig.ensures.0

pub returns : goal.returns
returns c =
    let a = c.args in
    let t = c.turn_on-t in
    packed_turn a.count a.codes.now a.numbers.now a.senders.now a.receivers.now a.parents.now a.processors a.tasks a.network a.kept _ c.put_rig.new.board
    c.build.ensures
    c.put_rig.ensures.1
    c.put_rig.ensures.2
    c.put_rig.ensures.3
    a.s
    (lent t.new.hintprocessors t.new.hintmoves t.new.heldprocessors t.new.heldnumbers t.new.notes t.new.board)
    t.ensures
    c.tasks_on.ensures
    c.channels_on.ensures
    c.parents_on.ensures
