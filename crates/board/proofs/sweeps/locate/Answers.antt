use native.Mathlib.Omega.{arith}
use Rattle.board.proofs.sweeps.Walking.{stored_none, stored_next, walked_first, walked_next, walked_less, walked_end}
use Rattle.board.proofs.sweeps.Rules.{located_stored}
use Rattle.board.proofs.sweeps.locate.Goals as goal
use Rattle.board.proofs.sweeps.locate.Goals.{After-next_received-c, At-loop-c}

pub loop-c-init : goal.loop-c-init
loop-c-init c =
    let s = c.before in
    walked_first s.requires.3.receiving s.args.t s.requires.0 c.first_received-c.ensures (λ f none heldprocessors heldnumbers notes board w. stored_none _ w none)

-- where the loop stood before this channel
abbrev looped : After-next_received-c → At-loop-c
looped c = c.before.before.before.before.before

pub loop-c-smaller : goal.loop-c-smaller
loop-c-smaller c =
    let l = looped c in
    walked_less l.requires.3.receiving l.loop-c.invariant (omega arith) c.next_received-c.ensures

pub loop-c-preserved : goal.loop-c-preserved
loop-c-preserved c =
    let l = looped c in
    walked_next l.requires.3.receiving l.loop-c.invariant (omega arith) c.next_received-c.ensures
    (λ f g more done heldprocessors heldnumbers notes board w. stored_next more (done heldprocessors heldnumbers notes board w) (located_stored l.loop-c.hintprocessors l.loop-c.hintmoves heldprocessors heldnumbers notes board l.args.d _ l.args.h w c.put_hint.ensures))

pub returns : goal.returns
returns c =
    let l = c.before in
    let s = l.before.before in
    walked_end s.requires.3.receiving s.args.t s.requires.0 l.first_received-c.ensures l.loop-c.invariant (omega arith)
