use mathlib.Core.List.{[]}
use native.Mathlib.Omega.{arith}
use Rattle.board.proofs.sweeps.Walking.{stored_none, stored_next, walked_first, walked_next, walked_less, walked_end}
use Rattle.board.proofs.sweeps.arrival.arrive_sending.Goals as goal
use Rattle.board.proofs.sweeps.arrival.arrive_sending.Goals.{After-next_sent-c, At-loop-c}

pub loop-c-init : goal.loop-c-init
loop-c-init c =
    let s = c.before in
    (s.requires.4, walked_first s.requires.3.sending s.args.t s.requires.0 c.first_sent-c.ensures (λ f none heldprocessors heldnumbers notes. stored_none _ s.requires.4 none))

-- where the loop stood before this channel
abbrev looped : After-next_sent-c → At-loop-c
looped c = c.before.before.before.before.before.before

pub loop-c-smaller : goal.loop-c-smaller
loop-c-smaller c =
    let l = looped c in
    walked_less l.requires.3.sending l.loop-c.invariant.1 (omega arith) c.next_sent-c.ensures

pub loop-c-preserved : goal.loop-c-preserved
loop-c-preserved c =
    let l = looped c in (
      (c.arrive_sending_at.ensures [] [] []).whole,
      walked_next l.requires.3.sending l.loop-c.invariant.1 (omega arith) c.next_sent-c.ensures
          (λ f g more done heldprocessors heldnumbers notes. stored_next more (done heldprocessors heldnumbers notes) (c.arrive_sending_at.ensures heldprocessors heldnumbers notes)),
    )

pub returns : goal.returns
returns c =
    let l = c.before in
    let s = l.before.before in
    walked_end s.requires.3.sending s.args.t s.requires.0 l.first_sent-c.ensures l.loop-c.invariant.1 (omega arith)
