use mathlib.Core.List.{[]}
use native.Mathlib.Omega.{arith}
use Rattle.board.proofs.sweeps.Walking.{stored_none, stored_next, walked_first, walked_next, walked_less, walked_end}
use Rattle.board.proofs.sweeps.arrival.arrive_receiving.Goals as goal
use Rattle.board.proofs.sweeps.arrival.arrive_receiving.Goals.{After-next_received-c, At-loop-c}

pub loop-c-init : goal.loop-c-init
loop-c-init c =
    let s = c.before in
    (s.requires.4, walked_first s.requires.3.receiving s.args.t s.requires.0 c.first_received-c.ensures (λ f none notes. stored_none _ s.requires.4 none))

-- where the loop stood before this channel
abbrev looped : After-next_received-c → At-loop-c
looped c = c.before.before.before.before.before.before.before.before

pub loop-c-smaller : goal.loop-c-smaller
loop-c-smaller c =
    let l = looped c in
    walked_less l.requires.3.receiving l.loop-c.invariant.1 (omega arith) c.next_received-c.ensures

pub loop-c-preserved : goal.loop-c-preserved
loop-c-preserved c =
    let l = looped c in (
      (c.arrive_receiving_at.ensures []).whole,
      walked_next l.requires.3.receiving l.loop-c.invariant.1 (omega arith) c.next_received-c.ensures
          (λ f g more done notes. stored_next more (done notes) (c.arrive_receiving_at.ensures notes)),
    )

pub returns : goal.returns
returns c =
    let l = c.before in
    let s = l.before.before in
    walked_end s.requires.3.receiving s.args.t s.requires.0 l.first_received-c.ensures l.loop-c.invariant.1 (omega arith)
