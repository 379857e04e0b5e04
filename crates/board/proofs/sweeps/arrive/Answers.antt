-- `arrive` is what is done for the channels that the task receives on, and then for those that it sends on.
use mathlib.Core.Path.{refl}
use mathlib.Core.List.{[]}
use Rattle.board.proofs.sweeps.Walking.{stored_next}
use Rattle.board.proofs.sweeps.arrive.Goals as goal

pub arrive_sending-requires : goal.arrive_sending-requires
arrive_sending-requires c =
    let r = c.before.before.before in
    let s = r.before.before.before.before.before.before in
    (s.requires.0, s.requires.1, s.requires.2, s.requires.3, (r.arrive_receiving.ensures []).whole)

pub returns : goal.returns
returns c = λ notes. stored_next (λ s. refl) (c.arrive_receiving.ensures notes) (c.arrive_sending.ensures _ _ notes)
