-- `put_travelling_entry`: the travelling pointer of the channel whose own entry is at k becomes h.
use native.Mathlib.Omega.{arith}
use Rattle.board.proofs.Stores.{travelling_put}
use Rattle.board.proofs.put_travelling_entry.Goals as goal

pub returns : goal.returns
returns c =
    let s = c.before.before in
    let g = s.well_formed.1.1 in
    travelling_put s.args.board.now s.args.k s.args.h s.requires.0 s.requires.1 c.with_travelling.ensures (omega (arith, g)) (omega (arith, g))
