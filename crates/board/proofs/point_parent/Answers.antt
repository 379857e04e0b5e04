-- `point_parent`: the pointer of desk d for parent t becomes h.
use native.Mathlib.Omega.{arith}
use Rattle.board.proofs.Stores.{pointer_put}
use Rattle.board.proofs.point_parent.Goals as goal

pub returns : goal.returns
returns c =
    let q = c.before in
    let s = q.before in
    let g = s.well_formed.1.1 in
    pointer_put s.args.board.now s.args.d s.args.t q.parent_index.ensures.0 q.parent_index.ensures.1 s.requires.1 s.args.h c.hint_word.ensures.0 (omega (arith, g)) (omega (arith, g))
