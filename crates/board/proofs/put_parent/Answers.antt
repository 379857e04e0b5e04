-- `put_parent`: what desk d keeps for parent t becomes e.
use native.Mathlib.Omega.{arith}
use Rattle.board.proofs.Stores.{parent_put}
use Rattle.board.proofs.put_parent.Goals as goal

pub returns : goal.returns
returns c =
    let q = c.before in
    let s = q.before in
    let g = s.well_formed.1.1 in
    let h = s.args.e.hint in
    parent_put s.args.board.now s.args.d s.args.t q.parent_index.ensures.0 q.parent_index.ensures.1 s.requires.1 h c.hint_word.ensures.0 (omega (arith, g)) (omega (arith, g)) s.args.e.held
