-- `parent_at`: what desk d keeps for parent t.
use Rattle.board.proofs.Stores.{parent_read}
use Rattle.board.proofs.parent_at.Goals as goal

pub returns : goal.returns
returns c =
    let a = c.args in
    rw c.hint_of.ensures (parent_read a.board.now a.d a.t c.parent_index.ensures.0 c.parent_index.ensures.1)
