-- `put_set`: a desk's set becomes another.
use mathlib.Core.Path.{refl}
use native.Mathlib.Omega.{arith}
use Rattle.board.proofs.Readies.{set_put}
use Rattle.board.proofs.ready.put_set.Goals as goal

pub returns : goal.returns
returns c =
    let a = c.args in
    set_put a.board.now a.d.0 a.s c.requires.2 (omega arith) (omega arith) (λ x. a.s) refl
