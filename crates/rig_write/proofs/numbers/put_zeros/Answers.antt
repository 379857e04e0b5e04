use mathlib.Core.Path.{◌∙◌}
use Prim.Native.Nat.{◌+◌}
use native.Mathlib.Omega.{arith}
use borrow.Author.Rules.{rules}
use Rattle.std.proofs.lemmas.List.Edits.{length-between}
use Rattle.rig_write.proofs.Puts.{zeros_put}
use Rattle.rig_write.proofs.numbers.put_zeros.Goals as goal

pub returns : goal.returns
returns c =
    let a = c.args in
    zeros_put a.b.now _ a.at a.n _ _ (c.fill.ensures.after (search rules))
    (length-between a.b.now a.at (a.at + a.n) c.requires ∙ omega arith) (omega arith)
