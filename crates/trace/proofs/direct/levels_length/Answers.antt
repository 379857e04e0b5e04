-- `levels_length` adds up how long the four levels of a word are.
use native.Mathlib.Omega.{arith}
use Rattle.trace.proofs.Putting.{levels_length}
use borrow.Author.Rules.{rules}
use Rattle.trace.proofs.direct.levels_length.Goals as goal

pub returns : goal.returns
returns c = (omega (arith, levels_length c.args.w), search rules)
