-- Nothing is left.
use mathlib.Core.Path.{refl}
use borrow.Author.Rules.{rules}
use Rattle.steps.proofs.message.site.unopened.Goals as goal

pub returns : goal.returns
returns c = rw (c.no_task-nobody.ensures, c.no_cell-nowhere.ensures) refl
