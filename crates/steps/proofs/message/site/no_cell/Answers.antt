-- Nothing is in the cell that stands for none.
use mathlib.Core.Path.{refl}
use borrow.Author.Rules.{rules}
use Rattle.steps.proofs.message.site.no_cell.Goals as goal

pub returns : goal.returns
returns c = rw (c.cell_of.ensures, c.no_offer-nothing.ensures, c.unknown-none.ensures) refl
