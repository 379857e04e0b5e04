-- `fitted`: accepted, or the mail is full.
use mathlib.Core.Path.{sym}
use borrow.Author.Tests.{not-true, not-false}
use borrow.Author.Rules.{rules}
use Rattle.steps.proofs.instruction.fitted.fitted.Goals as goal

pub returns-then-not-fits : goal.returns-then-not-fits
returns-then-not-fits c = λ k s. rw (sym c.fits.ensures, not-true c.fits.result c.if-not-fits.true-raw) c.refused.ensures

pub returns : goal.returns
returns c = λ k s. rw (sym c.fits.ensures, not-false c.fits.result c.if-not-fits.false-raw) c.accepted.ensures
