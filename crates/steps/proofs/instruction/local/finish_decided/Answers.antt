-- `finish_decided`: the same, decided and not done.
use mathlib.Core.Path.{refl, sym, ◌∙◌}
use borrow.Author.Rules.{rules}
use borrow.Author.Tests.{not-true, not-false}
use Rattle.steps.proofs.instruction.local.finish_decided.Goals as goal

pub returns-then-not-fits : goal.returns-then-not-fits
returns-then-not-fits c = let said = sym (rw c.finished-f.ensures at c.fits.ensures) in c.refused.ensures ∙ rw (said, not-true c.fits.result c.if-not-fits.true-raw) refl

pub returns : goal.returns
returns c = let said = sym (rw c.finished-f.ensures at c.fits.ensures) in c.posted.ensures ∙ rw (said, not-false c.fits.result c.if-not-fits.false-raw, c.finished-f.ensures) refl
