-- `finish_file` is the check: 2 to 6 as at start, then the answer as far as it fits.
use mathlib.Core.Path.{◌≡◌, refl, sym, ◌∙◌}
use borrow.Author.Rules.{rules}
use Rattle.std.specs.Prelude.{Ok}
use Rattle.plan.specs.Files.{file_answer}
use Rattle.run.proofs.file.Opening.{opened_file, opened_passes, opened_begins}
use Rattle.finish.specs.Files.{Told, plan_of}
use Rattle.finish.proofs.Outcomes.{refused_file, told_whole, told_short}
use Rattle.finish.proofs.file.finish_file.Goals as goal

pub open-opened-requires : goal.open-opened-requires
open-opened-requires c = (refl, refl, refl, refl)

pub put_numbers-requires : goal.put_numbers-requires
put_numbers-requires c = (opened_passes c.open-opened.ensures c.in-Ok.is, refl)

pub answer-d-requires : goal.answer-d-requires
answer-d-requires c = record { plan = _; begins = opened_begins c.open-opened.ensures c.in-Ok.is 1 refl c.put_numbers.ensures }

pub returns-then-d : goal.returns-then-d
returns-then-d c = told_whole _ _ (opened_file c.open-opened.ensures c.in-Ok.is) c.if-d.true (c.answer-d.ensures _ (opened_begins c.open-opened.ensures c.in-Ok.is 1 refl c.put_numbers.ensures))

pub returns-in-Err : goal.returns-in-Err
returns-in-Err c = refused_file _ _ _ (sym c.open-opened.ensures.answered ∙ c.in-Err.is)

pub returns-else-d : goal.returns-else-d
returns-else-d c = told_short _ _ (opened_file c.open-opened.ensures c.in-Ok.is) c.if-d.false (c.answer-d.ensures _ (opened_begins c.open-opened.ensures c.in-Ok.is 1 refl c.put_numbers.ensures))
