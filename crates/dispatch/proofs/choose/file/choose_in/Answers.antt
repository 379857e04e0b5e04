-- `choose_in`: 1 to 6 as at start, then the steps as far as they fit.
use mathlib.Core.Path.{◌≡◌, refl, sym, ◌∙◌}
use mathlib.Core.Bool.{true}
use native.Mathlib.Omega.{arith}
use Rattle.std.specs.Prelude.{Ok}
use Rattle.base.specs.Choice.{within}
use Rattle.base.proofs.Tests.{within_high}
use Rattle.plan.specs.Files.{file_answer}
use Rattle.run.proofs.file.Opening.{opened_file, opened_passes, opened_begins}
use Rattle.run.proofs.file.Outcomes.{start_is}
use Rattle.dispatch.proofs.Outcomes.{processors_refused, file_refused, chosen_all, chosen_short}
use borrow.Author.Rules.{rules}
use Rattle.dispatch.proofs.choose.file.choose_in.Goals as goal

pub returns-then-not-contains : goal.returns-then-not-contains
returns-then-not-contains c =
    let e : c.contains.result ≡ within 1 6 c.args.processors = search rules in
    processors_refused _ _ _ (sym e ∙ c.if-not-contains.true)

pub open-opened-requires : goal.open-opened-requires
open-opened-requires c = (refl, refl, refl, refl)

pub put_numbers-requires : goal.put_numbers-requires
put_numbers-requires c = (opened_passes c.open-opened.ensures c.in-Ok.is, refl)

pub overflow_cast-processors : goal.overflow_cast-processors
overflow_cast-processors c =
    let e : c.contains.result ≡ within 1 6 c.args.processors = search rules in
    let q : within 1 6 c.args.processors ≡ true = sym e ∙ c.if-not-contains.false in
    omega (arith, within_high 1 6 c.args.processors q)

pub choose-c-requires : goal.choose-c-requires
choose-c-requires c =
    let e : c.contains.result ≡ within 1 6 c.args.processors = search rules in
    let q : within 1 6 c.args.processors ≡ true = sym e ∙ c.if-not-contains.false in
    record { plan = _; begins = opened_begins c.open-opened.ensures c.in-Ok.is _ q c.put_numbers.ensures }

pub returns-then-c-2 : goal.returns-then-c-2
returns-then-c-2 c =
    let e : c.contains.result ≡ within 1 6 c.args.processors = search rules in
    let q : within 1 6 c.args.processors ≡ true = sym e ∙ c.if-not-contains.false in
    let ok : file_answer c.args.plan.now ≡ Ok tt = opened_file c.open-opened.ensures c.in-Ok.is in
    chosen_all _ _ _ q ok (start_is _ _)
    (c.choose-c.ensures _ (opened_begins c.open-opened.ensures c.in-Ok.is _ q c.put_numbers.ensures)) (search rules)

pub returns-in-Err : goal.returns-in-Err
returns-in-Err c =
    let e : c.contains.result ≡ within 1 6 c.args.processors = search rules in
    let q : within 1 6 c.args.processors ≡ true = sym e ∙ c.if-not-contains.false in
    file_refused _ _ _ q _ (sym c.open-opened.ensures.answered ∙ c.in-Err.is)

pub returns-else-c : goal.returns-else-c
returns-else-c c =
    let e : c.contains.result ≡ within 1 6 c.args.processors = search rules in
    let q : within 1 6 c.args.processors ≡ true = sym e ∙ c.if-not-contains.false in
    let ok : file_answer c.args.plan.now ≡ Ok tt = opened_file c.open-opened.ensures c.in-Ok.is in
    chosen_short _ _ _ q ok (start_is _ _)
    (c.choose-c.ensures _ (opened_begins c.open-opened.ensures c.in-Ok.is _ q c.put_numbers.ensures)) (search rules)
