-- `panel_file`: 1 to 6 as at start, 8, and the panel of the rig that the steps leave.
use mathlib.Core.Path.{◌≡◌, refl, sym, ◌∙◌}
use mathlib.Core.Bool.{true}
use native.Mathlib.Omega.{arith}
use borrow.Author.Rules.{rules}
use Rattle.std.specs.Prelude.{Ok}
use Rattle.base.specs.Choice.{within}
use Rattle.base.proofs.Tests.{within_high}
use Rattle.plan.specs.Files.{file_answer}
use Rattle.rules.specs.StepFiles.{steps_ok}
use Rattle.run.proofs.file.Opening.{opened_file, opened_passes, opened_begins}
use Rattle.run.proofs.file.Outcomes.{start_is, steps_few}
use Rattle.panel.proofs.Shown.{processors_refused, file_refused, steps_refused, shown}
use Rattle.panel.proofs.file.panel_file.Goals as goal

pub returns-then-not-contains : goal.returns-then-not-contains
returns-then-not-contains c =
    let e : c.contains.result ≡ within 1 6 c.args.processors = search rules in
    processors_refused _ _ _ (sym e ∙ c.if-not-contains.true) c.refused.ensures

pub open-opened-requires : goal.open-opened-requires
open-opened-requires c = (refl, refl, refl, refl)

pub returns-then-not-steps_ok : goal.returns-then-not-steps_ok
returns-then-not-steps_ok c =
    let e : c.contains.result ≡ within 1 6 c.args.processors = search rules in
    let q : within 1 6 c.args.processors ≡ true = sym e ∙ c.if-not-contains.false in
    let file : file_answer c.args.plan.now ≡ Ok tt = opened_file c.open-opened.ensures c.in-Ok.is in
    steps_refused _ _ _ q file (sym c.steps_ok.ensures ∙ c.if-not-steps_ok.true) c.refused-then-not-steps_ok.ensures

pub put_numbers-requires : goal.put_numbers-requires
put_numbers-requires c = (opened_passes c.open-opened.ensures c.in-Ok.is, refl)

pub overflow_cast-processors : goal.overflow_cast-processors
overflow_cast-processors c =
    let e : c.contains.result ≡ within 1 6 c.args.processors = search rules in
    let q : within 1 6 c.args.processors ≡ true = sym e ∙ c.if-not-contains.false in
    omega (arith, within_high 1 6 c.args.processors q)

pub counts_after-counts-requires : goal.counts_after-counts-requires
counts_after-counts-requires c =
    let e : c.contains.result ≡ within 1 6 c.args.processors = search rules in
    let q : within 1 6 c.args.processors ≡ true = sym e ∙ c.if-not-contains.false in
    let steps : steps_ok c.args.steps.now ≡ true = sym c.steps_ok.ensures ∙ c.if-not-steps_ok.false in
    (record { plan = _; begins = opened_begins c.open-opened.ensures c.in-Ok.is _ q c.put_numbers.ensures }, steps_few _ steps)

pub returns-in-Err : goal.returns-in-Err
returns-in-Err c =
    let e : c.contains.result ≡ within 1 6 c.args.processors = search rules in
    let q : within 1 6 c.args.processors ≡ true = sym e ∙ c.if-not-contains.false in
    file_refused _ _ _ q _ (sym c.open-opened.ensures.answered ∙ c.in-Err.is) c.refused-in-Err.ensures

pub returns-else-not-steps_ok : goal.returns-else-not-steps_ok
returns-else-not-steps_ok c =
    let e : c.contains.result ≡ within 1 6 c.args.processors = search rules in
    let q : within 1 6 c.args.processors ≡ true = sym e ∙ c.if-not-contains.false in
    let file : file_answer c.args.plan.now ≡ Ok tt = opened_file c.open-opened.ensures c.in-Ok.is in
    let steps : steps_ok c.args.steps.now ≡ true = sym c.steps_ok.ensures ∙ c.if-not-steps_ok.false in
    shown _ _ _ q file steps
    (rw (start_is _ _) at (c.counts_after-counts.ensures _ (opened_begins c.open-opened.ensures c.in-Ok.is _ q c.put_numbers.ensures)))
    refl
