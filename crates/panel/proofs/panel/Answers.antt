-- `panel`: no count, the total under 9, or the counts of the rig on a board.
use mathlib.Core.Path.{◌≡◌, sym, ◌∙◌}
use mathlib.Core.Bool.{true}
use Rattle.base.specs.Choice.{within}
use Rattle.base.proofs.Tests.{and_left, and_right, within_high}
use Rattle.rules.specs.Panel.{panel_steps, countable}
use Rattle.panel_laws.proofs.Tallies.{panel_counts, panel_nothing, tallied_nine}
use Rattle.panel.proofs.panel.Goals as goal

pub returns-then-not-is_countable : goal.returns-then-not-is_countable
returns-then-not-is_countable c =
    sym (panel_nothing c.args.r (sym c.is_countable.ensures ∙ c.if-not-is_countable.true))

pub all_nine-requires : goal.all_nine-requires
all_nine-requires c =
    let counted : countable c.args.r ≡ true = sym c.is_countable.ensures ∙ c.if-not-is_countable.false in
    let r = c.args.r in
    let m = r.plan.tasks in
    let n = r.processors in
    (within_high 1 64 m (and_left (within 1 64 m) (within 1 6 n) counted), within_high 1 6 n (and_right (within 1 64 m) (within 1 6 n) counted))

pub returns-then-not-passes : goal.returns-then-not-passes
returns-then-not-passes c =
    let counted : countable c.args.r ≡ true = sym c.is_countable.ensures ∙ c.if-not-is_countable.false in
    let r = c.args.r in
    c.all_nine.ensures
    ∙ sym (panel_counts r counted ∙ tallied_nine r (sym c.passes.ensures.0 ∙ c.if-not-passes.true) (panel_steps r.plan.tasks r.processors))

pub ruled-requires : goal.ruled-requires
ruled-requires c =
    (sym c.passes.ensures.0 ∙ c.if-not-passes.false, c.passes.ensures.1)

pub returns : goal.returns
returns c =
    let counted : countable c.args.r ≡ true = sym c.is_countable.ensures ∙ c.if-not-is_countable.false in
    c.ruled.ensures ∙ sym (panel_counts c.args.r counted)
