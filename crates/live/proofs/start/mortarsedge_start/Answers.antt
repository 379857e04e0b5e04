-- `mortarsedge_start`.
use mathlib.Core.Path.{refl, sym, ◌∙◌}
use mathlib.Core.Bool.{true}
use native.Mathlib.Omega.{arith}
use borrow.Author.Tests.{not-true, not-false}
use Rattle.base.proofs.Tests.{within_high}
use Rattle.run.proofs.file.Opening.{opened_file}
use Rattle.live_rig.proofs.Refused.{held_long}
use Rattle.live_rig.proofs.Starts.{starts}
use Rattle.live.proofs.Starts.{processors_refused, file_refused, short_start, start_shown}
use Rattle.live.proofs.start.mortarsedge_start.Goals as goal

pub returns-then-not-is_within : goal.returns-then-not-is_within
returns-then-not-is_within c =
    processors_refused _ _ _ (sym c.is_within.ensures ∙ not-true c.is_within.result c.if-not-is_within.true-raw) c.number.ensures

pub open-read-requires : goal.open-read-requires
open-read-requires c = (refl, refl, refl, refl)

pub returns-then-rig-lt34120 : goal.returns-then-rig-lt34120
returns-then-rig-lt34120 c =
    let desks = sym c.is_within.ensures ∙ not-false c.is_within.result c.if-not-is_within.false-raw in
    let file = opened_file c.open-read.ensures c.in-Ok.is in
    short_start _ _ _ desks file c.if-rig-lt34120.true

pub slice_bounds-start_in-end-in-Ok : goal.slice_bounds-start_in-end-in-Ok
slice_bounds-start_in-end-in-Ok c = sym (held_long c.args.rig.now c.if-rig-lt34120.false)

pub overflow_cast-processors-in-Ok : goal.overflow_cast-processors-in-Ok
overflow_cast-processors-in-Ok c =
    let desks = sym c.is_within.ensures ∙ not-false c.is_within.result c.if-not-is_within.false-raw in
    omega (arith, within_high 1 6 c.args.processors desks)

pub start_in-requires : goal.start_in-requires
start_in-requires c =
    let desks = sym c.is_within.ensures ∙ not-false c.is_within.result c.if-not-is_within.false-raw in
    starts _ c.open-read.ensures c.in-Ok.is (held_long c.args.rig.now c.if-rig-lt34120.false) desks

pub returns-in-Err : goal.returns-in-Err
returns-in-Err c =
    let desks = sym c.is_within.ensures ∙ not-false c.is_within.result c.if-not-is_within.false-raw in
    file_refused _ _ _ desks _ (sym c.open-read.ensures.answered ∙ c.in-Err.is) c.number-in-Err.ensures

pub returns-else-rig-lt34120 : goal.returns-else-rig-lt34120
returns-else-rig-lt34120 c =
    let a = c.args in
    let desks = sym c.is_within.ensures ∙ not-false c.is_within.result c.if-not-is_within.false-raw in
    let file = opened_file c.open-read.ensures c.in-Ok.is in
    start_shown a.processors a.plan.now a.rig.now desks file c.if-rig-lt34120.false c.start_in.ensures refl
