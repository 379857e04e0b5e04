-- `counts_of` opens the bytes, and counts on the board.
use mathlib.Core.Path.{refl}
use borrow.Author.Tests.{not-true, not-false}
use Rattle.live_rig.proofs.Opened.{plan_of_lem, plan_accepted, users_of, blank_room, refused_plan, refused_here, sound_here}
use Rattle.live_rig.proofs.Panels.{counts_nine, counts_shown, rig_here, lends_here, panel_here}
use Rattle.live_rig.proofs.counts.counts_of.Goals as goal

pub plan_in-read-requires : goal.plan_in-read-requires
plan_in-read-requires c = (c.requires, (refl, refl, refl, refl))

pub open_parts-o-requires : goal.open_parts-o-requires
open_parts-o-requires c = (c.requires, plan_of_lem c.plan_in-read.ensures c.in-Ok.is, blank_room)

pub returns-then-not-o : goal.returns-then-not-o
returns-then-not-o c =
    counts_nine (refused_here c.open_parts-o.ensures (not-true c.open_parts-o.result.ok c.if-not-o.true)) c.refused-then-not-o.ensures

pub put_numbers-requires : goal.put_numbers-requires
put_numbers-requires c = (plan_accepted (plan_of_lem c.plan_in-read.ensures c.in-Ok.is), refl)

pub build-requires : goal.build-requires
build-requires c = (refl, users_of c.plan_in-read.ensures c.in-Ok.is)

pub counts_on-counts-requires : goal.counts_on-counts-requires
counts_on-counts-requires c =
    let passed = not-false c.open_parts-o.result.ok c.if-not-o.false in
    rig_here c.plan_in-read.ensures c.in-Ok.is c.open_parts-o.ensures passed c.put_numbers.ensures c.build.ensures

pub returns-in-Err : goal.returns-in-Err
returns-in-Err c = counts_nine (refused_plan c.plan_in-read.ensures c.in-Err.is) c.refused.ensures

pub returns-else-not-o : goal.returns-else-not-o
returns-else-not-o c =
    let p = c.plan_in-read.ensures in
    let a = c.in-Ok.is in
    let h = c.open_parts-o.ensures in
    let passed = not-false c.open_parts-o.result.ok c.if-not-o.false in
    let numbers = c.put_numbers.ensures in
    let users = c.build.ensures in
    counts_shown (sound_here h passed) refl (panel_here p a h passed numbers users (c.counts_on-counts.ensures _ (lends_here p a h passed numbers users)))
