-- `rest_of` opens the bytes, and asks for rest on the board.
use mathlib.Core.Path.{refl, ◌∙◌}
use borrow.Author.Tests.{not-true, not-false}
use Rattle.live_rig.proofs.Opened.{plan_of_lem, blank_room, refused_plan, refused_here, sound_here, placed_here, used_here, few_here, quiet_here}
use Rattle.live_rig.proofs.Shown.{rest_nine, rest_shown}
use Rattle.live_rig.proofs.rest.rest_of.Goals as goal

pub plan_in-read-requires : goal.plan_in-read-requires
plan_in-read-requires c = (c.requires, (refl, refl, refl, refl))

pub open_parts-o-requires : goal.open_parts-o-requires
open_parts-o-requires c = (c.requires, plan_of_lem c.plan_in-read.ensures c.in-Ok.is, blank_room)

pub returns-then-not-o : goal.returns-then-not-o
returns-then-not-o c = rest_nine _ (refused_here c.open_parts-o.ensures (not-true c.open_parts-o.result.ok c.if-not-o.true))

pub at_rest-rest-requires : goal.at_rest-rest-requires
at_rest-rest-requires c =
    let passed = not-false c.open_parts-o.result.ok c.if-not-o.false in
    placed_here c.open_parts-o.ensures passed (plan_of_lem c.plan_in-read.ensures c.in-Ok.is)

pub rest_number-requires : goal.rest_number-requires
rest_number-requires c = few_here c.open_parts-o.ensures (not-false c.open_parts-o.result.ok c.if-not-o.false)

pub returns-in-Err : goal.returns-in-Err
returns-in-Err c = rest_nine _ (refused_plan c.plan_in-read.ensures c.in-Err.is)

pub returns-else-not-o : goal.returns-else-not-o
returns-else-not-o c =
    let passed = not-false c.open_parts-o.result.ok c.if-not-o.false in
    let h = c.open_parts-o.ensures in
    let p = plan_of_lem c.plan_in-read.ensures c.in-Ok.is in
    rest_shown _ (sound_here h passed) (c.at_rest-rest.ensures ∙ quiet_here h passed p) (used_here h passed) c.rest_number.ensures
