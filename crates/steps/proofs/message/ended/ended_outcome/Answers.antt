-- What an ended letter leaves, by the parent's record and what the letter's desk keeps for it.
use mathlib.Core.Path.{refl, ◌∙◌}
use Rattle.steps.proofs.message.ended.ended_outcome.Goals as goal

pub parent-u-requires : goal.parent-u-requires
parent-u-requires c = c.requires.child

pub task_at-a-requires : goal.task_at-a-requires
task_at-a-requires c = rw c.parent-u.ensures c.requires.parent

pub parent_at-e-requires : goal.parent_at-e-requires
parent_at-e-requires c =
    let can = c.requires in
    record { processor_low = can.processor_low; processor = can.processor; task = rw c.parent-u.ensures can.parent }

pub terminated_rule-requires : goal.terminated_rule-requires
terminated_rule-requires c = let can = c.requires in (can.child_low, can.child)

pub returns : goal.returns
returns c = c.terminated_rule.ensures ∙ rw (c.parent_at-e.ensures, c.task_at-a.ensures, c.parent-u.ensures) refl
