-- `finished`: what a finish of task t, with record x, leaves of its parent, of the task and of what its desk keeps for the parent, and its letter.
use mathlib.Core.Path.{refl, ◌∙◌}
use borrow.Author.Rules.{rules}
use Rattle.steps.proofs.instruction.local.finished.Goals as goal

pub task_at-a-requires : goal.task_at-a-requires
task_at-a-requires c = rw c.parent-u.ensures c.requires.parent

pub parent_at-e-requires : goal.parent_at-e-requires
parent_at-e-requires c =
    let can = c.requires in
    record { processor_low = can.processor_low; processor = can.processor; task = rw c.parent-u.ensures can.parent }

pub returns : goal.returns
returns c = c.finish_rule.ensures ∙ rw (c.parent_at-e.ensures, c.task_at-a.ensures, c.parent-u.ensures) refl
