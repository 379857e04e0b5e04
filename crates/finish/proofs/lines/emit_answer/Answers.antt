-- `emit_answer`: the first line, and those of the list behind it.
use mathlib.Core.Path.{◌∙◌}
use borrow.Author.Rules.{rules}
use Rattle.run.proofs.all_steps.Progress.{next_then}
use Rattle.finish.proofs.lines.emit_answer.Goals as goal

pub emit_list-requires : goal.emit_list-requires
emit_list-requires c =
    let lines = c.emit_first.ensures in
    (c.requires.0, c.requires.1, lines.long ∙ c.requires.3, lines.room c.requires.4)

pub returns : goal.returns
returns c = next_then (rw c.finishes-all.ensures at c.emit_first.ensures) c.emit_list.ensures
