-- `put_first_level`: task t becomes x, whose word is as it was above level 0.
use mathlib.Core.Path.{refl, subst, sym, ◌∙◌}
use native.Mathlib.Omega.{arith}
use lib.ListN.{length-set}
use Rattle.board.proofs.Stores.{NarrowTask, word_read, first_number_lem, task_written, ready_kept, channels_kept, parents_kept}
use Rattle.board.proofs.Readies.{standing, table_stored}
use Rattle.plan.specs.declared.Word.{Word}
use Rattle.rules.specs.Systems.{task_in}
use Rattle.board.specs.Lent.{ready_on, tasks_on, SameAbove}
use Rattle.board.proofs.put_first_level.Goals as goal

pub returns : goal.returns
returns c =
    let t = c.args.t in
    let board = c.args.board.now in
    let x = c.args.x in
    let long = c.requires.2 in
    let g = c.well_formed.1.1 in
    let small : NarrowTask x = (omega (arith, g), omega (arith, g), omega (arith, g), omega (arith, g), omega (arith, g), (omega (arith, g), omega (arith, g), omega (arith, g), omega (arith, g))) in
    let w = c.task_word.ensures in
    let same = subst (λ (u : Word). SameAbove u x.word) (word_read board t refl (omega arith) (omega arith)) c.requires.3 in
    let v = c.with_first_level.ensures ∙ first_number_lem _ x.word same in
    let y = task_in (tasks_on board) t in
    let records = task_written board t.0 x refl (omega arith) (omega arith) long w v small in
    let sets = ready_kept board t.0 x refl (omega arith) (omega arith) long w v small ∙ sym (standing 1 t y x (ready_on board) c.requires.4) in
    (simp (length-set, long), table_stored board _ t x (omega arith) records sets, channels_kept board t.0 x refl (omega arith) (omega arith) long w v small, parents_kept board t.0 x refl (omega arith) (omega arith) long w v small)
