-- Cases of the mark: which sums set it, what keeps it, and the lines `over` of a trace.
use mathlib.Core.Path.{◌≡◌, refl}
use mathlib.Core.Bool.{true, false}
use mathlib.Core.List.{[], ◌∷◌}
use Rattle.plan.specs.Words.{add_word}
use Rattle.plan.proofs.Edges.{word_of}
use Rattle.rules.specs.declared.task.Task.{Task}
use Rattle.rules.specs.declared.task.TaskState.TheVariants.{Receiving}
use Rattle.rules.specs.declared.system.ParentEntry.{ParentEntry}
use Rattle.rules.specs.declared.system.System.{System}
use Rattle.rules.specs.Numbers.{task_id}
use Rattle.rules.specs.Tasks.{unborn, with_state, with_word, with_overflow, departed, arrived, taking}
use Rattle.rules.specs.Local.{set_rule, add_rule, finish_rule}
use Rattle.rules.specs.Sound.{unborn_ok}
use Rattle.rules.specs.Systems.{with_task, task_at}
use Rattle.rules.specs.Steps.{ruled_steps}
use Rattle.rules.specs.Trace.{over_line, over_lines}
use Rattle.rules.proofs.Scripts.{finish, set, add, run, move, deliver}
use Rattle.rules.proofs.Sites.{processor, born_at, plain}
use Rattle.rules.proofs.Evaluated.{evaluated}

-- 65,535 and 0 do not pass 65,535; 65,535 and 1 do, and so do 65,535 and 65,535
at_the_top : add_word (word_of 65535) (add 0) ≡ record { word = word_of 65535; overflow = false }
unfolding evaluated
at_the_top = refl

one_over : add_word (word_of 65535) (add 1) ≡ record { word = word_of 0; overflow = true }
unfolding evaluated
one_over = refl

twice_the_top : add_word (word_of 65535) (add 65535) ≡ record { word = word_of 65534; overflow = true }
unfolding evaluated
twice_the_top = refl

-- a task that has met such a sum
abbrev over : Task
over = add_rule (with_word (born_at (processor 2)) (word_of 65535)) (add 1)

over_marked : over.overflow ≡ true
unfolding evaluated
over_marked = refl

-- a set, a further add, a move and a finish keep the mark; a word that comes from such a task brings none
kept_by_set : (set_rule over (set 7)).overflow ≡ true
unfolding evaluated
kept_by_set = refl

kept_by_add : (add_rule over (add 1)).overflow ≡ true
unfolding evaluated
kept_by_add = refl

kept_on_the_way : (arrived (departed over) (processor 1)).overflow ≡ true
unfolding evaluated
kept_on_the_way = refl

kept_when_done : (e : ParentEntry) → (finish_rule (task_id 1) over over e).task.overflow ≡ true
unfolding evaluated
kept_when_done e = refl

none_with_the_word : (taking (with_state (born_at (processor 2)) Receiving) over.word).overflow ≡ false
unfolding evaluated
none_with_the_word = refl

-- "an unborn task with one is refused by 9"
unborn_marked : unborn_ok (with_overflow unborn true) ≡ false
unfolding evaluated
unborn_marked = refl

-- `over 64`; a rig of three tasks, of which the first and the third are marked: `over 1`, `over 3`
over_line_lem : over_line 64 ≡ 111 ∷ 118 ∷ 101 ∷ 114 ∷ 32 ∷ 54 ∷ 52 ∷ 10 ∷ []
unfolding evaluated
over_line_lem = refl

unfoldable two_of_three : System
two_of_three =
    with_task (with_task (plain 2 ((finish ∷ []) ∷ (finish ∷ []) ∷ (finish ∷ []) ∷ [])) (task_id 3) over) (task_id 1) over

over_lines_lem : over_lines two_of_three ≡ over_line 1 ∷ over_line 3 ∷ []
unfolding evaluated two_of_three
over_lines_lem = refl

-- a run: 65,535 and 1, then a move and a set: the mark is there at the end
unfoldable sum : System
sum = plain 2 ((set 65535 ∷ add 1 ∷ set 7 ∷ finish ∷ []) ∷ [])

marked_at_the_end : (task_at (ruled_steps sum (run 1 ∷ run 1 ∷ move 1 2 ∷ deliver 1 ∷ run 1 ∷ run 1 ∷ [])).system (task_id 1)).overflow ≡ true
unfolding evaluated sum
marked_at_the_end = refl

unmarked_before : (task_at (ruled_steps sum (run 1 ∷ [])).system (task_id 1)).overflow ≡ false
unfolding evaluated sum
unmarked_before = refl
