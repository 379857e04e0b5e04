-- Cases of parents and children: sync, each way of a finish, each way of an ended letter, a parent that moves.
use mathlib.Core.Path.{◌≡◌, refl}
use mathlib.Core.List.{[], ◌∷◌}
use Prim.Native.Nat.{ℕ}
use Rattle.rules.specs.declared.task.Task.{Task}
use Rattle.rules.specs.declared.task.TaskState.TheVariants.{Waiting, Done}
use Rattle.rules.specs.declared.channel.Hint.{Hint}
use Rattle.rules.specs.declared.message.Message.TheVariants.{Terminated, Migration}
use Rattle.rules.specs.declared.rule.Posting.TheVariants.{Nothing, Single}
use Rattle.rules.specs.declared.rule.Finished.{Finished}
use Rattle.rules.specs.declared.rule.Ended.{Ended}
use Rattle.rules.specs.declared.system.ParentEntry.{ParentEntry}
use Rattle.rules.specs.declared.system.System.{System}
use Rattle.rules.specs.Numbers.{task_id}
use Rattle.rules.specs.Hints.{hint, unknown}
use Rattle.rules.specs.Tasks.{born, departed, arrived, advanced, with_child, with_state, without_children}
use Rattle.rules.specs.Networks.{messages}
use Rattle.rules.specs.Systems.{task_at, parent_at, with_parent}
use Rattle.rules.specs.Local.{sync_rule, finish_rule}
use Rattle.rules.specs.Arrivals.{terminated_rule}
use Rattle.rules.specs.Steps.{ruled_steps}
use Rattle.rules.proofs.Scripts.{create, sync, finish, run, deliver, move, start_on}
use Rattle.rules.proofs.Sites.{processor, born_at, small}
use Rattle.rules.proofs.Evaluated.{evaluated}

-- a task at desk 1 with the living child 2, and with 2 and 3
abbrev parent : Task
parent = with_child (born_at (processor 1)) (task_id 2)

abbrev twins : Task
twins = with_child parent (task_id 3)

-- "waits if children live"
sync_waits : sync_rule parent ≡ advanced (with_state parent Waiting)
unfolding evaluated
sync_waits = refl

sync_passes : sync_rule (born_at (processor 1)) ≡ advanced (born_at (processor 1))
unfolding evaluated
sync_passes = refl

-- what a desk keeps for the parent: its pointer, and held children
abbrev keeps : Hint → ℕ → ParentEntry
keeps h s = record { hint = h; held = s }

-- task 2 at desk 1 finishes with its parent there, which waits for it; for another too; does not wait
finish_here : (e : ParentEntry) → finish_rule (task_id 2) (born_at (processor 1)) (with_state parent Waiting) e
    ≡ record { task = advanced (with_state (born_at (processor 1)) Done); parent = born_at (processor 1); entry = e; posting = Nothing }
unfolding evaluated
finish_here e = refl

finish_one : (e : ParentEntry) → (finish_rule (task_id 2) (born_at (processor 1)) (with_state twins Waiting) e).parent ≡ with_state (with_child (born_at (processor 1)) (task_id 3)) Waiting
unfolding evaluated
finish_one e = refl

-- a parent that waits for nobody is ready: its set is empty
finish_waiting : (e : ParentEntry) → (finish_rule (task_id 2) (born_at (processor 1)) (with_state (born_at (processor 1)) Waiting) e).parent ≡ born_at (processor 1)
unfolding evaluated
finish_waiting e = refl

-- task 2 at desk 2 with its own pointer, its parent elsewhere
abbrev child : Hint → Task
child own = born (processor 2) own

abbrev finishes : Hint → ParentEntry → Finished
finishes own e = finish_rule (task_id 2) (child own) parent e

-- it leaves its parent as it is and sends one letter along the pointer h
abbrev sends : Hint → ParentEntry → Hint → Finished
sends own e h = record { task = advanced (with_state (child own) Done); parent = parent; entry = e; posting = Single (Terminated h (task_id 2)) }

-- "along the newer of its own and the desk's pointer": the desk knows nothing; knows less; knows more; "of equals the desk's own stays"
finish_unknown : (s : ℕ) → finishes (hint (processor 1) 1) (keeps unknown s) ≡ sends (hint (processor 1) 1) (keeps unknown s) (hint (processor 1) 1)
unfolding evaluated
finish_unknown s = refl

finish_own : (s : ℕ) → finishes (hint (processor 1) 3) (keeps (hint (processor 3) 2) s) ≡ sends (hint (processor 1) 3) (keeps (hint (processor 3) 2) s) (hint (processor 1) 3)
unfolding evaluated
finish_own s = refl

finish_desks : (s : ℕ) → finishes (hint (processor 1) 3) (keeps (hint (processor 3) 4) s) ≡ sends (hint (processor 1) 3) (keeps (hint (processor 3) 4) s) (hint (processor 3) 4)
unfolding evaluated
finish_desks s = refl

finish_equal : (s : ℕ) → finishes (hint (processor 1) 3) (keeps (hint (processor 3) 3) s) ≡ sends (hint (processor 1) 3) (keeps (hint (processor 3) 3) s) (hint (processor 3) 3)
unfolding evaluated
finish_equal s = refl

-- "Where the newer pointer names the child's desk and the parent isn't there, the child is held.": by the desk's pointer, by its own; beside child 4
finish_held : finishes (hint (processor 1) 3) (keeps (hint (processor 2) 4) 8)
    ≡ record { task = advanced (with_state (child (hint (processor 1) 3)) Done); parent = parent; entry = keeps (hint (processor 2) 4) 10; posting = Nothing }
unfolding evaluated
finish_held = refl

finish_held_own : finishes (hint (processor 2) 3) (keeps (hint (processor 3) 2) 0)
    ≡ record { task = advanced (with_state (child (hint (processor 2) 3)) Done); parent = parent; entry = keeps (hint (processor 3) 2) 2; posting = Nothing }
unfolding evaluated
finish_held_own = refl

-- an older pointer that names the desk does not hold it
finish_not_held : (finishes (hint (processor 2) 3) (keeps (hint (processor 3) 4) 0)).posting ≡ Single (Terminated (hint (processor 3) 4) (task_id 2))
unfolding evaluated
finish_not_held = refl

-- a parent on its way is nowhere
finish_moving : (finish_rule (task_id 2) (born_at (processor 1)) (departed parent) (keeps (hint (processor 2) 2) 0)).posting ≡ Single (Terminated (hint (processor 2) 2) (task_id 2))
unfolding evaluated
finish_moving = refl

-- "Task 1 has no parent."
finish_root : (x p : Task) (e : ParentEntry) → (finish_rule (task_id 1) x p e).posting ≡ Nothing
unfolding evaluated
finish_root x p e = refl

finish_root_kept : (x p : Task) (e : ParentEntry) → (finish_rule (task_id 1) x p e).entry ≡ e
unfolding evaluated
finish_root_kept x p e = refl

-- an ended letter for child 2 with count 3 at desk 1, where the parent waits; at desk 2; the child is not in the set
ended_taken : (e : ParentEntry) → terminated_rule (with_state parent Waiting) e (hint (processor 1) 3) (task_id 2) ≡ record { parent = born_at (processor 1); entry = e; posting = Nothing }
unfolding evaluated
ended_taken e = refl

ended_idle : (h : Hint) (e : ParentEntry) → terminated_rule (with_state (born_at (processor 1)) Waiting) e h (task_id 2)
    ≡ record { parent = with_state (born_at (processor 1)) Waiting; entry = e; posting = Nothing }
unfolding evaluated
ended_idle h e = refl

abbrev ends : ParentEntry → Ended
ends e = terminated_rule parent e (hint (processor 2) 3) (task_id 2)

-- "if d's pointer names another desk with a larger count than the letter's, forwarded there with that count"
ended_forwarded : (s : ℕ) → ends (keeps (hint (processor 3) 4) s)
    ≡ record { parent = parent; entry = keeps (hint (processor 3) 4) s; posting = Single (Terminated (hint (processor 3) 4) (task_id 2)) }
unfolding evaluated
ended_forwarded s = refl

-- "else held at d": a count that is no larger; the desk itself; no pointer
ended_held : ends (keeps (hint (processor 3) 3) 8) ≡ record { parent = parent; entry = keeps (hint (processor 3) 3) 10; posting = Nothing }
unfolding evaluated
ended_held = refl

ended_held_here : ends (keeps (hint (processor 2) 4) 0) ≡ record { parent = parent; entry = keeps (hint (processor 2) 4) 2; posting = Nothing }
unfolding evaluated
ended_held_here = refl

ended_held_unknown : ends (keeps unknown 0) ≡ record { parent = parent; entry = keeps unknown 2; posting = Nothing }
unfolding evaluated
ended_held_unknown = refl

-- "when the parent arrives there, all of them leave its set": 2 and 4 are held, 3 lives
arrival_takes : without_children (arrived (departed (with_child twins (task_id 4))) (processor 2)) 10
    ≡ with_child (arrived (departed (born_at (processor 1))) (processor 2)) (task_id 3)
unfolding evaluated
arrival_takes = refl

-- a held child that is not in the set changes nothing; the last of 64 is looked at
arrival_other : without_children twins 8 ≡ twins
unfolding evaluated
arrival_other = refl

arrival_last : without_children (with_child twins (task_id 64)) 9223372036854775808 ≡ twins
unfolding evaluated
arrival_last = refl

-- on three desks, task 1 has the children 2, 3 and 4
abbrev moving : System
moving = start_on 3 ((create 2 ∷ create 3 ∷ create 4 ∷ sync ∷ finish ∷ []) ∷ (finish ∷ []) ∷ (finish ∷ []) ∷ (finish ∷ []) ∷ [])

-- "set at birth, arrival and departure"
start_parent : parent_at moving (processor 1) (task_id 1) ≡ keeps (hint (processor 1) 1) 0
unfolding evaluated
start_parent = refl

-- "A ready task with living children may now move": task 1 creates 2, moves to desk 2, creates 3 there and goes on to desk 3
abbrev gone : System
gone = (ruled_steps moving (run 1 ∷ move 1 2 ∷ deliver 1 ∷ run 1 ∷ move 1 3 ∷ [])).system

gone_task : (task_at gone (task_id 1)).moves ≡ 3
unfolding evaluated
gone_task = refl

gone_children : (task_at gone (task_id 1)).children ≡ 6
unfolding evaluated
gone_children = refl

-- the children's own pointers; a birth sets the desk's for the child too
gone_own : (task_at gone (task_id 2)).origin ≡ hint (processor 1) 1
unfolding evaluated
gone_own = refl

gone_own_later : (task_at gone (task_id 3)).origin ≡ hint (processor 2) 2
unfolding evaluated
gone_own_later = refl

gone_birth : parent_at gone (processor 2) (task_id 3) ≡ keeps (hint (processor 2) 1) 0
unfolding evaluated
gone_birth = refl

gone_left : parent_at gone (processor 1) (task_id 1) ≡ keeps (hint (processor 2) 2) 0
unfolding evaluated
gone_left = refl

gone_left_again : parent_at gone (processor 2) (task_id 1) ≡ keeps (hint (processor 3) 3) 0
unfolding evaluated
gone_left_again = refl

gone_coming : parent_at gone (processor 3) (task_id 1) ≡ keeps unknown 0
unfolding evaluated
gone_coming = refl

-- task 2 ends at desk 1: its letter goes to desk 2, on to desk 3, and is held there; task 3's too; then task 1 arrives
abbrev chased : System
chased = (ruled_steps gone (run 2 ∷ [])).system

chased_letter : messages chased.network ≡ Migration (processor 3) (task_id 1) ∷ Terminated (hint (processor 2) 2) (task_id 2) ∷ []
unfolding evaluated
chased_letter = refl

chased_further : messages (ruled_steps chased (deliver 2 ∷ [])).system.network ≡ Migration (processor 3) (task_id 1) ∷ Terminated (hint (processor 3) 3) (task_id 2) ∷ []
unfolding evaluated
chased_further = refl

chased_on : parent_at (ruled_steps chased (deliver 2 ∷ deliver 2 ∷ run 3 ∷ deliver 2 ∷ [])).system (processor 3) (task_id 1) ≡ keeps unknown 6
unfolding evaluated
chased_on = refl

chased_home : (task_at (ruled_steps chased (deliver 2 ∷ deliver 2 ∷ run 3 ∷ deliver 2 ∷ deliver 1 ∷ [])).system (task_id 1)).children ≡ 0
unfolding evaluated
chased_home = refl

chased_entry : parent_at (ruled_steps chased (deliver 2 ∷ deliver 2 ∷ run 3 ∷ deliver 2 ∷ deliver 1 ∷ [])).system (processor 3) (task_id 1) ≡ keeps (hint (processor 3) 3) 0
unfolding evaluated
chased_entry = refl

-- every field of an entry is read as it was written; the last of desk 1 and the first of desk 2 are two
parent_read : parent_at (with_parent small (processor 2) (task_id 3) (keeps (hint (processor 1) 11) 12)) (processor 2) (task_id 3) ≡ keeps (hint (processor 1) 11) 12
unfolding evaluated small
parent_read = refl

parents_apart : parent_at (with_parent small (processor 1) (task_id 64) (keeps (hint (processor 1) 11) 12)) (processor 2) (task_id 1) ≡ keeps unknown 0
unfolding evaluated small
parents_apart = refl
