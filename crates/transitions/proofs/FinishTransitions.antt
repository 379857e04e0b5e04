-- An accepted run of a finish is a finish act.
use mathlib.Core.Path.{◌≡◌, refl, ap, ◌∙◌, sym}
use mathlib.Core.Bool.{Bool, true, false, not}
use mathlib.Core.Logic.{◌≢◌}
use mathlib.Core.List.{List, ◌++◌}
use Prim.Native.Nat.{◌+◌, ◌≤◌}
use lib.ListN.{length}
use borrow.Author.Tests.{eqb-true, eqb-false, not-false, ne_eqb}
use Rattle.std.specs.Prelude.{None, Ok}
use Rattle.base.specs.Choice.{within}
use Rattle.base.proofs.Tests.{second_fails}
use Rattle.plan.specs.declared.TaskId.{TaskId}
use Rattle.plan.specs.declared.ChannelId.{ChannelId}
use Rattle.plan.specs.declared.Word.{Word}
use Rattle.plan.specs.Numbers.{task_id, same_task}
use Rattle.plan.specs.Kinds.{op_finish, is_finish}
use Rattle.plan.specs.Users.{parent_of}
use Rattle.rules.specs.declared.task.Task.{Task}
use Rattle.rules.specs.declared.message.Message.TheVariants.{Terminated}
use Rattle.rules.specs.declared.rule.Posting.TheVariants.{Single}
use Rattle.rules.specs.declared.system.System.{System}
use Rattle.rules.specs.Tasks.{is_at, is_childless, without_child, is_in}
use Rattle.rules.specs.Networks.{messages_of}
use Rattle.rules.specs.Systems.{task_at, with_task, meaning, parent_at, with_parent}
use Rattle.rules.specs.Effects.{completed, changed, changed_posting}
use Rattle.rules.specs.Local.{finish_rule}
use Rattle.rules.specs.Runs.{ran_finish, executed, next_of, ran, run_answer}
use Rattle.rules.specs.Sound.{system_ok}
use Rattle.rules_laws.specs.Shapes.{Shaped}
use Rattle.rules_laws.proofs.TaskAt.{with_task_task_at, with_task_network, with_task_shaped, with_task_parents}
use Rattle.rules_sound.proofs.Answers.{run_passed}
use Rattle.net.specs.States.{Net, at_task}
use Rattle.channel.specs.Bags.{one}
use Rattle.transitions.specs.Readings.{Reading, reading, with_task_read, with_messages_read}
use Rattle.transitions.specs.Progress.{program_of}
use Rattle.transitions.specs.Messages.{message_on, movers_of}
use Rattle.transitions.specs.Views.{Histories}
use Rattle.transitions.specs.Transitions.{Unseen, finished, Finishing, alone, near, away, FinishTransition}
use Rattle.transitions.specs.Agreement.{Running}
use Rattle.transitions.proofs.Updates.{at_other}
use Rattle.transitions.proofs.Flats.{flat_post_nothing}
use Rattle.transitions.proofs.Parents.{child_number, parent_other, parent_number}
use Rattle.transitions.proofs.Unseen.{SeenAlike, alike_then, alike_done, alike_without, alike_at, unseen_of}
use Rattle.transitions.proofs.Frames.{read_task, read_completed, parent_there}
use Rattle.transitions.proofs.Rigs.{parent_is_task, plan_accepted}
use Rattle.transitions.proofs.Runs.{completed_changed, run_is_task, run_fits, runs_of, run_settled}
use Rattle.rules.specs.declared.channel.Hint.{Hint}
use Rattle.rules.specs.declared.task.TaskState.TheVariants.{Unborn, Ready}
use Rattle.rules.specs.Numbers.{same_processor}
use Rattle.rules.specs.Hints.{newer}
use Rattle.plan.specs.declared.ProcessorId.{ProcessorId}
use Rattle.rules_laws.proofs.ParentAt.{with_task_parent_at, with_parent_parent_at}
use Rattle.channel.specs.Hints.{Way}
use Rattle.transitions.specs.Family.{Placed}
use Rattle.transitions.proofs.Ways.{finish_way, finish_other}
use Rattle.transitions.proofs.Tasks.{state_is}

module _ (r : System) (shaped : Shaped r) (ok : system_ok r ≡ true) (h : Histories) {s : Net} {w : ChannelId → List Word}
    (run : Running (meaning r) h s (reading r) w) (t : TaskId) (a : run_answer r t ≡ Ok tt) (kind : (next_of r t).opcode ≡ op_finish) where
  abbrev own : Task
  own = task_at r t

  abbrev p : TaskId
  p = parent_of (meaning r) t

  abbrev parent : Task
  parent = task_at r p

  abbrev d : ProcessorId
  d = own.processor

  effect : ran r t ≡ ran_finish r t
  unfolding ran executed
  effect = rw kind refl

  pub finish_received : (ran r t).received ≡ None
  unfolding ran_finish
  finish_received = rw effect refl

  -- it is accepted, so that it has no children
  childless : is_childless own ≡ true
  childless =
      let late : not (is_childless own) ≡ false =
      second_fails (is_finish (next_of r t)) (not (is_childless own)) (run_passed r t a).timely (rw kind refl) in
      not-false (is_childless own) late

  -- no channel sees the end of the task, nor that its parent loses it
  alike_end : SeenAlike (program_of (meaning r) t) own (finished own)
  unfolding reading
  alike_end =
      let runs = runs_of r shaped ok t a in
      alike_done (program_of (meaning r) t) own runs.ready runs.low (rw kind refl)

  alike_parent : SeenAlike (program_of (meaning r) p) parent (without_child parent t)
  unfolding reading
  alike_parent = alike_without (program_of (meaning r) p) parent (run.agrees p).sync t

  -- the act that is asked for
  abbrev Asked : Type 0
  Asked = FinishTransition (meaning r) h (reading r) (reading (completed (ran r t)))

  transitions : (y : Reading) → reading (completed (ran r t)) ≡ y → y.parents ≡ (reading r).parents → Finishing (meaning r) h (reading r) y t
      → Unseen (meaning r) h (reading r) y → Asked
  unfolding reading
  transitions y e k f u =
      rw e
      (record {
        task = t;
        instruction = next_of r t;
        runs = runs_of r shaped ok t a;
        finishes = rw kind refl;
        childless = childless;
        finishing = f;
        parents = k;
        unseen = u;
      })

  -- what the desk keeps for the parent is written as it was read
  entry_kept : (x y : Task) → with_parent (with_task (with_task r p x) t y) d p (parent_at r d p) ≡ with_task (with_task r p x) t y
  entry_kept x y =
      let q = with_task (with_task r p x) t y in
      let same : parent_at q d p ≡ parent_at r d p = with_task_parent_at (with_task r p x) t y d p ∙ with_task_parent_at r p x d p in
      ap (with_parent q d p) (sym same) ∙ with_parent_parent_at q d p

  -- task 1
  alone_left : same_task t (task_id 1) ≡ true → ran r t ≡ changed (with_task r t (finished own))
  unfolding ran_finish finish_rule
  alone_left e = rw (effect, e, entry_kept parent (finished own), with_task_task_at r p) refl

  alone_transition : same_task t (task_id 1) ≡ true → Asked
  unfolding reading
  alone_transition e =
      let q = with_task r t (finished own) in
      let y = with_task_read (reading r) t (finished own) in
      let left = alone_left e in
      let read : reading (completed (ran r t)) ≡ y =
      rw (left, completed_changed q) (read_task r shaped t (finished own) (run_is_task r shaped ok t a)) in
      transitions y read refl (alone (ap task_id (eqb-true t.0 1 e)) refl refl)
      (unseen_of (meaning r) h (reading r) y refl refl refl (λ c. refl) (alike_at (meaning r) (task_at r) t (finished own) alike_end))

  -- a task with a parent
  module _ (e : same_task t (task_id 1) ≡ false) where
    number : within 2 (length (meaning r)) t.0 ≡ true
    number = child_number (length (meaning r)) t.0 (runs_of r shaped ok t a).number (eqb-false t.0 1 e)

    -- at its parent's desk
    near_left : is_at d parent ≡ true → ran r t ≡ changed (with_task (with_task r p (without_child parent t)) t (finished own))
    unfolding ran_finish finish_rule
    near_left f = rw (effect, e, f, entry_kept (without_child parent t) (finished own)) refl

    near_transition : is_at d parent ≡ true → Asked
    unfolding reading
    near_transition f =
        let m = meaning r in
        let is = parent_is_task r shaped ok t number in
        let other : t.0 ≢ p.0 = λ z. parent_other m (plan_accepted r shaped ok) t number (sym z) in
        let fewer = without_child parent t in
        let q = with_task r p fewer in
        let tasks = at_task (task_at r) p fewer in
        let y = with_task_read (with_task_read (reading r) p fewer) t (finished own) in
        let left = near_left f in
        let read : reading (completed (ran r t)) ≡ y =
        rw (left, completed_changed (with_task q t (finished own)))
        (read_task q (with_task_shaped r p fewer shaped) t (finished own) (run_is_task r shaped ok t a)
        ∙ ap (λ (x : Reading). with_task_read x t (finished own)) (read_task r shaped p fewer is)) in
        let end : SeenAlike (program_of m t) (tasks t) (finished own) = rw (at_other (task_at r) p t fewer other) alike_end in
        transitions y read refl (near (eqb-false t.0 1 e) refl refl)
        (unseen_of m h (reading r) y refl refl refl (λ c. refl)
        (λ u.
        alike_then (program_of m u) (task_at r u) (tasks u) (at_task tasks t (finished own) u) (alike_at m (task_at r) p fewer alike_parent u)
        (alike_at m tasks t (finished own) end u)))

    -- elsewhere: the letter goes along the newer pointer
    unfoldable along : Hint
    along = newer (parent_at r d p).hint own.origin

    entry_there : (reading r).parents p d.0 ≡ parent_at r d p
    unfolding reading
    entry_there = parent_there r p d.0 (parent_is_task r shaped ok t number) (run_settled r shaped ok t a).processor

    born : is_in Unborn ((reading r).tasks t) ≡ false
    unfolding reading
    born = state_is Ready Unborn own (runs_of r shaped ok t a).ready

    placed : Placed (reading r).processors (h p) ((reading r).tasks p) ((reading r).parents p) (movers_of p (reading r).messages)
    placed = run.places p (parent_number (meaning r) (plan_accepted r shaped ok) t number)

    along_way : Way (h p) ((reading r).tasks p).moves along.processor.0 along.moves
    unfolding along reading
    along_way = rw entry_there at (finish_way placed (run.children t number) born d.0)

    -- so the child is not held there
    along_other : is_at d parent ≡ false → same_processor along.processor d ≡ false
    unfolding along reading
    along_other f =
        let other = finish_other placed (run.children t number) born d.0 (run_settled r shaped ok t a).processor (eqb-false parent.processor.0 d.0 f) in
        ne_eqb along.processor.0 d.0 (rw entry_there at other)

    away_left : is_at d parent ≡ false → ran r t ≡ changed_posting (with_task r t (finished own)) (Single (Terminated along t))
    unfolding ran_finish finish_rule along
    away_left f = rw (effect, e, f, along_other f, entry_kept parent (finished own), with_task_task_at r p) refl

    away_transition : is_at d parent ≡ false → Asked
    unfolding messages_of message_on reading
    away_transition f =
        let message = Terminated along t in
        let q = with_task r t (finished own) in
        let y = with_messages_read (with_task_read (reading r) t (finished own)) ((reading r).messages ++ one message) in
        let left = away_left f in
        let room : q.network.used + 1 ≤ 256 = rw (with_task_network r t (finished own)) (rw left at (run_fits r shaped ok t a)) in
        let read : reading (completed (ran r t)) ≡ y =
        rw left
        (read_completed (changed_posting q (Single message)) (with_task_shaped r t (finished own) shaped) room
        ∙ ap (λ (x : Reading). with_messages_read x (x.messages ++ one message)) (read_task r shaped t (finished own) (run_is_task r shaped ok t a))) in
        transitions y read refl (away along (eqb-false t.0 1 e) along_way refl refl)
        (unseen_of (meaning r) h (reading r) y refl refl refl (λ c. flat_post_nothing (message_on c) (reading r).messages message refl)
        (alike_at (meaning r) (task_at r) t (finished own) alike_end))

  -- by where the parent is
  pub finish_transition : FinishTransition (meaning r) h (reading r) (reading (completed (ran r t)))
  finish_transition = go (same_task t (task_id 1)) (is_at d parent) refl refl
    where
      go : (b c : Bool) → same_task t (task_id 1) ≡ b → is_at d parent ≡ c → Asked
      go true c e f = alone_transition e
      go false true e f = near_transition e f
      go false false e f = away_transition e f

  -- nothing is kept otherwise for parents: no child is held at its finish
  pub finish_parents : (ran r t).system.parents ≡ r.parents
  finish_parents = go (same_task t (task_id 1)) (is_at d parent) refl refl
    where
      go : (b c : Bool) → same_task t (task_id 1) ≡ b → is_at d parent ≡ c → (ran r t).system.parents ≡ r.parents
      go true c e f = rw (alone_left e) (with_task_parents r t (finished own))
      go false true e f =
          rw (near_left e f) (with_task_parents (with_task r p (without_child parent t)) t (finished own) ∙ with_task_parents r p (without_child parent t))
      go false false e f = rw (away_left e f) (with_task_parents r t (finished own))
