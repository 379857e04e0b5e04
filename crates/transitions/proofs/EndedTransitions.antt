-- The delivery of an ended letter is an ended act: the child is in its parent's set, and the parent is there, the letter is forwarded, or the child
-- is held.
use mathlib.Core.Path.{◌≡◌, refl, sym, ap, ◌∙◌}
use mathlib.Core.Bool.{true, Bool, false, not}
use mathlib.Core.Logic.{◌≢◌, ◌⊎◌, inl, inr}
use mathlib.Core.List.Memᴰ
use mathlib.Core.List.{List, ◌++◌}
use mathlib.Core.Option.{some}
use Prim.Native.Nat.{ℕ, ◌-◌, ◌≤◌, ◌+◌}
use native.Mathlib.Omega.{arith}
use lib.ListN.{length, get_elem?}
use borrow.Author.Tests.{eqb-true, eqb-false, ltb-true, ltb-false}
use Rattle.std.specs.Prelude.{None}
use Rattle.base.specs.Choice.{within}
use Rattle.base.specs.Sets.{member}
use Rattle.base.proofs.Tests.{and_right, is_true, and_left, within_low, within_high}
use Rattle.plan.specs.declared.TaskId.{TaskId}
use Rattle.plan.specs.declared.ProcessorId.{ProcessorId}
use Rattle.plan.specs.declared.ChannelId.{ChannelId}
use Rattle.plan.specs.declared.Word.{Word}
use Rattle.plan.specs.Numbers.{task_id}
use Rattle.plan.specs.Users.{parent_of}
use Rattle.plan.proofs.Parts.{tasks_of_lem}
use Rattle.rules.specs.declared.task.TaskState.TheVariants.{Unborn, Done}
use Rattle.rules.specs.declared.task.Task.{Task}
use Rattle.rules.specs.declared.message.Message.TheVariants.{Terminated}
use Rattle.rules.specs.declared.system.System.{System}
use Rattle.rules.specs.Numbers.{processor_ok, task_number_ok, same_processor}
use Rattle.rules.specs.Tasks.{is_in, is_at, without_child}
use Rattle.rules.specs.Networks.{message_at, messages_of}
use Rattle.rules.specs.Systems.{task_at, with_task, meaning, parent_at, with_parent}
use Rattle.rules.specs.Arrivals.{terminated_rule}
use Rattle.rules.specs.Effects.{completed, changed, changed_posting}
use Rattle.rules.specs.Deliver.{got_terminated, opened, delivered}
use Rattle.rules.specs.Sound.{message_ok, system_ok, moves_ok, known_ok}
use Rattle.rules_laws.specs.Shapes.{Shaped}
use Rattle.net.specs.States.{Net}
use Rattle.channel.specs.Bags.{In, without, one}
use Rattle.channel.proofs.Bags.{in_at, length_without}
use Rattle.transitions.specs.Readings.{Reading, reading, with_task_read, with_messages_read, with_parent_read}
use Rattle.transitions.specs.Progress.{program_of}
use Rattle.transitions.specs.Messages.{message_on, ended_to, ended_of}
use Rattle.transitions.specs.Views.{Histories}
use Rattle.transitions.specs.Transitions.{EndedTransition, Unseen, Ending, taken, onward, holds}
use Rattle.transitions.specs.Family.{Child}
use Rattle.transitions.specs.Agreement.{Running}
use Rattle.transitions.proofs.Flats.{flat_without, Sorted, flat_place, own_ended, flat_post_nothing}
use Rattle.transitions.proofs.Parents.{child_number, parent_number}
use Rattle.transitions.proofs.Tasks.{state_is}
use Rattle.transitions.proofs.Unseen.{alike_without, alike_at, unseen_of, SeenAlike, alike_same}
use Rattle.transitions.proofs.Frames.{read_task, read_dequeued, IsTask, parent_there, read_parent_lem, read_completed}
use Rattle.transitions.proofs.Rigs.{network_few, parent_is_task, message_ok_lem, message_at_lem, emptied, emptied_shaped, plan_accepted, processors_few}
use Rattle.transitions.proofs.Runs.{completed_changed}
use Rattle.plan_laws.proofs.Answers.{and_parts}
use Rattle.rules.specs.declared.channel.Hint.{Hint}
use Rattle.rules.specs.declared.message.Message.{Message}
use Rattle.rules.specs.declared.rule.Posting.TheVariants.{Single}
use Rattle.rules.specs.declared.rule.Ended.{Ended}
use Rattle.rules.specs.Hints.{points_on}
use Rattle.rules.specs.Local.{holding_child}
use Rattle.rules_laws.proofs.TaskAt.{with_task_task_at}
use Rattle.rules_laws.proofs.ParentAt.{with_task_parent_at, with_parent_parent_at}
use Rattle.rules_laws.proofs.Messages.{dequeued_used}
use Rattle.channel.specs.Hints.{Coming}
use Rattle.channel.proofs.Hints.{held_coming}

module _ (r : System) (shaped : Shaped r) (ok : system_ok r ≡ true) (h : Histories) {s : Net} {w : ChannelId → List Word}
    (run : Running (meaning r) h s (reading r) w) (p : ℕ) (low : 1 ≤ p) (high : p ≤ r.network.used) (along : Hint) (t : TaskId)
    (message : message_at r.network p ≡ Terminated along t) where
  abbrev v : TaskId
  v = parent_of (meaning r) t

  abbrev parent : Task
  parent = task_at r v

  abbrev d : ProcessorId
  d = along.processor

  -- the mail without the letter
  abbrev q : System
  q = emptied r shaped ok p low high

  abbrev rest : List Message
  rest = without (reading r).messages (p - 1)

  here : get_elem? (reading r).messages (p - 1) ≡ some (Terminated along t)
  here = message_at_lem r shaped ok p low high (Terminated along t) message

  -- it is one of the ended letters of its task
  ended : Sorted (ended_to t) (reading r).messages (p - 1) along
  ended = flat_place (ended_to t) (reading r).messages (p - 1) along here (own_ended t along)

  there : In along (ended_of t (reading r).messages)
  there = in_at (ended_of t (reading r).messages) ended.place ended.at

  -- no ended letter names task 1
  not_first : t.0 ≢ 1
  not_first e = let first : t ≡ task_id 1 = ap task_id e in Memᴰ.not-nil (rw (first, run.root) at there)

  fine : (known_ok r.processors along ≡ true) × (task_number_ok r.plan.tasks t ≡ true)
  unfolding message_ok
  fine = and_parts (known_ok r.processors along) (task_number_ok r.plan.tasks t) (message_ok_lem r shaped ok p low high (Terminated along t) message)

  number : within 2 (length (meaning r)) t.0 ≡ true
  number = child_number (length (meaning r)) t.0 (rw (tasks_of_lem r.plan) fine.1) not_first

  -- it goes to a desk of the rig
  at : (1 ≤ d.0) × (d.0 ≤ 6)
  at =
      let n = r.processors in
      let k = and_left (processor_ok n d) (moves_ok along.moves) fine.0 in
      (within_low 1 n d.0 k, omega (arith, within_high 1 n d.0 k, processors_few r shaped ok))

  is : IsTask v
  is = parent_is_task r shaped ok t number

  -- what holds of a child: here it is done and in its parent's set
  child : Child t (h v) parent (task_at r t) ((reading r).parents v) (ended_of t (reading r).messages)
  unfolding reading
  child = run.children t number

  pub living : member t.0 parent.children ≡ true
  living =
      let x = task_at r t in
      let some = length_without (ended_of t (reading r).messages) ended.place ended.at in
      let later = child.later in
      let sum = child.living in
      let done : is_in Done x ≡ true = is_true (is_in Done x) (λ e. let z = rw e at later in omega arith) in
      let born = state_is Done Unborn x done in
      is_true (member t.0 parent.children) (λ e. let z = rw (e, done, born) at sum in omega arith)

  -- the desk's pointer, and what it says of where the parent is
  abbrev pointer : Hint
  pointer = ((reading r).parents v d.0).hint

  entry_there : parent_at q d v ≡ (reading r).parents v d.0
  unfolding reading parent_at
  entry_there = sym (parent_there r v d.0 is at.0)

  coming : is_at d parent ≡ false → points_on pointer along d ≡ false → Coming parent.processor.0 parent.moves d.0 (h v parent.moves)
  unfolding reading
  coming away none =
      let place = run.places v (parent_number (meaning r) (plan_accepted r shaped ok) t number) in
      held_coming place.table (child.way along there) (not_newer pointer none) (eqb-false parent.processor.0 d.0 away)
    where
      not_newer : (o : Hint) → points_on o along d ≡ false → (o.processor.0 ≡ d.0) ⊎ (o.moves ≤ along.moves)
      not_newer o e = go (same_processor o.processor d) refl
        where
          go : (b : Bool) → same_processor o.processor d ≡ b → (o.processor.0 ≡ d.0) ⊎ (o.moves ≤ along.moves)
          go true f = inl (eqb-true o.processor.0 d.0 f)
          go false f =
              let l = rw f at e in
              inr (omega (arith, ltb-false along.moves o.moves l))

  -- what it does, by where the parent is and what the desk's pointer says
  abbrev outcome : Ended
  outcome = terminated_rule parent ((reading r).parents v d.0) along t

  effect : delivered r p ≡ changed_posting (with_parent (with_task q v outcome.parent) d v outcome.entry) outcome.posting
  unfolding delivered opened got_terminated
  effect = rw (message, entry_there) refl

  pub ended_received : (delivered r p).received ≡ None
  ended_received = rw effect refl

  -- what the desk keeps for the parent is written as it was read
  entry_kept : (x : Task) → with_parent (with_task q v x) d v ((reading r).parents v d.0) ≡ with_task q v x
  entry_kept x =
      let o = with_task q v x in
      let same : (reading r).parents v d.0 ≡ parent_at o d v = sym (with_task_parent_at q v x d v ∙ entry_there) in
      ap (with_parent o d v) same ∙ with_parent_parent_at o d v

  read_rest : reading q ≡ with_messages_read (reading r) rest
  read_rest = read_dequeued r shaped p low high (network_few r shaped ok)

  q_shaped : Shaped q
  q_shaped = emptied_shaped r shaped ok p low high

  transitions : (y : Reading) → reading (completed (delivered r p)) ≡ y → Ending (meaning r) h (reading r) y (p - 1) along t
      → Unseen (meaning r) h (reading r) y → EndedTransition (meaning r) h (reading r) (reading (completed (delivered r p)))
  unfolding reading
  transitions y e f u =
      rw e (record { p = p - 1; along = along; task = t; message = here; number = number; living = living; ending = f; unseen = u })

  -- the parent is there and loses the child
  taken_transition : is_at d parent ≡ true → EndedTransition (meaning r) h (reading r) (reading (completed (delivered r p)))
  unfolding reading message_on terminated_rule
  taken_transition there =
      let m = meaning r in
      let fewer = without_child parent t in
      let y = with_task_read (with_messages_read (reading r) rest) v fewer in
      let left : delivered r p ≡ changed (with_task q v fewer) = effect ∙ rw (living, there, entry_kept fewer) refl in
      let read : reading (completed (delivered r p)) ≡ y =
      rw (left, completed_changed (with_task q v fewer))
      (read_task q q_shaped v fewer is ∙ ap (λ (x : Reading). with_task_read x v fewer) read_rest) in
      transitions y read (taken refl refl refl)
      (unseen_of m h (reading r) y refl refl refl (λ c. flat_without (message_on c) (reading r).messages (p - 1) here refl)
      (alike_at m (task_at r) v fewer (alike_without (program_of m v) parent (run.agrees v).sync t)))

  module _ (away : is_at d parent ≡ false) where
    -- no task changes
    alike : (u : TaskId) → SeenAlike (program_of (meaning r) u) (task_at r u) (task_at r u)
    alike u = alike_same (program_of (meaning r) u) (task_at r u)

    -- the letter is forwarded
    onward_transition : points_on pointer along d ≡ true → EndedTransition (meaning r) h (reading r) (reading (completed (delivered r p)))
    unfolding reading message_on messages_of terminated_rule
    onward_transition on =
        let m = meaning r in
        let letter = Terminated pointer t in
        let y = with_messages_read (reading r) (rest ++ one letter) in
        let left : delivered r p ≡ changed_posting q (Single letter) =
        effect ∙ rw (living, away, on, entry_kept parent, with_task_task_at q v) refl in
        let room : q.network.used + 1 ≤ 256 = omega (arith, dequeued_used r.network p, network_few r shaped ok) in
        let read : reading (completed (delivered r p)) ≡ y =
        rw left
        (read_completed (changed_posting q (Single letter)) q_shaped room
        ∙ ap (λ (x : Reading). with_messages_read x (x.messages ++ one letter)) read_rest) in
        let more = ltb-true along.moves pointer.moves (and_right (not (same_processor pointer.processor d)) _ on) in
        transitions y read (onward more refl refl refl)
        (unseen_of m h (reading r) y refl refl refl
        (λ c. flat_post_nothing (message_on c) rest letter refl ∙ flat_without (message_on c) (reading r).messages (p - 1) here refl) alike)

    -- the child is held
    holds_transition : points_on pointer along d ≡ false → EndedTransition (meaning r) h (reading r) (reading (completed (delivered r p)))
    unfolding reading message_on terminated_rule
    holds_transition none =
        let m = meaning r in
        let entry = holding_child ((reading r).parents v d.0) t in
        let y = with_parent_read (with_messages_read (reading r) rest) v d.0 entry in
        let left : delivered r p ≡ changed (with_parent q d v entry) = effect ∙ rw (living, away, none, with_task_task_at q v) refl in
        let read : reading (completed (delivered r p)) ≡ y =
        rw (left, completed_changed (with_parent q d v entry))
        (read_parent_lem q q_shaped d v entry is at.0 at.1 ∙ ap (λ (x : Reading). with_parent_read x v d.0 entry) read_rest) in
        transitions y read (holds (coming away none) refl refl refl)
        (unseen_of m h (reading r) y refl refl refl (λ c. flat_without (message_on c) (reading r).messages (p - 1) here refl) alike)

  pub ended_transition : EndedTransition (meaning r) h (reading r) (reading (completed (delivered r p)))
  ended_transition = go (is_at d parent) (points_on pointer along d) refl refl
    where
      go : (b c : Bool) → is_at d parent ≡ b → points_on pointer along d ≡ c → EndedTransition (meaning r) h (reading r) (reading (completed (delivered r p)))
      go true c e f = taken_transition e
      go false true e f = onward_transition e f
      go false false e f = holds_transition e f
