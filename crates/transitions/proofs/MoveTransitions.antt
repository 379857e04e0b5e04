-- An accepted move is a move of the rig that is read.
use mathlib.Core.Path.{◌≡◌, refl, ◌∙◌, sym}
use mathlib.Core.Bool.{true}
use mathlib.Core.List.{List, ◌++◌}
use Prim.Native.Nat.{ℕ, suc, ◌+◌, ◌≤◌}
use native.Mathlib.Numerals.{add-one}
use native.Mathlib.Omega.{arith}
use lib.ListN.{length}
use borrow.Author.Tests.{leb-true, eqb-false}
use Rattle.std.specs.Prelude.{None, Ok}
use Rattle.base.specs.Choice.{within}
use Rattle.base.proofs.Tests.{within_low, within_high}
use Rattle.plan.specs.declared.TaskId.{TaskId}
use Rattle.plan.specs.declared.ProcessorId.{ProcessorId}
use Rattle.plan.specs.declared.ChannelId.{ChannelId}
use Rattle.plan.specs.declared.Word.{Word}
use Rattle.plan.specs.Programs.{Program, Programs}
use Rattle.plan.specs.Refusals.{plan_answer}
use Rattle.plan.proofs.Parts.{tasks_of_lem}
use Rattle.rules.specs.declared.task.TaskState.TheVariants.{Ready}
use Rattle.rules.specs.declared.task.Task.{Task}
use Rattle.rules.specs.declared.channel.Entry.{Entry}
use Rattle.rules.specs.declared.channel.Channel.{Channel}
use Rattle.rules.specs.declared.channel.Cell.{Cell}
use Rattle.rules.specs.declared.message.Message.TheVariants.{Migration}
use Rattle.rules.specs.declared.system.System.{System}
use Rattle.rules.specs.Tasks.{is_in, departed}
use Rattle.rules.specs.Networks.{messages_of}
use Rattle.rules.specs.Systems.{task_at, meaning, parent_at, with_task}
use Rattle.rules.specs.Effects.{completed}
use Rattle.rules.specs.Starts.{located, pointing}
use Rattle.rules.specs.Runs.{fits}
use Rattle.rules.specs.Moves.{departure_sending, moved, move_answer}
use Rattle.rules.specs.Sound.{task_ok, system_ok}
use Rattle.rules_laws.specs.Shapes.{Shaped}
use Rattle.rules_laws.proofs.Changes.{written, moved_keeps}
use Rattle.rules_laws.proofs.Shapes.{shaped_kept}
use Rattle.rules_sound.proofs.Answers.{move_passed}
use Rattle.rules_sound.proofs.Settled.{settled}
use Rattle.net.specs.States.{Net}
use Rattle.channel.specs.Bags.{one}
use Rattle.channel.specs.Updates.{at_number}
use Rattle.channel.specs.Messages.{ChannelMessage}
use Rattle.channel.specs.Views.{Sender, Receiver}
use Rattle.channel.specs.Events.{place_guard, placed}
use Rattle.transitions.specs.Readings.{Reading, reading, with_messages_read, parent_entry_of}
use Rattle.transitions.specs.Progress.{program_of}
use Rattle.transitions.specs.Messages.{message_on}
use Rattle.transitions.specs.Views.{Histories, sender_view, receiver_view, tables_view, state_view, view_of}
use Rattle.transitions.specs.Transitions.{Departing, none, sender_departure, receiver_departure, sent_to, MoveTransition}
use Rattle.transitions.specs.Agreement.{Running}
use Rattle.transitions.proofs.Updates.{at_task_lem, at_other}
use Rattle.transitions.proofs.Flats.{flat_post_nothing}
use Rattle.transitions.proofs.Tasks.{blocked_in}
use Rattle.transitions.proofs.EndSteps.{sender_ready, receiver_ready}
use Rattle.transitions.proofs.Frames.{read_completed, parent_there}
use Rattle.transitions.proofs.Rigs.{plan_accepted, is_task}
use Rattle.transitions.proofs.Outcomes.{tables_hint, tables_same}
use Rattle.transitions.proofs.PlaceViews.{sender_elsewhere, receiver_elsewhere, view_by, placed_read, place_cases, read_placed, placed_network}
use Rattle.rules.specs.Hints.{hint}
use mathlib.Core.Logic.{◌≢◌}
use Rattle.rules_laws.proofs.ParentAt.{with_task_parent_at}

-- a ready task x with program g departs: what a channel of n desks sees at each end
module _ (n : ℕ) (l : List ChannelMessage) (g : Program) (c : ChannelId) (x : Task) (ready : is_in Ready x ≡ true) (stands : 1 ≤ x.processor.0)
    (entries : ℕ → Entry) (k : Channel) where
  abbrev here : Cell
  here = record { entry = entries x.processor.0; channel = k }

  departs_receiver : (s : Sender) (history : ℕ → ℕ) (e : ProcessorId) → 1 ≤ e.0 → e.0 ≤ n
      → Departing (view_by n l s (receiver_view g c history x) entries k)
      (view_by n l s (receiver_view g c (at_number history (suc x.moves) e.0) (departed x))
      (at_number entries x.processor.0 (located e (x.moves + 1) here).entry) (located e (x.moves + 1) here).channel)
  unfolding place_guard placed receiver_view
  departs_receiver s history e low high =
      let f = blocked_in x Ready ready in
      let u = receiver_elsewhere g c x (departed x) f refl refl history (at_number history (suc x.moves) e.0) in
      rw (u, tables_hint entries x.processor.0 _, add-one x.moves)
      (receiver_departure e.0 (record { stands = stands; idle = receiver_ready g c x history ready; processor = low; last = high }))

  departs_sender : (u : Receiver)
      → Departing (view_by n l (sender_view g c x) u entries k)
      (view_by n l (sender_view g c (departed x)) u
      (at_number entries x.processor.0 (departure_sending here).entry) (departure_sending here).channel)
  unfolding place_guard placed sender_view state_view tables_view
  departs_sender u =
      let f = blocked_in x Ready ready in
      rw (sender_elsewhere g c x (departed x) f refl refl, tables_same entries x.processor.0)
      (sender_departure (record { stands = stands; idle = sender_ready g c x ready }))

-- a rig that is read, after a move of task t to desk e
abbrev moved_read : Programs → TaskId → ProcessorId → Reading → Reading
moved_read m t e x =
    let y = x.tasks t in
    let d = y.processor.0 in
    placed_read m t (departed y) (pointing (x.parents t d) (hint e (y.moves + 1))) (located e (y.moves + 1)) departure_sending d
    (x.messages ++ one (Migration e t)) x

module _ (m : Programs) (plan : plan_answer m ≡ Ok tt) (h : Histories) (x : Reading) (t : TaskId) (e : ProcessorId) where
  abbrev task : Task
  task = x.tasks t

  abbrev then : Histories
  then = sent_to h t (suc task.moves) e

  module _ (number : within 1 (length m) t.0 ≡ true) (ready : is_in Ready task ≡ true) (processor : within 1 x.processors e.0 ≡ true)
      (fine : task_ok x.processors (length m) (program_of m t) task ≡ true) where
    -- each channel of which it is an end sees it depart, and no other sees anything
    views_moved : (c : ChannelId) → 1 ≤ c.0 → c.0 ≤ 128 → Departing (view_of m h x c) (view_of m then (moved_read m t e x) c)
    unfolding message_on
    views_moved c low high =
        let n = x.processors in
        let b = settled n (length m) (program_of m t) task Ready refl ready fine in
        let some = within_low 1 n e.0 processor in
        let few = within_high 1 n e.0 processor in
        place_cases m plan h then x t (within_low 1 (length m) t.0 number) (λ u ne. at_other h t u _ ne)
        (departed task) (pointing (x.parents t task.processor.0) (hint e (task.moves + 1))) (located e (task.moves + 1)) departure_sending task.processor.0 (x.messages ++ one (Migration e t)) c low high
        (flat_post_nothing (message_on c) x.messages (Migration e t) refl) Departing
        (λ s.
        rw (at_task_lem h t (at_number (h t) (suc task.moves) e.0))
        (departs_receiver n _ _ c task ready b.processor (x.entries c) (x.channels c) s (h t) e some few))
        (λ u. departs_sender n _ _ c task ready b.processor (x.entries c) (x.channels c) u)
        (λ v. none)

    move_read : task.processor.0 ≢ e.0 → MoveTransition m h then x (moved_read m t e x)
    move_read other =
        record {
          task = t;
          to = e;
          number = number;
          ready = ready;
          processor = processor;
          elsewhere = other;
          history = refl;
          tasks = refl;
          parents = refl;
          messages = refl;
          processors = refl;
          views = views_moved;
        }

-- a move reports no word
pub move_received : (r : System) (t : TaskId) (e : ProcessorId) → (moved r t e).received ≡ None
unfolding moved
move_received r t e = refl

module _ (r : System) (shaped : Shaped r) (ok : system_ok r ≡ true) (h : Histories) {s : Net} {w : ChannelId → List Word}
    (run : Running (meaning r) h s (reading r) w) (t : TaskId) (e : ProcessorId) (accepted : move_answer r t e ≡ Ok tt) where
  abbrev now : Task
  now = task_at r t

  number : within 1 (length (meaning r)) t.0 ≡ true
  number = rw (tasks_of_lem r.plan) (move_passed r t e accepted).task

  -- what is read then
  read_moved : reading (completed (moved r t e)) ≡ moved_read (meaning r) t e (reading r)
  unfolding reading moved messages_of fits
  read_moved =
      let p = move_passed r t e accepted in
      let b = settled r.processors (length (meaning r)) (program_of (meaning r) t) now Ready refl p.ready (run.tasks t number) in
      let few : now.processor.0 ≤ 6 = omega (arith, b.processor_few, run.few) in
      let pointer = located e (now.moves + 1) in
      let is = is_task r shaped ok t p.task in
      let d = now.processor in
      let kept : parent_at (with_task r t (departed now)) d t ≡ parent_entry_of r t d.0 =
      with_task_parent_at r t (departed now) d t ∙ sym (parent_there r t d.0 is b.processor) in
      let entry = pointing (parent_at (with_task r t (departed now)) d t) (hint e (now.moves + 1)) in
      let then = pointing (parent_entry_of r t d.0) (hint e (now.moves + 1)) in
      let network = placed_network r t (departed now) entry d pointer departure_sending in
      let q : reading (moved r t e).system ≡ placed_read (meaning r) t (departed now) then pointer departure_sending d.0 (reading r).messages (reading r) =
      rw kept (read_placed r shaped t is (departed now) then d b.processor few pointer departure_sending) in
      read_completed (moved r t e) (moved_keeps Shaped (written shaped_kept) r t e shaped) (rw network (leb-true _ _ p.fitting))
      ∙ (λ i. with_messages_read (q i) ((q i).messages ++ one (Migration e t)))

  -- an accepted move
  pub move_transition : (h' : Histories) × MoveTransition (meaning r) h h' (reading r) (reading (completed (moved r t e)))
  unfolding reading
  move_transition =
      let p = move_passed r t e accepted in
      let plan = plan_accepted r shaped ok in
      let transition = move_read (meaning r) plan h (reading r) t e number p.ready p.processor (run.tasks t number)
      (eqb-false now.processor.0 e.0 p.elsewhere) in
      (sent_to h t (suc now.moves) e, rw read_moved transition)
