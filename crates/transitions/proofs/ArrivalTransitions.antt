-- The delivery of a mover letter is an arrival in the rig that is read.
use mathlib.Core.Path.{◌≡◌, refl, ◌∙◌, ap, sym}
use mathlib.Core.Bool.{Bool, true, false}
use mathlib.Core.List.{List}
use mathlib.Core.Option.{some}
use Prim.Native.Nat.{ℕ, ◌-◌, ◌≤◌}
use native.Mathlib.Omega.{arith}
use lib.ListN.{length, get_elem?}
use borrow.Author.Tests.{eqb-true}
use Rattle.std.specs.Prelude.{None, Ok}
use Rattle.base.specs.Choice.{pick, within}
use Rattle.base.proofs.Tests.{and_right, is_true, within_low}
use Rattle.plan.specs.declared.TaskId.{TaskId}
use Rattle.plan.specs.declared.ProcessorId.{ProcessorId}
use Rattle.plan.specs.declared.ChannelId.{ChannelId}
use Rattle.plan.specs.declared.Word.{Word}
use Rattle.plan.specs.Programs.{Program, Programs}
use Rattle.plan.specs.Refusals.{plan_answer}
use Rattle.plan.proofs.Parts.{tasks_of_lem}
use Rattle.rules.specs.declared.task.TaskState.TheVariants.{Unborn, Moving}
use Rattle.rules.specs.declared.task.Task.{Task}
use Rattle.rules.specs.declared.channel.Entry.{Entry}
use Rattle.rules.specs.declared.channel.Channel.{Channel}
use Rattle.rules.specs.declared.channel.Cell.{Cell}
use Rattle.rules.specs.declared.message.Message.TheVariants.{Migration}
use Rattle.rules.specs.declared.system.System.{System}
use Rattle.rules.specs.Numbers.{processor_ok}
use Rattle.rules.specs.Tasks.{is_in, arrived, without_children}
use Rattle.rules.specs.Cells.{hint, newer, no_offer, larger, counts, with_held, with_carried}
use Rattle.rules.specs.Networks.{message_at}
use Rattle.rules.specs.Systems.{task_at, meaning, parent_at}
use Rattle.rules.specs.Effects.{completed}
use Rattle.rules.specs.Starts.{located}
use Rattle.rules.specs.Arrivals.{taken_over, arrival_receiving, arrival_sending, arrival, arrival_parent}
use Rattle.rules.specs.Deliver.{got_migration, opened, delivered}
use Rattle.rules.specs.Sound.{task_ok, message_ok, system_ok}
use Rattle.rules_laws.specs.Shapes.{Shaped}
use Rattle.rules_sound.proofs.Born.{born_passed}
use Rattle.net.specs.States.{Net}
use Rattle.channel.specs.Bags.{without}
use Rattle.channel.specs.Updates.{at_number}
use Rattle.channel.specs.Messages.{ChannelMessage}
use Rattle.channel.specs.Views.{Sender, Receiver}
use Rattle.channel.specs.Places.{taking_over}
use Rattle.channel.specs.Events.{place_guard, placed}
use Rattle.channel.proofs.Bags.{in_at, length_without}
use Rattle.channel.proofs.Updates.{at_self}
use Rattle.transitions.specs.Readings.{Reading, reading, parent_entry_of}
use Rattle.transitions.specs.Progress.{program_of}
use Rattle.transitions.specs.Messages.{message_on, mover_to, movers_of}
use Rattle.transitions.specs.Views.{Histories, sender_view, receiver_view, tables_view, state_view, view_of}
use Rattle.transitions.specs.Transitions.{Placing, none, sender_arrival, receiver_arrival, ArrivalTransition}
use Rattle.transitions.specs.Family.{Placed}
use Rattle.transitions.specs.Agreement.{Running}
use Rattle.transitions.proofs.Flats.{flat_without, flat_place, own_mover}
use Rattle.transitions.proofs.Tasks.{state_is, blocked_in}
use Rattle.transitions.proofs.Frames.{read_dequeued, parent_there}
use Rattle.transitions.proofs.Rigs.{plan_accepted, network_few, is_task, message_ok_lem, message_at_lem, emptied, emptied_shaped}
use Rattle.transitions.proofs.Runs.{completed_changed}
use Rattle.transitions.proofs.Outcomes.{tables_entry, tables_hint}
use Rattle.transitions.proofs.PlaceViews.{sender_elsewhere, receiver_elsewhere, view_by, placed_read, place_cases, read_placed}
use Rattle.rules.specs.declared.system.ParentEntry.{ParentEntry}

-- "a held offer that counts is taken over, another is dropped", at once
taken_over_lem : (x : Cell) → taken_over x ≡ with_carried (with_held x no_offer) (taking_over x.channel.granted x.channel.carried x.entry.held)
unfolding taken_over taking_over
taken_over_lem x = go (counts x x.entry.held)
  where
    go : (b : Bool)
        → pick b (with_held (with_carried x (larger x.channel.carried x.entry.held)) no_offer) (with_held x no_offer)
        ≡ with_carried (with_held x no_offer) (pick b (larger x.channel.carried x.entry.held) x.channel.carried)
    go true = refl
    go false = refl

-- a moving task x with program g arrives at desk d: what a channel of n desks sees at each end
module _ (n : ℕ) (l : List ChannelMessage) (g : Program) (c : ChannelId) (x : Task) (moving : is_in Moving x ≡ true) (nowhere : x.processor.0 ≡ 0)
    (d : ProcessorId) (held : ℕ) (entries : ℕ → Entry) (k : Channel) where
  abbrev here : Cell
  here = record { entry = entries d.0; channel = k }

  -- its record then: without the children that are held there
  abbrev now : Task
  now = without_children (arrived x d) held

  arrives_receiver : (s : Sender) (history : ℕ → ℕ) → 1 ≤ x.moves → d.0 ≡ history x.moves
      → Placing (view_by n l s (receiver_view g c history x) entries k)
      (view_by n l s (receiver_view g c history now)
      (at_number entries d.0 (arrival_receiving d x.moves here).entry) (arrival_receiving d x.moves here).channel)
  unfolding place_guard placed receiver_view state_view tables_view
  arrives_receiver s history born sent =
      let f = blocked_in x Moving moving in
      let u = receiver_elsewhere g c x now f refl refl history history in
      let e : Entry = record { hint = hint d x.moves; held = no_offer; noted = (entries d.0).noted } in
      rw (taken_over_lem (located d x.moves here), u, tables_entry entries d.0 e, at_self (λ (y : ℕ). (entries y).noted) d.0)
      (receiver_arrival d.0 (record { moving = nowhere; born = born; sent = sent }))

  arrives_sender : (u : Receiver) → 1 ≤ d.0 → d.0 ≤ n
      → Placing (view_by n l (sender_view g c x) u entries k)
      (view_by n l (sender_view g c now) u (at_number entries d.0 (arrival_sending here).entry) (arrival_sending here).channel)
  unfolding place_guard placed sender_view state_view tables_view
  arrives_sender u low high =
      let f = blocked_in x Moving moving in
      rw (sender_elsewhere g c x now f refl refl, tables_hint entries d.0 (newer (entries d.0).hint k.travelling))
      (sender_arrival d.0 (record { moving = nowhere; processor = low; last = high }))

-- a task that arrives at desk d of n: it is moving, and was sent here last
pub record Arriving (n : ℕ) (history : ℕ → ℕ) (x : Task) (d : ProcessorId) : Type 0 where
  pub moving : is_in Moving x ≡ true
  sent : d.0 ≡ history x.moves
  low : 1 ≤ d.0
  high : d.0 ≤ n

-- a rig that is read, after task t has arrived at desk d; the letter at place p has left the mail
abbrev arrived_read : Programs → TaskId → ProcessorId → ℕ → Reading → Reading
arrived_read m t d p x =
    let y = x.tasks t in
    placed_read m t (without_children (arrived y d) (x.parents t d.0).held) (arrival_parent d y.moves) (arrival_receiving d y.moves) arrival_sending
    d.0 (without x.messages p) x

-- a mover letter in a rig that is read, at place p of the mail
module _ (m : Programs) (plan : plan_answer m ≡ Ok tt) (h : Histories) (x : Reading) (p : ℕ) (d : ProcessorId) (t : TaskId)
    (message : get_elem? x.messages p ≡ some (Migration d t)) (number : within 1 (length m) t.0 ≡ true)
    (fine : task_ok x.processors (length m) (program_of m t) (x.tasks t) ≡ true)
    (stands : Placed x.processors (h t) (x.tasks t) (x.parents t) (movers_of t x.messages)) where
  pub arriving : Arriving x.processors (h t) (x.tasks t) d
  arriving =
      let movers = movers_of t x.messages in
      let k = flat_place (mover_to t) x.messages p d.0 message (own_mover t d) in
      let moving : is_in Moving (x.tasks t) ≡ true =
      is_true _
      (λ e.
      let no_mover : length movers ≡ 0 = rw e at stands.one_mover in
      omega (arith, length_without movers k.place k.at)) in
      let born = born_passed x.processors (length m) (program_of m t) (x.tasks t) fine (state_is Moving Unborn (x.tasks t) moving) in
      let count = within_low 1 9999 (x.tasks t).moves born.moves in
      let sent = stands.address d.0 (in_at movers k.place k.at) in
      record {
        moving = moving;
        sent = sent;
        low = omega (arith, stands.table.low (x.tasks t).moves count (omega arith));
        high = omega (arith, stands.table.high (x.tasks t).moves (omega arith));
      }

  -- each channel of which it is an end sees it arrive, and no other sees anything
  views_arrived : (c : ChannelId) → 1 ≤ c.0 → c.0 ≤ 128 → Placing (view_of m h x c) (view_of m h (arrived_read m t d p x) c)
  unfolding message_on
  views_arrived c low high =
      let n = x.processors in
      let y = x.tasks t in
      let a = arriving in
      let b = born_passed n (length m) (program_of m t) y fine (state_is Moving Unborn y a.moving) in
      let nowhere : y.processor.0 ≡ 0 = eqb-true _ 0 (rw a.moving at b.processor) in
      let counted = within_low 1 9999 y.moves b.moves in
      place_cases m plan h h x t (within_low 1 (length m) t.0 number) (λ u ne. refl)
      (without_children (arrived y d) (x.parents t d.0).held) (arrival_parent d y.moves) (arrival_receiving d y.moves) arrival_sending d.0
      (without x.messages p) c low high
      (flat_without (message_on c) x.messages p message refl) Placing
      (λ s. arrives_receiver n _ _ c y a.moving nowhere d (x.parents t d.0).held (x.entries c) (x.channels c) s (h t) counted a.sent)
      (λ u. arrives_sender n _ _ c y a.moving nowhere d (x.parents t d.0).held (x.entries c) (x.channels c) u a.low a.high)
      (λ v. none)

  arrival_read : ArrivalTransition m h x (arrived_read m t d p x)
  arrival_read =
      record {
        p = p;
        at = d;
        task = t;
        message = message;
        number = number;
        moving = arriving.moving;
        sent = arriving.sent;
        tasks = refl;
        parents = refl;
        messages = refl;
        processors = refl;
        views = views_arrived;
      }

-- an arrival reports no word
pub arrival_received : (r : System) (p : ℕ) (d : ProcessorId) (t : TaskId) → message_at r.network p ≡ Migration d t
    → (delivered r p).received ≡ None
unfolding delivered opened
arrival_received r p d t e = rw e refl

module _ (r : System) (shaped : Shaped r) (ok : system_ok r ≡ true) (h : Histories) {s : Net} {w : ChannelId → List Word}
    (run : Running (meaning r) h s (reading r) w) (p : ℕ) (low : 1 ≤ p) (there : p ≤ r.network.used)
    (d : ProcessorId) (t : TaskId) (is : message_at r.network p ≡ Migration d t) where
  -- the letter is of a task of the plan
  message_number : within 1 r.plan.tasks t.0 ≡ true
  unfolding message_ok
  message_number = and_right (processor_ok r.processors d) _ (message_ok_lem r shaped ok p low there (Migration d t) is)

  -- the rig without the letter
  abbrev rest : System
  rest = emptied r shaped ok p low there

  read_arrived : is_in Moving (task_at r t) ≡ true → 1 ≤ d.0 → d.0 ≤ 6
      → reading (completed (delivered r p)) ≡ arrived_read (meaning r) t d (p - 1) (reading r)
  unfolding reading delivered opened got_migration arrival parent_at
  read_arrived moving processor few =
      let full = network_few r shaped ok in
      let e = read_dequeued r shaped p low there full in
      let y = task_at r t in
      let pointer = arrival_receiving d y.moves in
      let number = is_task r shaped ok t message_number in
      let kept : (parent_at rest d t).held ≡ (parent_entry_of r t d.0).held = ap (λ (o : ParentEntry). o.held) (sym (parent_there r t d.0 number processor)) in
      let now = without_children (arrived y d) (parent_entry_of r t d.0).held in
      let entry = arrival_parent d y.moves in
      rw (is, moving, completed_changed (arrival rest t d), kept)
      (read_placed rest (emptied_shaped r shaped ok p low there) t number now entry d processor few pointer arrival_sending
      ∙ (λ i. placed_read (meaning r) t now entry pointer arrival_sending d.0 (e i).messages (e i)))

  pub arrival_transition : ArrivalTransition (meaning r) h (reading r) (reading (completed (delivered r p)))
  unfolding reading
  arrival_transition =
      let m = meaning r in
      let a = plan_accepted r shaped ok in
      let number : within 1 (length m) t.0 ≡ true = rw (tasks_of_lem r.plan) message_number in
      let message = message_at_lem r shaped ok p low there (Migration d t) is in
      let fine = run.tasks t number in
      let place = run.places t number in
      let b = arriving m a h (reading r) (p - 1) d t message number fine place in
      rw (read_arrived b.moving b.low (omega (arith, b.high, run.few))) (arrival_read m a h (reading r) (p - 1) d t message number fine place)
