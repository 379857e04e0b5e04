-- How the views change where a task is born, departs or arrives: at the channels it receives on, at those it sends on, and at the others.
use mathlib.Core.Path.{◌≡◌, refl, sym, ap, fun_ext, ◌∙◌, subst, subst₂}
use mathlib.Core.Bool.{Bool, true, false, ◌&&◌}
use mathlib.Core.List.{List}
use mathlib.Core.Logic.{◌≢◌, by_cases}
use Prim.Native.Nat.{ℕ, ◌≤◌}
use native.Mathlib.Decide.{ℕ_discrete}
use native.Mathlib.Omega.{arith}
use borrow.Author.Tests.{eq-eqb, ne_eqb}
use Rattle.std.specs.Prelude.{Ok}
use Rattle.base.proofs.Choices.{pick_either}
use Rattle.base.proofs.Tests.{within_both}
use Rattle.plan.specs.declared.TaskId.{TaskId}
use Rattle.plan.specs.declared.ProcessorId.{ProcessorId}
use Rattle.plan.specs.declared.ChannelId.{ChannelId}
use Rattle.plan.specs.Numbers.{task_id}
use Rattle.plan.specs.Programs.{Program, Programs, programs}
use Rattle.plan.specs.Users.{sender_of, receiver_of}
use Rattle.plan.specs.Refusals.{plan_answer}
use Rattle.plan_laws.proofs.Ends.{ends_differ}
use Rattle.rules.specs.declared.task.TaskState.TheVariants.{Sending, Receiving}
use Rattle.rules.specs.declared.task.Task.{Task}
use Rattle.rules.specs.declared.channel.Entry.{Entry}
use Rattle.rules.specs.declared.channel.Channel.{Channel}
use Rattle.rules.specs.declared.channel.Cell.{Cell}
use Rattle.rules.specs.declared.message.Message.{Message}
use Rattle.rules.specs.Numbers.{channel_number_ok}
use Rattle.rules.specs.Places.{is_on}
use Rattle.rules.specs.declared.system.System.{System}
use Rattle.rules.specs.Systems.{with_task, meaning, with_parent}
use Rattle.rules.specs.Effects.{receives_on, sends_on, for_receiving, for_sending}
use Rattle.rules_laws.specs.Shapes.{Shaped}
use Rattle.rules_laws.proofs.TaskAt.{with_task_plan, with_task_network, with_task_shaped}
use Rattle.rules_laws.proofs.ForChannels.{for_channels_plan, for_channels_network, for_channels_shaped}
use Rattle.net.specs.States.{at_task}
use Rattle.channel.specs.Updates.{at_number}
use Rattle.channel.specs.Messages.{ChannelMessage}
use Rattle.channel.specs.Views.{Sender, Receiver, View}
use Rattle.channel.proofs.Updates.{at_self}
use Rattle.transitions.specs.Readings.{Reading, reading, cell_of, with_task_read, with_messages_read, for_channels_read, with_parent_read}
use Rattle.transitions.specs.Progress.{program_of, is_blocked}
use Rattle.transitions.specs.Messages.{messages_on}
use Rattle.transitions.specs.Views.{Histories, sender_view, receiver_view, tables_view, state_view, view_of}
use Rattle.transitions.proofs.Updates.{at_task_lem, at_other}
use Rattle.transitions.proofs.Tasks.{not_receiving, completed_free, off_in, not_sending}
use Rattle.transitions.proofs.Frames.{IsTask, read_task, read_for_channels, read_parent_lem}
use Rattle.rules.specs.declared.system.ParentEntry.{ParentEntry}
use Rattle.rules_laws.proofs.ParentAt.{with_parent_plan, with_parent_network, with_parent_shaped}

-- a task that has completed all that it has executed neither sends nor receives
free_on : (g : Program) (c : ChannelId) (x : Task) → is_blocked x ≡ false → (is_on Sending g c x ≡ false) × (is_on Receiving g c x ≡ false)
free_on g c x f = (off_in Sending g c x (not_sending x f), off_in Receiving g c x (not_receiving x f))

-- such a task, and then at another desk with the same place in its program
module _ (g : Program) (c : ChannelId) (x x' : Task) (f : is_blocked x ≡ false) (f' : is_blocked x' ≡ false) (same : x'.pc ≡ x.pc) where
  pub sender_elsewhere : sender_view g c x' ≡ record { at = x'.processor.0; sending = (sender_view g c x).sending; sent = (sender_view g c x).sent }
  unfolding sender_view
  sender_elsewhere = rw (completed_free x f, completed_free x' f', (free_on g c x f).0, (free_on g c x' f').0, same) refl

  pub receiver_elsewhere : (history history' : ℕ → ℕ)
      → receiver_view g c history' x'
      ≡ record {
        at = x'.processor.0;
        receiving = (receiver_view g c history x).receiving;
        received = (receiver_view g c history x).received;
        moves = x'.moves;
        history = history';
      }
  unfolding receiver_view
  receiver_elsewhere history history' = rw (completed_free x f, completed_free x' f', (free_on g c x f).1, (free_on g c x' f').1, same) refl

-- the view of a channel by its parts
abbrev pub view_by : ℕ → List ChannelMessage → Sender → Receiver → (ℕ → Entry) → Channel → View
view_by n l s u entries k = record { processors = n; sender = s; receiver = u; tables = tables_view entries; state = state_view k; messages = l }

-- task t becomes x', desk d keeps e for it, and its receiving and its sending channels follow the two rules there; the letters ms are in the mail
abbrev pub placed_read : Programs → TaskId → Task → ParentEntry → (Cell → Cell) → (Cell → Cell) → ℕ → List Message → Reading → Reading
placed_read m t x' e receiving sending d ms x =
    for_channels_read (sends_on m t) sending d
    (for_channels_read (receives_on m t) receiving d (with_parent_read (with_task_read (with_messages_read x ms) t x') t d e))

pub same_parts : (n : ℕ) {l l' : List ChannelMessage} {s s' : Sender} {u u' : Receiver} {e e' : ℕ → Entry} {k k' : Channel}
    → l ≡ l' → s ≡ s' → u ≡ u' → e ≡ e' → k ≡ k' → view_by n l s u e k ≡ view_by n l' s' u' e' k'
same_parts n l s u e k = λ i. view_by n (l i) (s i) (u i) (e i) (k i)

module _ (m : Programs) (plan : plan_answer m ≡ Ok tt) (h h' : Histories) (x : Reading) (t : TaskId) (some : 1 ≤ t.0)
    (kept : (u : TaskId) → u.0 ≢ t.0 → h' u ≡ h u) (x' : Task) (entry : ParentEntry) (receiving sending : Cell → Cell) (d : ℕ) (ms : List Message)
    (c : ChannelId) (low : 1 ≤ c.0) (high : c.0 ≤ 128) (network : messages_on c ms ≡ messages_on c x.messages) where
  abbrev here : Cell
  here = cell_of x c d

  abbrev then : Reading
  then = placed_read m t x' entry receiving sending d ms x

  abbrev parts : Sender → Receiver → (ℕ → Entry) → Channel → View
  parts = view_by x.processors (messages_on c x.messages)

  -- what an end sees of the tasks
  sees : {A : Type 0} (f : TaskId → Task → A) (u : TaskId) → u ≡ t → f u (at_task x.tasks t x' u) ≡ f t x'
  sees f u e = ap (λ (v : TaskId). f v (at_task x.tasks t x' v)) e ∙ ap (f t) (at_task_lem x.tasks t x')

  unseen : {A : Type 0} (f : Task → A) (u : TaskId) → u.0 ≢ t.0 → f (at_task x.tasks t x' u) ≡ f (x.tasks u)
  unseen f u ne = ap f (at_other x.tasks t u x' ne)

  -- to prove something of a view before and then: where the task is the receiver, where it is the sender, and where nothing changes
  pub place_cases : (P : View → View → Type 0)
      → ((s : Sender)
      → P (parts s (receiver_view (program_of m t) c (h t) (x.tasks t)) (x.entries c) (x.channels c))
      (parts s (receiver_view (program_of m t) c (h' t) x') (at_number (x.entries c) d (receiving here).entry) (receiving here).channel))
      → ((u : Receiver)
      → P (parts (sender_view (program_of m t) c (x.tasks t)) u (x.entries c) (x.channels c))
      (parts (sender_view (program_of m t) c x') u (at_number (x.entries c) d (sending here).entry) (sending here).channel))
      → ((v : View) → P v v)
      → P (view_of m h x c) (view_of m h' then c)
  unfolding view_of
  place_cases P as-receiver as-sender neither =
      let s = sender_of m c in
      let u = receiver_of m c in
      let sees-s = sender_view (program_of m s) c (x.tasks s) in
      let sees-u = receiver_view (program_of m u) c (h u) (x.tasks u) in
      let inside : channel_number_ok c ≡ true = within_both 1 128 c.0 low high in
      by_cases
      (ℕ_discrete u.0 t.0)
      (λ (e : u.0 ≡ t.0).
      let ne : s.0 ≢ t.0 = λ z. ends_differ m plan c (omega arith) (omega arith) in
      let z : u ≡ t = ap task_id e in
      let p = eq-eqb u.0 t.0 e in
      let q = ne_eqb s.0 t.0 ne in
      subst₂ P
      (sym (ap (λ (v : TaskId). parts sees-s (receiver_view (program_of m v) c (h v) (x.tasks v)) (x.entries c) (x.channels c)) z))
      (sym
      (same_parts x.processors network (unseen (sender_view (program_of m s) c) s ne) (sees (λ v. receiver_view (program_of m v) c (h' v)) u z)
      (rw (inside, p, q) refl) (rw (inside, p, q) refl)))
      (as-receiver sees-s))
      (λ nu.
      let p = ne_eqb u.0 t.0 nu in
      by_cases
      (ℕ_discrete s.0 t.0)
      (λ (e : s.0 ≡ t.0).
      let z : s ≡ t = ap task_id e in
      let q = eq-eqb s.0 t.0 e in
      subst₂ P
      (sym (ap (λ (v : TaskId). parts (sender_view (program_of m v) c (x.tasks v)) sees-u (x.entries c) (x.channels c)) z))
      (sym
      (same_parts x.processors network (sees (λ v. sender_view (program_of m v) c) s z)
      (rw (kept u nu) (unseen (receiver_view (program_of m u) c (h u)) u nu))
      (rw (inside, p, q) refl) (rw (inside, p, q) refl)))
      (as-sender sees-u))
      (λ ns.
      let q = ne_eqb s.0 t.0 ns in
      subst (P (view_of m h x c))
      (sym
      (same_parts x.processors network (unseen (sender_view (program_of m s) c) s ns)
      (rw (kept u nu) (unseen (receiver_view (program_of m u) c (h u)) u nu))
      (rw (inside, p, q) refl) (rw (inside, p, q) refl)))
      (neither (view_of m h x c))))

-- a rule that changes no cell
pub for_channels_none : (test : ChannelId → Bool) (d : ℕ) (x : Reading) → for_channels_read test (λ y. y) d x ≡ x
for_channels_none test d x =
    λ i.
    record {
      processors = x.processors;
      tasks = x.tasks;
      entries = fun_ext (λ (c : ChannelId). pick_either (λ f. f ≡ x.entries c) (channel_number_ok c && test c) _ _ (at_self (x.entries c) d) refl) i;
      channels = fun_ext (λ (c : ChannelId). pick_either (λ k. k ≡ x.channels c) (channel_number_ok c && test c) _ _ refl refl) i;
      parents = x.parents;
      messages = x.messages;
    }

-- what is read of a rig of which a task and its channels are so changed
module _ (r : System) (shaped : Shaped r) (t : TaskId) (is : IsTask t) (x' : Task) (entry : ParentEntry) (d : ProcessorId) (some : 1 ≤ d.0) (few : d.0 ≤ 6) where
  abbrev q : System
  q = with_parent (with_task r t x') d t entry

  q_shaped : Shaped q
  q_shaped = with_parent_shaped (with_task r t x') d t entry (with_task_shaped r t x' shaped)

  q_plan : q.plan ≡ r.plan
  q_plan = with_parent_plan (with_task r t x') d t entry ∙ with_task_plan r t x'

  q_read : reading q ≡ with_parent_read (with_task_read (reading r) t x') t d.0 entry
  q_read =
      read_parent_lem (with_task r t x') (with_task_shaped r t x' shaped) d t entry is some few
      ∙ ap (λ (y : Reading). with_parent_read y t d.0 entry) (read_task r shaped t x' is)

  pub read_receiving : (receiving : Cell → Cell)
      → reading (for_receiving q t d receiving)
      ≡ for_channels_read (receives_on (meaning r) t) receiving d.0 (with_parent_read (with_task_read (reading r) t x') t d.0 entry)
  read_receiving receiving =
      let same : meaning q ≡ meaning r = ap programs q_plan in
      read_for_channels q q_shaped (receives_on (meaning q) t) receiving d some few
      ∙ (λ i. for_channels_read (receives_on (same i) t) receiving d.0 (q_read i))

  pub read_placed : (receiving sending : Cell → Cell)
      → reading (for_sending (for_receiving q t d receiving) t d sending)
      ≡ placed_read (meaning r) t x' entry receiving sending d.0 (reading r).messages (reading r)
  read_placed receiving sending =
      let y = for_receiving q t d receiving in
      let test = receives_on (meaning q) t in
      let same : meaning y ≡ meaning r = ap programs (for_channels_plan test receiving d 128 q ∙ q_plan) in
      read_for_channels y (for_channels_shaped test receiving d 128 q q_shaped) (sends_on (meaning y) t) sending d some few
      ∙ (λ i. for_channels_read (sends_on (same i) t) sending d.0 (read_receiving receiving i))

-- .. and of its mail nothing has changed
pub placed_network : (r : System) (t : TaskId) (x' : Task) (entry : ParentEntry) (d : ProcessorId) (receiving sending : Cell → Cell)
    → (for_sending (for_receiving (with_parent (with_task r t x') d t entry) t d receiving) t d sending).network ≡ r.network
placed_network r t x' entry d receiving sending =
    for_channels_network _ sending d 128 _
    ∙ (for_channels_network _ receiving d 128 _ ∙ (with_parent_network (with_task r t x') d t entry ∙ with_task_network r t x'))
