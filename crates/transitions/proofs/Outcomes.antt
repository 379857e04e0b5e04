-- A rule about one channel at one desk, as it is read: from what it leaves to the act.
use mathlib.Core.Path.{◌≡◌, refl, sym, ap, ◌∙◌, fun_ext}
use mathlib.Core.Logic.{◌≢◌, by_cases}
use mathlib.Core.List.{List, [], ◌++◌, append-nil}
use mathlib.Core.Option.{some}
use Prim.Native.Nat.{ℕ, ◌≤◌}
use native.Mathlib.Decide.{ℕ_discrete}
use native.Mathlib.Omega.{arith}
use lib.Dec.{eqb}
use lib.ListN.{get_elem?}
use borrow.Author.Tests.{eq-eqb, ne_eqb}
use Rattle.std.specs.Prelude.{None, Some, Ok}
use Rattle.base.specs.Choice.{pick}
use Rattle.base.specs.Updates.{updated}
use Rattle.base.proofs.Choices.{pick_under}
use Rattle.plan.specs.declared.TaskId.{TaskId}
use Rattle.plan.specs.declared.ProcessorId.{ProcessorId}
use Rattle.plan.specs.declared.ChannelId.{ChannelId}
use Rattle.plan.specs.declared.Word.{Word}
use Rattle.plan.specs.Numbers.{task_id, same_channel}
use Rattle.plan.specs.Kinds.{op_send, op_receive}
use Rattle.plan.specs.Programs.{Program, Programs}
use Rattle.plan.specs.Refusals.{plan_answer}
use Rattle.plan.specs.Users.{sender_of, receiver_of}
use Rattle.plan_laws.proofs.Ends.{ends_differ}
use Rattle.rules.specs.declared.task.TaskState.TheVariants.{Sending, Receiving}
use Rattle.rules.specs.declared.task.Task.{Task}
use Rattle.rules.specs.declared.channel.Hint.{Hint}
use Rattle.rules.specs.declared.channel.Offer.{Offer}
use Rattle.rules.specs.declared.channel.Entry.{Entry}
use Rattle.rules.specs.declared.message.Message.{Message}
use Rattle.rules.specs.declared.message.Message.TheVariants.{Offered, Advert, ReadyToReceive, Data}
use Rattle.rules.specs.declared.rule.Site.{Site}
use Rattle.rules.specs.declared.rule.Outcome.{Outcome}
use Rattle.rules.specs.Reports.{Received}
use Rattle.rules.specs.declared.rule.Posting.TheVariants.{Nothing}
use Rattle.rules.specs.declared.system.System.{System}
use Rattle.rules.specs.Networks.{messages_of}
use Rattle.rules.specs.Places.{is_on}
use Rattle.rules.specs.Systems.{meaning}
use Rattle.rules.specs.Effects.{site_at}
use Rattle.rules_laws.specs.Shapes.{Shaped}
use Rattle.net.specs.States.{at_task}
use Rattle.channel.specs.Updates.{at_number}
use Rattle.channel.specs.Bags.{one, without}
use Rattle.channel.specs.Messages.{offer, advert, call, word, ChannelMessage}
use Rattle.channel.specs.Views.{View}
use Rattle.channel.specs.Events.{Event, guard, after}
use Rattle.channel.proofs.Updates.{at_self}
use Rattle.transitions.specs.Readings.{Reading, reading, cell_of, with_outcome_read}
use Rattle.transitions.specs.Progress.{program_of}
use Rattle.transitions.specs.Messages.{flat, message_on, messages_on, words_in, ended_to, ended_of, mover_to, movers_of}
use Rattle.transitions.specs.Views.{Histories, sender_view, receiver_view, tables_view, state_view, view_of}
use Rattle.transitions.specs.EndSteps.{EndStep}
use Rattle.transitions.specs.Transitions.{Passing, nothing, direct, called, taken, Ran, ChannelTransition}
use Rattle.transitions.proofs.Updates.{at_task_lem, at_other, at_elim, at_channel_lem, at_other_channel}
use Rattle.transitions.proofs.Flats.{flat_append, flat_one, flat_without}
use Rattle.transitions.proofs.Tasks.{sends, receives}
use Rattle.transitions.proofs.EndSteps.{end_step_other_sender, end_step_other_receiver}
use Rattle.transitions.proofs.Frames.{IsCell, read_cell}

-- what a rule about channel c at desk d looks at
abbrev pub site_read : Programs → Reading → ChannelId → ℕ → Site
site_read m x c d =
    record {
      sender = x.tasks (sender_of m c);
      receiver = x.tasks (receiver_of m c);
      sending = is_on Sending (program_of m (sender_of m c)) c (x.tasks (sender_of m c));
      receiving = is_on Receiving (program_of m (receiver_of m c)) c (x.tasks (receiver_of m c));
      cell = cell_of x c d;
    }

pub site_read_lem : (r : System) → Shaped r → (c : ChannelId) (d : ProcessorId) → IsCell d c
    → site_at r (sender_of (meaning r) c) (receiver_of (meaning r) c) c d ≡ site_read (meaning r) (reading r) c d.0
unfolding site_at reading
site_read_lem r shaped c d is = rw (read_cell r shaped d c is) refl

-- a part of what stands at each number, where one is changed
pub part_at : {A B : Type 0} (part : A → B) (f : ℕ → A) (d : ℕ) (a : A) → (λ k. part (at_number f d a k)) ≡ at_number (λ k. part (f k)) d (part a)
unfolding updated
part_at part f d a = fun_ext λ k. pick_under part (eqb k d) a (f k)

-- the tables with one desk's entry changed, or not
module _ (f : ℕ → Entry) (d : ℕ) where
  pub tables_entry : (e : Entry)
      → tables_view (at_number f d e)
      ≡ record {
        hints = at_number (tables_view f).hints d e.hint;
        held = at_number (tables_view f).held d e.held;
        noted = at_number (tables_view f).noted d e.noted;
      }
  unfolding tables_view
  tables_entry e = rw (part_at (λ (z : Entry). z.hint) f d e, part_at (λ (z : Entry). z.held) f d e, part_at (λ (z : Entry). z.noted) f d e) refl

  pub tables_same : tables_view (at_number f d (f d)) ≡ tables_view f
  tables_same = rw (at_self f d) refl

  pub tables_hint : (z : Hint) → tables_view (at_number f d (record { hint = z; held = (f d).held; noted = (f d).noted }))
      ≡ record { hints = at_number (tables_view f).hints d z; held = (tables_view f).held; noted = (tables_view f).noted }
  unfolding tables_view
  tables_hint z =
      tables_entry (record { hint = z; held = (f d).held; noted = (f d).noted }) ∙ rw (at_self (λ k. (f k).held) d, at_self (λ k. (f k).noted) d) refl

  pub tables_held : (z : Offer) → tables_view (at_number f d (record { hint = (f d).hint; held = z; noted = (f d).noted }))
      ≡ record { hints = (tables_view f).hints; held = at_number (tables_view f).held d z; noted = (tables_view f).noted }
  unfolding tables_view
  tables_held z =
      tables_entry (record { hint = (f d).hint; held = z; noted = (f d).noted }) ∙ rw (at_self (λ k. (f k).hint) d, at_self (λ k. (f k).noted) d) refl

  pub tables_noted : (z : ProcessorId) → tables_view (at_number f d (record { hint = (f d).hint; held = (f d).held; noted = z }))
      ≡ record { hints = (tables_view f).hints; held = (tables_view f).held; noted = at_number (tables_view f).noted d z }
  unfolding tables_view
  tables_noted z =
      tables_entry (record { hint = (f d).hint; held = (f d).held; noted = z }) ∙ rw (at_self (λ k. (f k).hint) d, at_self (λ k. (f k).held) d) refl

-- letters that belong to channel c, and are these there
pub record Posted (c : ChannelId) (ps : List Message) (ls : List ChannelMessage) : Type 0 where
  pub on : messages_on c ps ≡ ls
  pub off : (d : ChannelId) → d.0 ≢ c.0 → messages_on d ps ≡ []
  pub ended : (t : TaskId) → ended_of t ps ≡ []
  pub movers : (t : TaskId) → movers_of t ps ≡ []

-- mail xs becomes mail ms, and only letters of channel c come or go
pub record OnlyOn (c : ChannelId) (xs ms : List Message) : Type 0 where
  pub others : (d : ChannelId) → d.0 ≢ c.0 → messages_on d ms ≡ messages_on d xs
  pub ended : (t : TaskId) → ended_of t ms ≡ ended_of t xs
  pub movers : (t : TaskId) → movers_of t ms ≡ movers_of t xs

module _ (c : ChannelId) where
  pub posted_nothing : (n : ℕ) → Posted c (messages_of n Nothing) []
  unfolding messages_of flat
  posted_nothing n = record { on = refl; off = λ d ne. refl; ended = λ t. refl; movers = λ t. refl }

  -- one letter of this channel
  posted_one : (l : Message) (b : ChannelMessage) → ((d : ChannelId) → message_on d l ≡ pick (same_channel c d) (one b) []) → ((t : TaskId) → ended_to t l ≡ [])
      → ((t : TaskId) → mover_to t l ≡ []) → Posted c (one l) (one b)
  posted_one l b on ended movers =
      record {
        on = flat_one (message_on c) l ∙ on c ∙ rw (eq-eqb c.0 c.0 refl) refl;
        off = λ d ne. flat_one (message_on d) l ∙ on d ∙ rw (ne_eqb c.0 d.0 (λ e. ne (sym e))) refl;
        ended = λ t. flat_one (ended_to t) l ∙ ended t;
        movers = λ t. flat_one (mover_to t) l ∙ movers t;
      }

  pub posted_offer : (o : Offer) (h : Hint) → Posted c (one (Offered c o h)) (one (offer h.processor.0 o.processor.0 o.number h.moves))
  unfolding message_on ended_to mover_to
  posted_offer o h = posted_one (Offered c o h) _ (λ d. refl) (λ t. refl) (λ t. refl)

  pub posted_advert : (d from : ProcessorId) → Posted c (one (Advert c d from)) (one (advert d.0 from.0))
  unfolding message_on ended_to mover_to
  posted_advert d from = posted_one (Advert c d from) _ (λ e. refl) (λ t. refl) (λ t. refl)

  pub posted_call : (d : ProcessorId) (h : Hint) → Posted c (one (ReadyToReceive c d h)) (one (call d.0 h.processor.0 h.moves))
  unfolding message_on ended_to mover_to
  posted_call d h = posted_one (ReadyToReceive c d h) _ (λ e. refl) (λ t. refl) (λ t. refl)

  pub posted_word_lem : (d : ProcessorId) (w : Word) → Posted c (one (Data c d w)) (one (word d.0 w))
  unfolding message_on ended_to mover_to
  posted_word_lem d w = posted_one (Data c d w) _ (λ e. refl) (λ t. refl) (λ t. refl)

  pub only_same : (xs : List Message) → OnlyOn c xs xs
  only_same xs = record { others = λ d ne. refl; ended = λ t. refl; movers = λ t. refl }

  -- letters are posted; the one at place p is taken out
  pub only_posted : {xs ms ps : List Message} {ls : List ChannelMessage} → OnlyOn c xs ms → Posted c ps ls → OnlyOn c xs (ms ++ ps)
  only_posted {xs} {ms} {ps} o p =
      record {
        others = λ d ne. flat_append (message_on d) ms ps ∙ rw (p.off d ne, append-nil (messages_on d ms)) (o.others d ne);
        ended = λ t. flat_append (ended_to t) ms ps ∙ rw (p.ended t, append-nil (ended_of t ms)) (o.ended t);
        movers = λ t. flat_append (mover_to t) ms ps ∙ rw (p.movers t, append-nil (movers_of t ms)) (o.movers t);
      }

  pub only_without : (xs : List Message) (p : ℕ) {l : Message} {b : ChannelMessage} → get_elem? xs p ≡ some l → Posted c (one l) (one b)
      → OnlyOn c xs (without xs p)
  only_without xs p {l} e q =
      record {
        others = λ d ne. flat_without (message_on d) xs p e (sym (flat_one (message_on d) l) ∙ q.off d ne);
        ended = λ t. flat_without (ended_to t) xs p e (sym (flat_one (ended_to t) l) ∙ q.ended t);
        movers = λ t. flat_without (mover_to t) xs p e (sym (flat_one (mover_to t) l) ∙ q.movers t);
      }

  pub messages_posted : (ms : List Message) {ps : List Message} {ls : List ChannelMessage} → Posted c ps ls → messages_on c (ms ++ ps) ≡ messages_on c ms ++ ls
  messages_posted ms {ps} p = flat_append (message_on c) ms ps ∙ ap (messages_on c ms ++◌) p.on

-- how the word passes, with the words under way then
module _ {c : ChannelId} {value : Word} {before then : List Word} where
  pub passing_nothing : {w : Word} → then ≡ before → Passing c value before 0 0 w then None
  passing_nothing e = rw e nothing

  pub passing_direct : before ≡ [] → then ≡ [] → Passing c value before 1 1 value then (Some (c, value))
  passing_direct b e = rw e (direct b)

  pub passing_called : {w : Word} → before ≡ [] → then ≡ one value → Passing c value before 1 0 w then None
  passing_called b e = rw e (called b)

  pub passing_taken : (w : Word) → before ≡ one w → then ≡ [] → Passing c value before 0 1 w then (Some (c, w))
  passing_taken w b e = rw e (taken w b)

-- the view of channel c after outcome o at desk d, with the mail ms
abbrev pub outcome_view : Programs → Histories → Reading → ChannelId → ℕ → Outcome → List Message → View
outcome_view m h x c d o ms =
    record {
      processors = x.processors;
      sender = sender_view (program_of m (sender_of m c)) c o.sender;
      receiver = receiver_view (program_of m (receiver_of m c)) c (h (receiver_of m c)) o.receiver;
      tables = tables_view (at_number (x.entries c) d o.cell.entry);
      state = state_view o.cell.channel;
      messages = messages_on c ms;
    }

-- what it leaves of the two ends: each takes a turn, and an end that is none stays
pub record EndsStep (m : Programs) (x : Reading) (c : ChannelId) (o : Outcome) (n k : ℕ) (value : Word) : Type 0 where
  pub sender : EndStep (program_of m (sender_of m c)) op_send Sending c (x.tasks (sender_of m c)) n (x.tasks (sender_of m c)).word o.sender
  pub receiver : EndStep (program_of m (receiver_of m c)) op_receive Receiving c (x.tasks (receiver_of m c)) k value o.receiver
  pub no_sender : (sender_of m c).0 ≡ 0 → o.sender ≡ x.tasks (sender_of m c)
  pub no_receiver : (receiver_of m c).0 ≡ 0 → o.receiver ≡ x.tasks (receiver_of m c)

-- the tasks then
abbrev tasks_then : Programs → Reading → ChannelId → Outcome → TaskId → Task
tasks_then m x c o = at_task (at_task x.tasks (sender_of m c) o.sender) (receiver_of m c) o.receiver

module _ (m : Programs) (a : plan_answer m ≡ Ok tt) (x : Reading) (c : ChannelId) (o : Outcome) {n k : ℕ} {value : Word}
    (ends : EndsStep m x c o n k value) where
  receiver_then_lem : tasks_then m x c o (receiver_of m c) ≡ o.receiver
  receiver_then_lem = at_task_lem (at_task x.tasks (sender_of m c) o.sender) (receiver_of m c) o.receiver

  sender_then_lem : tasks_then m x c o (sender_of m c) ≡ o.sender
  sender_then_lem =
      let s = sender_of m c in
      let u = receiver_of m c in
      let first = at_task x.tasks s o.sender in
      by_cases (ℕ_discrete s.0 u.0)
      (λ (e : s.0 ≡ u.0).
      by_cases (ℕ_discrete s.0 0)
      (λ (z : s.0 ≡ 0).
      let same : s ≡ u = ap task_id e in
      ap (tasks_then m x c o) same ∙ receiver_then_lem ∙ ends.no_receiver (sym e ∙ z) ∙ ap x.tasks (sym same) ∙ sym (ends.no_sender z))
      (λ nz. absurd (ends_differ m a c (omega arith) e)))
      (λ ne. at_other first u s o.receiver ne ∙ at_task_lem x.tasks s o.sender)

  -- what is read of both ends as before is read of each task
  seen_then : {A : Type 0} (f : Program → Task → A)
      → f (program_of m (sender_of m c)) o.sender ≡ f (program_of m (sender_of m c)) (x.tasks (sender_of m c))
      → f (program_of m (receiver_of m c)) o.receiver ≡ f (program_of m (receiver_of m c)) (x.tasks (receiver_of m c))
      → (t : TaskId) → f (program_of m t) (tasks_then m x c o t) ≡ f (program_of m t) (x.tasks t)
  seen_then f p q =
      at_elim (λ t z. f (program_of m t) z ≡ f (program_of m t) (x.tasks t)) (at_task x.tasks (sender_of m c) o.sender) (receiver_of m c)
      o.receiver q
      (λ t nu. at_elim (λ t z. f (program_of m t) z ≡ f (program_of m t) (x.tasks t)) x.tasks (sender_of m c) o.sender p (λ t ns. refl) t)

  module _ (h : Histories) (d : ℕ) (ms : List Message) where
    -- the view of this channel, and of another
    view_then_lem : view_of m h (with_outcome_read x (sender_of m c) (receiver_of m c) c d o ms) c ≡ outcome_view m h x c d o ms
    unfolding view_of
    view_then_lem =
        let entries = at_number (x.entries c) d o.cell.entry in
        let channel = o.cell.channel in
        rw (sender_then_lem, receiver_then_lem, at_channel_lem x.entries c entries, at_channel_lem x.channels c channel) refl

    others_then : 1 ≤ c.0 → OnlyOn c x.messages ms → (b : ChannelId) → b.0 ≢ c.0
        → view_of m h (with_outcome_read x (sender_of m c) (receiver_of m c) c d o ms) b ≡ view_of m h x b
    unfolding view_of
    others_then low network b ne =
        let s = ends.sender in
        let u = ends.receiver in
        let history = h (receiver_of m b) in
        let entries = at_number (x.entries c) d o.cell.entry in
        rw (
          seen_then (λ g z. sender_view g b z) (end_step_other_sender sends low s b ne) (end_step_other_sender receives low u b ne) (sender_of m b),
          seen_then (λ g z. receiver_view g b history z) (end_step_other_receiver sends low s b ne history)
              (end_step_other_receiver receives low u b ne history) (receiver_of m b),
          at_other_channel x.entries c b entries ne,
          at_other_channel x.channels c b o.cell.channel ne,
          network.others b ne,
        )
        refl

-- the act by which that happens: the event, and how the word passes and places go on
module _ (m : Programs) (a : plan_answer m ≡ Ok tt) (h : Histories) (x : Reading) (c : ChannelId) (low : 1 ≤ c.0) (high : c.0 ≤ 128)
    (d : ℕ) (o : Outcome) where
  pub outcome_transition : {ms : List Message} {n k : ℕ} {value : Word} {received : Received} (e : Event)
      → EndsStep m x c o n k value
      → OnlyOn c x.messages ms
      → guard e (view_of m h x c)
      → outcome_view m h x c d o ms ≡ after e (view_of m h x c)
      → Passing c (x.tasks (sender_of m c)).word (words_in (messages_on c x.messages)) n k value (words_in (messages_on c ms)) received
      → ((y : TaskId → Task) → y (sender_of m c) ≡ o.sender → y (receiver_of m c) ≡ o.receiver → Ran m (sender_of m c) (receiver_of m c) x.tasks y e)
      → ChannelTransition m h x (with_outcome_read x (sender_of m c) (receiver_of m c) c d o ms) e received
  outcome_transition {ms} {n} {k} {value} e ends network allowed view passing ran =
      let y = with_outcome_read x (sender_of m c) (receiver_of m c) c d o ms in
      record {
        channel = c;
        low = low;
        high = high;
        allowed = allowed;
        view = view_then_lem m a x c o ends h d ms ∙ view;
        others = λ b l u ne. others_then m a x c o ends h d ms low network b ne;
        sender = o.sender;
        receiver = o.receiver;
        tasks = refl;
        sent = n;
        got = k;
        value = value;
        sender_end_step = ends.sender;
        receiver_end_step = ends.receiver;
        passing = passing;
        ran = ran y.tasks (sender_then_lem m a x c o ends) (receiver_then_lem m a x c o ends);
        parents = refl;
        processors = refl;
        other_messages = network.others;
        ended = network.ended;
        movers = network.movers;
      }
