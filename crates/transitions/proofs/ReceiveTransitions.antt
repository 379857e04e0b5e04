-- An accepted receive is an act of its channel.
use mathlib.Core.Path.{◌≡◌, refl}
use mathlib.Core.Bool.{Bool, true, false, not, ◌&&◌}
use mathlib.Core.Logic.{◌≢◌}
use mathlib.Core.List.{List, [], ◌++◌, append-nil}
use Prim.Native.Nat.{ℕ, ◌-◌, ◌≤◌}
use native.Mathlib.Numerals.{add-one}
use native.Mathlib.Omega.{arith}
use lib.ListN.{length}
use borrow.Author.Tests.{eqb-true, eqb-false, eq-eqb, ltb-true, ltb-false, not-true, not-false}
use Rattle.std.specs.Prelude.{Ok}
use Rattle.base.specs.Choice.{within}
use Rattle.base.proofs.Choices.{pick_cases}
use Rattle.base.proofs.Tests.{and_left, and_right, second_fails, within_low, within_high}
use Rattle.plan.specs.declared.TaskId.{TaskId}
use Rattle.plan.specs.declared.ProcessorId.{ProcessorId}
use Rattle.plan.specs.declared.ChannelId.{ChannelId}
use Rattle.plan.specs.declared.Word.{Word}
use Rattle.plan.specs.Kinds.{op_send, op_receive}
use Rattle.plan.specs.Programs.{Programs}
use Rattle.plan.specs.Refusals.{plan_answer}
use Rattle.plan.specs.Users.{sender_of, receiver_of}
use Rattle.plan_laws.proofs.Programs.{receive_operand, user_few}
use Rattle.plan_laws.proofs.Ends.{receives_on_lem}
use Rattle.rules.specs.declared.task.TaskState.TheVariants.{Sending}
use Rattle.rules.specs.declared.channel.Offer.{Offer}
use Rattle.rules.specs.declared.channel.Cell.{Cell}
use Rattle.rules.specs.declared.rule.Posting.{Posting}
use Rattle.rules.specs.declared.rule.Posting.TheVariants.{Nothing}
use Rattle.rules.specs.declared.rule.Site.{Site}
use Rattle.rules.specs.declared.rule.Outcome.{Outcome}
use Rattle.rules.specs.declared.system.System.{System}
use Rattle.rules.specs.Numbers.{no_processor, is_none}
use Rattle.rules.specs.Tasks.{is_in, is_at}
use Rattle.rules.specs.Cells.{no_offer, counts, none_called, with_carried, with_noted, granting}
use Rattle.rules.specs.Networks.{messages_of}
use Rattle.rules.specs.Places.{is_on, last_in, send_number}
use Rattle.rules.specs.Receive.{call_to, receive_passes, receive_waits, receive_rule}
use Rattle.rules.specs.Systems.{task_at, meaning}
use Rattle.rules.specs.Runs.{ran_receive, executed, next_of, ran, run_answer}
use Rattle.rules.specs.Sound.{system_ok}
use Rattle.rules_laws.specs.Shapes.{Shaped}
use Rattle.net.specs.States.{Net}
use Rattle.channel.specs.Updates.{at_number}
use Rattle.channel.specs.Messages.{ChannelMessage}
use Rattle.channel.specs.Views.{View, with_messages}
use Rattle.channel.specs.Transfers.{Receives}
use Rattle.channel.specs.Events.{Transfer, transfer_guard, transferred, receive_passes_lem, receive_waits_lem, carried_answered_lem, noted_answered_lem}
use Rattle.channel.specs.Invariant.{Invariant}
use Rattle.transitions.specs.Readings.{Reading, reading}
use Rattle.transitions.specs.Progress.{program_of}
use Rattle.transitions.specs.Messages.{flat, messages_on, word_in, words_in}
use Rattle.transitions.specs.Views.{Histories, sender_view, receiver_view, tables_view, state_view, view_of}
use Rattle.transitions.specs.EndSteps.{AtUse, stays, begins, passes, ends}
use Rattle.transitions.specs.Transitions.{by_receiver}
use Rattle.transitions.specs.Agreement.{Running}
use Rattle.transitions.proofs.Flags.{flag_on, flag_is}
use Rattle.transitions.proofs.Flats.{no_words}
use Rattle.transitions.proofs.Tasks.{sends, on_in, waits_in}
use Rattle.transitions.proofs.EndSteps.{receiver_ready, receiver_begins, receiver_passes, sender_ends, send_last}
use Rattle.transitions.proofs.Frames.{nobody}
use Rattle.transitions.proofs.Rigs.{plan_accepted}
use Rattle.transitions.proofs.Runs.{run_instruction, runs_of}
use Rattle.transitions.proofs.Outcomes.{site_read, tables_same, tables_noted, posted_call, Posted, posted_nothing, passing_nothing, passing_direct}
use Rattle.transitions.proofs.Outcomes.{outcome_view}
use Rattle.transitions.proofs.Transfers.{view_is, Transfers, transfers_by, words_kept, transfers_read, RunsOn, TransferTransition, runs_cell, runs_next}
use Rattle.transitions.proofs.Transfers.{transfer_transition}

-- channel c, whose receiver is about to receive on it
module _ (m : Programs) (a : plan_answer m ≡ Ok tt) (h : Histories) (x : Reading) (c : ChannelId) (low : 1 ≤ c.0) (high : c.0 ≤ 128)
    (inv : Invariant (view_of m h x c)) (number : within 1 (length m) (receiver_of m c).0 ≡ true)
    (next : AtUse (program_of m (receiver_of m c)) op_receive c (x.tasks (receiver_of m c))) (stands : 1 ≤ (x.tasks (receiver_of m c)).processor.0)
    (waiting : is_in Sending (x.tasks (sender_of m c)) ≡ true
    → (1 ≤ (sender_of m c).0) × ((last_in (program_of m (sender_of m c)) (x.tasks (sender_of m c))).opcode ≡ op_send)) where
  abbrev s : TaskId
  s = sender_of m c

  abbrev u : TaskId
  u = receiver_of m c

  abbrev processor : ProcessorId
  processor = (x.tasks u).processor

  abbrev site : Site
  site = site_read m x c processor.0

  abbrev sending : Bool
  sending = is_on Sending (program_of m s) c (x.tasks s)

  abbrev w : ℕ
  w = send_number (program_of m s) c ((x.tasks s).pc - 1)

  abbrev v : View
  v = view_of m h x c

  abbrev Transitions : Outcome → Type 0
  Transitions o = Transfers m h x c processor.0 o

  some : 1 ≤ u.0
  some = within_low 1 (length m) u.0 number

  idle : v.receiver.receiving ≡ 0
  unfolding view_of
  idle = receiver_ready (program_of m u) c (x.tasks u) (h u) next.ready

  -- the word passes directly
  module _ (on : sending ≡ true) (here : is_at processor (x.tasks s) ≡ true) where
    no_words_under_way : words_in (messages_on c x.messages) ≡ []
    unfolding view_of
    no_words_under_way = no_words (messages_on c x.messages) (omega (arith, inv.counts.marked, inv.counts.receives, idle))

    passes_guard : transfer_guard receive_passes_lem v
    unfolding transfer_guard view_of sender_view receiver_view
    passes_guard = record { stands = stands; idle = idle; sending = flag_on _ on; here = eqb-true _ _ here }

    passes_view : with_messages (messages_on c x.messages ++ []) (outcome_view m h x c processor.0 (receive_passes site c w) [])
        ≡ transferred receive_passes_lem v
    unfolding transferred view_of sender_view receiver_view receive_passes state_view
    passes_view =
        let z = x.tasks s in
        let g = program_of m s in
        let kind = (waiting (on_in sends g c z on)).1 in
        view_is refl
        (sender_ends g c z z.word low on kind)
        (receiver_passes (program_of m u) c (x.tasks u) (h u) z.word next)
        (tables_same (x.entries c) processor.0)
        (rw (send_last g c z low on kind) refl)
        (append-nil (messages_on c x.messages))

    passes_transition : Transitions (receive_passes site c w)
    unfolding receive_passes
    passes_transition =
        let z = x.tasks s in
        let (one, kind) = waiting (on_in sends (program_of m s) c z on) in
        let l = some in
        transfers_by m a h x c low high processor.0 receive_passes_lem (receive_passes site c w)
        (record {
          sender = ends z.word on;
          receiver = passes z.word next;
          no_sender = λ e. absurd (omega arith);
          no_receiver = λ e. absurd (omega arith);
        })
        (posted_nothing c x.processors) passes_guard passes_view (passing_direct no_words_under_way (rw append-nil no_words_under_way))
        (λ y p q. by_receiver number next.high (rw q (omega arith)) (rw p refl))

  -- it waits; ls is posted, in which there is no word
  module _ (e : Transfer) (cell : Cell) (posting : Posting) {ls : List ChannelMessage} (join : Posted c (messages_of x.processors posting) ls)
      (none : words_in ls ≡ []) where
    waits_transition : transfer_guard e v
        → record {
          processors = x.processors;
          sender = v.sender;
          receiver = record { at = processor.0; receiving = 1; received = v.receiver.received; moves = (x.tasks u).moves; history = h u };
          tables = tables_view (at_number (x.entries c) processor.0 cell.entry);
          state = state_view cell.channel;
          messages = v.messages ++ ls;
        }
        ≡ transferred e v
        → Transitions (receive_waits site cell posting)
    unfolding receive_waits view_of
    waits_transition allowed view =
        let l = some in
        let z = x.tasks u in
        transfers_by m a h x c low high processor.0 e (receive_waits site cell posting)
        (record { sender = stays; receiver = begins next; no_sender = λ e. refl; no_receiver = λ e. absurd (omega arith) })
        join allowed (rw (receiver_begins (program_of m u) c z (h u) next) view)
        (passing_nothing (words_kept (messages_on c x.messages) ls none))
        (λ y p q. by_receiver number next.high (rw q (omega arith)) (rw p refl))

  abbrev carried : Offer
  carried = (x.channels c).carried

  abbrev noted : ProcessorId
  noted = (x.entries c processor.0).noted

  module _ (not_here : sending && is_at processor (x.tasks s) ≡ false) where
    about : Receives v
    unfolding view_of sender_view receiver_view
    about = record { stands = stands; idle = idle; apart = λ e. eqb-false _ _ (second_fails sending _ not_here (flag_is sending e)) }

    -- a carried offer that counts is answered
    carried_transition : counts site.cell carried ≡ true
        → Transitions (receive_waits site (granting (with_carried site.cell no_offer)) (call_to carried.processor c (x.tasks u)))
    unfolding transfer_guard transferred view_of receiver_view state_view messages_of flat word_in
    carried_transition more =
        waits_transition carried_answered_lem (granting (with_carried site.cell no_offer)) (call_to carried.processor c (x.tasks u))
        (posted_call c carried.processor _) refl
        (record { receive = about; counts = ltb-true _ _ more })
        (view_is refl refl refl (tables_same (x.entries c) processor.0) (rw add-one refl) refl)

    module _ (less : counts site.cell carried ≡ false) where
      -- the noted desk is answered
      noted_transition : none_called site.cell && not (is_none noted) ≡ true
          → Transitions (receive_waits site (granting (with_noted site.cell no_processor)) (call_to noted c (x.tasks u)))
      unfolding transfer_guard transferred view_of receiver_view tables_view state_view messages_of flat word_in
      noted_transition e =
          let first = eqb-true _ 0 (and_left (none_called site.cell) _ e) in
          let some-noted : noted.0 ≢ 0 = eqb-false _ _ (not-true (is_none noted) (and_right (none_called site.cell) _ e)) in
          waits_transition noted_answered_lem (granting (with_noted site.cell no_processor)) (call_to noted c (x.tasks u)) (posted_call c noted _) refl
          (record { receive = about; stale = ltb-false _ _ less; first = first; noted = omega arith })
          (view_is refl refl refl (tables_noted (x.entries c) processor.0 no_processor) (rw add-one refl) refl)

      -- nobody is answered
      waits_only : none_called site.cell && not (is_none noted) ≡ false → Transitions (receive_waits site site.cell Nothing)
      unfolding transfer_guard transferred view_of receiver_view tables_view state_view flat
      waits_only e =
          waits_transition receive_waits_lem site.cell Nothing (posted_nothing c x.processors) refl
          (record {
            receive = about;
            stale = ltb-false _ _ less;
            unnoted = λ none. eqb-true _ 0 (not-false (is_none noted) (second_fails (none_called site.cell) _ e (eq-eqb _ 0 none)));
          })
          (view_is refl refl refl (tables_same (x.entries c) processor.0) refl (append-nil v.messages))

  -- by the cases of the rule
  receive_transfers : Transitions (receive_rule site c w)
  unfolding receive_rule
  receive_transfers =
      pick_cases Transitions (sending && is_at processor (x.tasks s)) (receive_passes site c w) _
      (λ e. passes_transition (and_left sending _ e) (and_right sending _ e))
      (λ e.
      pick_cases Transitions (counts site.cell carried)
      (receive_waits site (granting (with_carried site.cell no_offer)) (call_to carried.processor c (x.tasks u))) _
      (carried_transition e)
      (λ less.
      pick_cases Transitions (none_called site.cell && not (is_none noted))
      (receive_waits site (granting (with_noted site.cell no_processor)) (call_to noted c (x.tasks u))) _
      (noted_transition e less)
      (waits_only e less)))

module _ (r : System) (shaped : Shaped r) (ok : system_ok r ≡ true) (h : Histories) {n : Net} {received : ChannelId → List Word}
    (run : Running (meaning r) h n (reading r) received) where
  -- the receiver of channel c runs a receive on it
  receive_on : (c : ChannelId) → within 1 128 c.0 ≡ true
      → RunsOn r op_receive c (receiver_of (meaning r) c) (ran_receive r (receiver_of (meaning r) c) c)
      → TransferTransition r h (ran_receive r (receiver_of (meaning r) c) c)
  unfolding ran_receive reading
  receive_on c number on =
      let m = meaning r in
      let s = sender_of m c in
      let u = receiver_of m c in
      let low = within_low 1 128 c.0 number in
      let high = within_high 1 128 c.0 number in
      let is = runs_cell r shaped ok on number in
      let there = (runs_of r shaped ok u on.accepted).number in
      let sender = waits_in m (reading r) (nobody r) run.tasks sends s (user_few m op_send c.0) in
      transfers_read r shaped ok h c (task_at r u).processor is (λ y. receive_rule y c (send_number (program_of m s) c (y.sender.pc - 1)))
      (receive_transfers m (plan_accepted r shaped ok) h (reading r) c low high (run.views c low high) there (runs_next r shaped ok on)
      is.processor sender)
      on.fits

  pub receive_transition : (t : TaskId) → run_answer r t ≡ Ok tt → (next_of r t).opcode ≡ op_receive → TransferTransition r h (ran r t)
  unfolding ran executed
  receive_transition t a kind =
      let m = meaning r in
      let number = receive_operand r.plan.tasks (next_of r t) (run_instruction r shaped ok t a) kind in
      transfer_transition r shaped ok h op_receive (receiver_of m) (ran_receive r) (receives_on_lem m (plan_accepted r shaped ok)) receive_on t a kind number
      (rw kind refl)
