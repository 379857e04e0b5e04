-- An accepted send is an act of its channel.
use mathlib.Core.Path.{◌≡◌, refl, sym, ap, subst, ◌∙◌, fun_ext}
use mathlib.Core.Bool.{Bool, true, false, not, ◌&&◌}
use mathlib.Core.List.{List, [], ◌++◌, append-nil}
use Prim.Native.Nat.{ℕ, zero, suc, ◌≤◌}
use native.Mathlib.Omega.{arith}
use lib.Dec.{eqb}
use lib.ListN.{length}
use borrow.Author.Tests.{eqb-true, eqb-false, ne_eqb, not-true}
use Rattle.std.specs.Prelude.{Ok}
use Rattle.base.specs.Choice.{pick, within}
use Rattle.base.specs.Range.{fold, joined}
use Rattle.base.proofs.Choices.{pick_cases, pick_either, pick_under}
use Rattle.base.proofs.Tests.{and_left, and_right, second_fails, within_low, within_high}
use Rattle.plan.specs.declared.TaskId.{TaskId}
use Rattle.plan.specs.declared.ProcessorId.{ProcessorId}
use Rattle.plan.specs.declared.ChannelId.{ChannelId}
use Rattle.plan.specs.declared.Word.{Word}
use Rattle.plan.specs.Numbers.{processor_id}
use Rattle.plan.specs.Kinds.{op_send, op_receive}
use Rattle.plan.specs.Programs.{Programs}
use Rattle.plan.specs.Refusals.{plan_answer}
use Rattle.plan.specs.Users.{sender_of, receiver_of}
use Rattle.plan_laws.proofs.Programs.{send_operand, user_few}
use Rattle.plan_laws.proofs.Ends.{sends_on_lem}
use Rattle.rules.specs.declared.task.TaskState.TheVariants.{Ready, Sending, Receiving}
use Rattle.rules.specs.declared.task.Task.{Task}
use Rattle.rules.specs.declared.channel.Hint.{Hint}
use Rattle.rules.specs.declared.channel.Cell.{Cell}
use Rattle.rules.specs.declared.message.Message.{Message}
use Rattle.rules.specs.declared.message.Message.TheVariants.{Offered, Advert}
use Rattle.rules.specs.declared.rule.Posting.{Posting}
use Rattle.rules.specs.declared.rule.Posting.TheVariants.{Nothing, Single, Adverts}
use Rattle.rules.specs.declared.rule.Site.{Site}
use Rattle.rules.specs.declared.rule.Outcome.{Outcome}
use Rattle.rules.specs.declared.system.System.{System}
use Rattle.rules.specs.Numbers.{same_processor}
use Rattle.rules.specs.Tasks.{state_number, is_in, is_at, with_state, with_word, advanced, readied}
use Rattle.rules.specs.Cells.{is_unknown, offer, carrying, holding}
use Rattle.rules.specs.Networks.{messages_of}
use Rattle.rules.specs.Places.{is_on, last_in, send_number}
use Rattle.rules.specs.Send.{send_passes, send_waits, send_rule}
use Rattle.rules.specs.Systems.{task_at, meaning}
use Rattle.rules.specs.Runs.{ran_send, executed, next_of, ran, run_answer}
use Rattle.rules.specs.Sound.{system_ok}
use Rattle.rules_laws.specs.Shapes.{Shaped}
use Rattle.net.specs.States.{Net}
use Rattle.channel.specs.Updates.{at_number}
use Rattle.channel.specs.Bags.{one}
use Rattle.channel.specs.Messages.{ChannelMessage, advert, adverts}
use Rattle.channel.specs.Views.{View, with_messages}
use Rattle.channel.specs.Transfers.{Sends}
use Rattle.channel.specs.Events.{Transfer, transfer_guard, transferred, send_passes_lem, send_carried_lem, send_advertised_lem, send_held_lem, send_posted_lem}
use Rattle.channel.specs.Invariant.{Invariant}
use Rattle.transitions.specs.Readings.{Reading, reading}
use Rattle.transitions.specs.Progress.{program_of}
use Rattle.transitions.specs.Messages.{flat, message_on, messages_on, word_in, words_in, ended_to, mover_to}
use Rattle.transitions.specs.Views.{Histories, sender_view, receiver_view, tables_view, state_view, view_of}
use Rattle.transitions.specs.EndSteps.{AtUse, EndStep, stays, begins, passes, ends}
use Rattle.transitions.specs.Transitions.{by_sender}
use Rattle.transitions.specs.Agreement.{Running}
use Rattle.transitions.proofs.Flags.{flag_on, flag_off, flag_not}
use Rattle.transitions.proofs.Flats.{flat_append, flat_one, no_words}
use Rattle.transitions.proofs.Tasks.{receives, on_in, waits_in, same_state}
use Rattle.transitions.proofs.EndSteps.{sender_ready, sender_begins, sender_passes, receiver_ends, send_next}
use Rattle.transitions.proofs.Frames.{nobody}
use Rattle.transitions.proofs.Rigs.{plan_accepted}
use Rattle.transitions.proofs.Runs.{run_instruction, runs_of}
use Rattle.transitions.proofs.Outcomes.{site_read, tables_same, tables_held, Posted, posted_nothing, posted_offer, posted_advert, passing_nothing}
use Rattle.transitions.proofs.Outcomes.{passing_direct, outcome_view}
use Rattle.transitions.proofs.Transfers.{view_is, Transfers, transfers_by, words_kept, transfers_read, RunsOn, TransferTransition, runs_cell, runs_next}
use Rattle.transitions.proofs.Transfers.{transfer_transition}

-- lists joined, of which each gives something
module _ {A : Type 0} {B : Type 0} (f : A → List B) where
  flat_joined : (n : ℕ) (g : ℕ → List A) → flat f (joined n g) ≡ joined n (λ k. flat f (g k))
  unfolding fold flat
  flat_joined zero g = refl
  flat_joined (suc n) g = flat_append f (joined n g) (g n) ∙ ap (◌++ flat f (g n)) (flat_joined n g)

joined_nothing : {A : Type 0} (n : ℕ) (g : ℕ → List A) → ((k : ℕ) → g k ≡ []) → joined n g ≡ []
unfolding fold
joined_nothing zero g e = refl
joined_nothing (suc n) g e = rw (joined_nothing n g e, e n) refl

-- the adverts of a desk to every other one
module _ (c : ChannelId) (d : ProcessorId) (n : ℕ) where
  abbrev to : ℕ → Message
  to k = Advert c (processor_id (suc k)) d

  abbrev advert_to : ℕ → List Message
  advert_to k = pick (eqb (suc k) d.0) [] (one (to k))

  -- they give nothing where none gives something
  adverts_nothing : {B : Type 0} (f : Message → List B) → ((k : ℕ) → f (to k) ≡ []) → flat f (messages_of n (Adverts c d)) ≡ []
  unfolding messages_of flat
  adverts_nothing f e =
      flat_joined f n advert_to
      ∙ joined_nothing n _ (λ k. pick_either (λ l. flat f l ≡ []) (eqb (suc k) d.0) [] (one (to k)) refl (flat_one f (to k) ∙ e k))

  posted_adverts : Posted c (messages_of n (Adverts c d)) (adverts d.0 n)
  unfolding messages_of adverts flat message_on ended_to mover_to
  posted_adverts =
      let on : (k : ℕ) → flat (message_on c) (advert_to k) ≡ pick (eqb (suc k) d.0) [] (one (advert (suc k) d.0)) =
      λ k. pick_under (flat (message_on c)) (eqb (suc k) d.0) [] (one (to k)) ∙ rw (posted_advert c (processor_id (suc k)) d).on refl in
      record {
        on = flat_joined (message_on c) n advert_to ∙ ap (joined n) (fun_ext on);
        off = λ b ne. adverts_nothing (message_on b) (λ k. rw (ne_eqb c.0 b.0 (λ e. ne (sym e))) refl);
        ended = λ t. adverts_nothing (ended_to t) (λ k. refl);
        movers = λ t. adverts_nothing (mover_to t) (λ k. refl);
      }

  adverts_words : words_in (adverts d.0 n) ≡ []
  unfolding adverts flat word_in
  adverts_words =
      flat_joined word_in n _
      ∙ joined_nothing n _ (λ k. pick_either (λ l. words_in l ≡ []) (eqb (suc k) d.0) [] (one (advert (suc k) d.0)) refl refl)

-- a ready task that is ready again is as it was
readied_ready : (x : Task) → is_in Ready x ≡ true → readied x ≡ x
readied_ready x e = ap (with_state x) (sym (same_state x.state Ready (eqb-true (state_number x.state) 1 e)))

-- channel c, whose sender is about to send on it
module _ (m : Programs) (a : plan_answer m ≡ Ok tt) (h : Histories) (x : Reading) (c : ChannelId) (low : 1 ≤ c.0) (high : c.0 ≤ 128)
    (inv : Invariant (view_of m h x c)) (number : within 1 (length m) (sender_of m c).0 ≡ true)
    (next : AtUse (program_of m (sender_of m c)) op_send c (x.tasks (sender_of m c))) (stands : 1 ≤ (x.tasks (sender_of m c)).processor.0)
    (waiting : is_in Receiving (x.tasks (receiver_of m c)) ≡ true
    → (1 ≤ (receiver_of m c).0) × ((last_in (program_of m (receiver_of m c)) (x.tasks (receiver_of m c))).opcode ≡ op_receive)) where
  abbrev s : TaskId
  s = sender_of m c

  abbrev u : TaskId
  u = receiver_of m c

  abbrev processor : ProcessorId
  processor = (x.tasks s).processor

  abbrev site : Site
  site = site_read m x c processor.0

  abbrev receiving : Bool
  receiving = is_on Receiving (program_of m u) c (x.tasks u)

  abbrev marked : Bool
  marked = (x.channels c).awaiting

  abbrev w : ℕ
  w = send_number (program_of m s) c (x.tasks s).pc

  abbrev v : View
  v = view_of m h x c

  abbrev Transitions : Outcome → Type 0
  Transitions o = Transfers m h x c processor.0 o

  some : 1 ≤ s.0
  some = within_low 1 (length m) s.0 number

  sent_next : w ≡ suc v.sender.sent
  unfolding view_of
  sent_next = send_next (program_of m s) c (x.tasks s) next

  about : Sends v
  unfolding view_of sender_view
  about = record { stands = stands; idle = sender_ready (program_of m s) c (x.tasks s) next.ready }

  -- the word passes directly
  module _ (here : is_at processor (x.tasks u) ≡ true) (on : receiving ≡ true) (unmarked : marked ≡ false) where
    ready : advanced (with_word (readied (x.tasks s)) (x.tasks s).word) ≡ advanced (x.tasks s)
    ready = ap (λ (y : Task). advanced (with_word y (x.tasks s).word)) (readied_ready (x.tasks s) next.ready)

    no_words_under_way : words_in (messages_on c x.messages) ≡ []
    unfolding view_of state_view
    no_words_under_way = no_words (messages_on c x.messages) (omega (arith, inv.counts.marked, flag_off _ unmarked))

    passes_guard : transfer_guard send_passes_lem v
    unfolding transfer_guard view_of sender_view receiver_view state_view
    passes_guard = record { send = about; here = eqb-true _ _ here; receiving = flag_on _ on; uncalled = flag_off _ unmarked }

    passes_view : with_messages (messages_on c x.messages ++ []) (outcome_view m h x c processor.0 (send_passes site c w) []) ≡ transferred send_passes_lem v
    unfolding transferred view_of sender_view receiver_view send_passes state_view
    passes_view =
        let z = x.tasks s in
        let g = program_of m s in
        let kind = (waiting (on_in receives (program_of m u) c (x.tasks u) on)).1 in
        view_is refl
        (ap (sender_view g c) (sym ready) ∙ sender_passes g c z z.word next)
        (receiver_ends (program_of m u) c (x.tasks u) (h u) z.word low on kind)
        (tables_same (x.entries c) processor.0)
        (rw sent_next refl)
        (append-nil (messages_on c x.messages))

    passes_transition : Transitions (send_passes site c w)
    unfolding send_passes
    passes_transition =
        let z = x.tasks s in
        let (one, kind) = waiting (on_in receives (program_of m u) c (x.tasks u) on) in
        let l = some in
        transfers_by m a h x c low high processor.0 send_passes_lem (send_passes site c w)
        (record {
          sender = subst (λ y. EndStep (program_of m s) op_send Sending c z 1 z.word y) ready (passes z.word next);
          receiver = ends z.word on;
          no_sender = λ e. absurd (omega arith);
          no_receiver = λ e. absurd (omega arith);
        })
        (posted_nothing c x.processors) passes_guard passes_view (passing_direct no_words_under_way (rw append-nil no_words_under_way))
        (λ y p q. by_sender number next.high (rw p (omega arith)) (rw q refl))

  -- it waits; ls is posted, in which there is no word
  module _ (e : Transfer) (cell : Cell) (posting : Posting) {ls : List ChannelMessage} (join : Posted c (messages_of x.processors posting) ls)
      (none : words_in ls ≡ []) where
    waits_transition : transfer_guard e v
        → record {
          processors = x.processors;
          sender = record { at = processor.0; sending = 1; sent = v.sender.sent };
          receiver = v.receiver;
          tables = tables_view (at_number (x.entries c) processor.0 cell.entry);
          state = state_view cell.channel;
          messages = v.messages ++ ls;
        }
        ≡ transferred e v
        → Transitions (send_waits site cell posting)
    unfolding send_waits view_of
    waits_transition allowed view =
        let l = some in
        let z = x.tasks s in
        transfers_by m a h x c low high processor.0 e (send_waits site cell posting)
        (record { sender = begins next; receiver = stays; no_sender = λ e. absurd (omega arith); no_receiver = λ e. refl })
        join allowed (rw (sender_begins (program_of m s) c z next) view)
        (passing_nothing (words_kept (messages_on c x.messages) ls none))
        (λ y p q. by_sender number next.high (rw p (omega arith)) (rw q refl))

  abbrev hint : Hint
  hint = (x.entries c processor.0).hint

  -- the receiver is here and does not take it: its offer is carried
  carried_transition : is_at processor (x.tasks u) ≡ true → receiving && not marked ≡ false → Transitions (send_waits site (carrying site.cell (offer processor w)) Nothing)
  unfolding transfer_guard transferred view_of sender_view receiver_view state_view flat
  carried_transition here busy =
      waits_transition send_carried_lem (carrying site.cell (offer processor w)) Nothing (posted_nothing c x.processors) refl
      (record { send = about; here = eqb-true _ _ here; busy = flag_not receiving marked busy })
      (view_is refl refl refl (tables_same (x.entries c) processor.0) (rw sent_next refl) (append-nil v.messages))

  -- the receiver is elsewhere
  module _ (away : is_at processor (x.tasks u) ≡ false) where
    -- no pointer is known here: every other desk gets an advert
    advertised_transition : is_unknown hint ≡ true → Transitions (send_waits site site.cell (Adverts c processor))
    unfolding transfer_guard transferred view_of sender_view receiver_view tables_view state_view
    advertised_transition unknown =
        waits_transition send_advertised_lem site.cell (Adverts c processor) (posted_adverts c processor x.processors) (adverts_words c processor x.processors)
        (record { send = about; away = eqb-false _ _ away; unknown = eqb-true _ _ unknown })
        (view_is refl refl refl (tables_same (x.entries c) processor.0) refl refl)

    -- the pointer names this desk: the offer is held
    held_transition : same_processor hint.processor processor ≡ true → Transitions (send_waits site (holding site.cell (offer processor w)) Nothing)
    unfolding transfer_guard transferred view_of sender_view receiver_view tables_view state_view flat
    held_transition named =
        waits_transition send_held_lem (holding site.cell (offer processor w)) Nothing (posted_nothing c x.processors) refl
        (record { send = about; away = eqb-false _ _ away; named = eqb-true _ _ named })
        (view_is refl refl refl (rw sent_next (tables_held (x.entries c) processor.0 _)) refl (append-nil v.messages))

    -- the pointer names another desk: the offer is posted to it
    posted_transition : is_unknown hint ≡ false → same_processor hint.processor processor ≡ false
        → Transitions (send_waits site site.cell (Single (Offered c (offer processor w) hint)))
    unfolding transfer_guard transferred view_of sender_view receiver_view tables_view state_view messages_of flat word_in
    posted_transition known other =
        waits_transition send_posted_lem site.cell (Single (Offered c (offer processor w) hint)) (posted_offer c (offer processor w) hint) refl
        (record { send = about; away = eqb-false _ _ away; known = eqb-false _ _ known; other = eqb-false _ _ other })
        (view_is refl refl refl (tables_same (x.entries c) processor.0) refl (rw sent_next refl))

  -- by the cases of the rule
  send_transfers : Transitions (send_rule site c w)
  unfolding send_rule
  send_transfers =
      pick_cases Transitions (is_at processor (x.tasks u) && (receiving && not marked)) (send_passes site c w) _
      (λ e.
      let q = and_right (is_at processor (x.tasks u)) _ e in
      passes_transition (and_left (is_at processor (x.tasks u)) _ e) (and_left receiving _ q) (not-true marked (and_right receiving _ q)))
      (λ e.
      pick_cases Transitions (is_at processor (x.tasks u)) (send_waits site (carrying site.cell (offer processor w)) Nothing) _
      (λ here. carried_transition here (second_fails _ _ e here))
      (λ away.
      pick_cases Transitions (is_unknown hint) (send_waits site site.cell (Adverts c processor)) _
      (advertised_transition away)
      (λ known.
      pick_cases Transitions (same_processor hint.processor processor) (send_waits site (holding site.cell (offer processor w)) Nothing) _
      (held_transition away)
      (posted_transition away known))))

module _ (r : System) (shaped : Shaped r) (ok : system_ok r ≡ true) (h : Histories) {n : Net} {received : ChannelId → List Word}
    (run : Running (meaning r) h n (reading r) received) where
  -- the sender of channel c runs a send on it
  send_on : (c : ChannelId) → within 1 128 c.0 ≡ true → RunsOn r op_send c (sender_of (meaning r) c) (ran_send r (sender_of (meaning r) c) c)
      → TransferTransition r h (ran_send r (sender_of (meaning r) c) c)
  unfolding ran_send reading
  send_on c number on =
      let m = meaning r in
      let s = sender_of m c in
      let low = within_low 1 128 c.0 number in
      let high = within_high 1 128 c.0 number in
      let is = runs_cell r shaped ok on number in
      let there = (runs_of r shaped ok s on.accepted).number in
      let receiver = waits_in m (reading r) (nobody r) run.tasks receives (receiver_of m c) (user_few m op_receive c.0) in
      transfers_read r shaped ok h c (task_at r s).processor is (λ y. send_rule y c (send_number (program_of m s) c y.sender.pc))
      (send_transfers m (plan_accepted r shaped ok) h (reading r) c low high (run.views c low high) there (runs_next r shaped ok on)
      is.processor receiver)
      on.fits

  pub send_transition : (t : TaskId) → run_answer r t ≡ Ok tt → (next_of r t).opcode ≡ op_send → TransferTransition r h (ran r t)
  unfolding ran executed
  send_transition t a kind =
      let m = meaning r in
      let number = send_operand r.plan.tasks (next_of r t) (run_instruction r shaped ok t a) kind in
      transfer_transition r shaped ok h op_send (sender_of m) (ran_send r) (sends_on_lem m (plan_accepted r shaped ok)) send_on t a kind number (rw kind refl)
