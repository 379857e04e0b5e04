-- The delivery of a call and of a word is an act of its channel; each finds the end that it supposes.
use mathlib.Core.Path.{◌≡◌, refl, ap, ◌∙◌}
use mathlib.Core.Bool.{true}
use mathlib.Core.List.{List, [], ◌++◌, append-nil}
use mathlib.Core.Option.{some}
use Prim.Native.Nat.{ℕ, ◌-◌, ◌≤◌}
use native.Mathlib.Omega.{arith}
use lib.ListN.{get_elem?}
use borrow.Author.Tests.{eq-eqb}
use Rattle.std.specs.Prelude.{None, Some, Ok}
use Rattle.base.proofs.Tests.{and_left, within_low, within_high}
use Rattle.plan.specs.declared.ProcessorId.{ProcessorId}
use Rattle.plan.specs.declared.ChannelId.{ChannelId}
use Rattle.plan.specs.declared.Word.{Word}
use Rattle.plan.specs.Refusals.{plan_answer}
use Rattle.plan.specs.Kinds.{op_send, op_receive}
use Rattle.plan.specs.Numbers.{task_id}
use Rattle.plan.specs.Programs.{Programs}
use Rattle.plan.specs.Users.{sender_of, receiver_of}
use Rattle.plan_laws.proofs.Answers.{and_parts}
use Rattle.plan_laws.proofs.Programs.{user_few}
use Rattle.rules.specs.declared.channel.Hint.{Hint}
use Rattle.rules.specs.declared.task.Task.{Task}
use Rattle.rules.specs.declared.task.TaskState.TheVariants.{Sending, Receiving}
use Rattle.rules.specs.declared.message.Message.TheVariants.{ReadyToReceive, Data}
use Rattle.rules.specs.declared.rule.Posting.TheVariants.{Nothing, Single}
use Rattle.rules.specs.declared.rule.Outcome.{Outcome}
use Rattle.rules.specs.declared.system.System.{System}
use Rattle.rules.specs.Numbers.{processor_ok, channel_number_ok}
use Rattle.rules.specs.Networks.{message_at, messages_of}
use Rattle.rules.specs.Tasks.{is_in, is_at, no_task, readied, taking}
use Rattle.rules.specs.Places.{is_on}
use Rattle.rules.specs.Cells.{newer, with_hint, cleared}
use Rattle.rules.specs.Systems.{meaning, channel_at}
use Rattle.rules.specs.Calls.{call_rule, data_rule}
use Rattle.rules.specs.Deliver.{opened}
use Rattle.rules.specs.Sound.{message_ok, system_ok}
use Rattle.rules_laws.specs.Shapes.{Shaped}
use Rattle.net.specs.States.{Net}
use Rattle.channel.specs.Bags.{one, without}
use Rattle.channel.specs.Views.{View, with_messages}
use Rattle.channel.specs.Deliveries.{Called, WordTaken}
use Rattle.channel.specs.Events.{call_taken, word_taken_lem, delivery_guard, delivered as deliveredView}
use Rattle.channel.specs.Invariant.{Invariant}
use Rattle.channel.specs.Messages.{call, word, ChannelMessage}
use Rattle.channel.proofs.Bags.{in_at}
use Rattle.channel.proofs.Claims.{call_finds, word_finds, few_messages, call_alone}
use Rattle.transitions.specs.Readings.{Reading, reading, cell_of}
use Rattle.transitions.specs.Progress.{program_of}
use Rattle.transitions.specs.Messages.{message_on, messages_on, word_in, words_in}
use Rattle.transitions.specs.Views.{Histories, view_of, sender_view, receiver_view, tables_view, state_view}
use Rattle.transitions.specs.EndSteps.{stays, ends}
use Rattle.transitions.specs.Agreement.{TasksOk, Running}
use Rattle.transitions.proofs.Flags.{flag_is}
use Rattle.transitions.proofs.Flats.{Sorted, flat_post, flat_without, no_words, one_word}
use Rattle.transitions.proofs.Tasks.{sends, receives, on_in, waits_in}
use Rattle.transitions.proofs.EndSteps.{sender_ends, receiver_ends}
use Rattle.transitions.proofs.Frames.{channel_there_lem, nobody}
use Rattle.transitions.proofs.Rigs.{message_ok_lem, message_at_lem}
use Rattle.transitions.proofs.Outcomes.{site_read, tables_same, tables_hint, posted_nothing, posted_call, posted_word_lem, passing_called, passing_taken}
use Rattle.transitions.proofs.Outcomes.{outcome_view}
use Rattle.transitions.proofs.MessageTransitions.{place, Transitions, transitions_by, DeliveredTransition, delivery_transition}

-- nobody is where there is no task, and the tasks are such as 9 does not refuse
module _ (m : Programs) (x : Reading) (none : x.tasks (task_id 0) ≡ no_task) (tasks : TasksOk m x) where
  module _ (h : Histories) (c : ChannelId) (low : 1 ≤ c.0) (good : Invariant (view_of m h x c)) (p : ℕ) where
    abbrev v : View
    v = view_of m h x c

    abbrev source : Task
    source = x.tasks (sender_of m c)

    abbrev target : Task
    target = x.tasks (receiver_of m c)

    abbrev ours : List ChannelMessage
    ours = messages_on c x.messages

    -- the call to desk d, with the receiver's pointer
    module _ (d : ProcessorId) (hint : Hint) (at : get_elem? x.messages p ≡ some (ReadyToReceive c d hint)) where
      abbrev answer : Sorted (message_on c) x.messages p (call d.0 hint.processor.0 hint.moves)
      answer = place c x.messages p at (posted_call c d hint)

      -- it finds the sender sending here, so this is what the rule leaves
      finds_sender : Called answer.place d.0 hint.processor.0 hint.moves v
      unfolding view_of
      finds_sender = call_finds v good answer.place d.0 hint.processor.0 hint.moves answer.at

      sending : is_on Sending (program_of m (sender_of m c)) c source ≡ true
      unfolding view_of sender_view
      sending = flag_is (is_on Sending (program_of m (sender_of m c)) c source) finds_sender.sending

      sender_here : is_at d source ≡ true
      unfolding view_of sender_view
      sender_here = eq-eqb _ _ finds_sender.here

      abbrev then_sent : Outcome
      then_sent =
          record {
            sender = readied source;
            receiver = target;
            cell = with_hint (cell_of x c d.0) (newer (x.entries c d.0).hint hint);
            posting = Single (Data c hint.processor source.word);
            received = None;
          }

      call_leaves_lem : then_sent ≡ call_rule (site_read m x c d.0) c d hint
      unfolding call_rule
      call_leaves_lem = rw (sending, sender_here) refl

      -- no word was under way, and one is then
      none_before : words_in ours ≡ []
      unfolding view_of
      none_before =
          no_words ours (call_alone v good d.0 hint.processor.0 hint.moves (in_at ours answer.place answer.at)).no_words

      abbrev message : ChannelMessage
      message = word hint.processor.0 source.word

      one_then : words_in (without ours answer.place ++ one message) ≡ one source.word
      unfolding word_in
      one_then =
          flat_post word_in (without ours answer.place) message (one source.word) refl
          ∙ ap (◌++ one source.word) (flat_without word_in ours answer.place answer.at refl ∙ none_before)

      sender_waits : is_in Sending source ≡ true
      sender_waits = on_in sends (program_of m (sender_of m c)) c source sending

      call_seen : with_messages (without ours answer.place ++ one message) (outcome_view m h x c d.0 then_sent [])
          ≡ deliveredView answer.place (call_taken d.0 hint.processor.0 hint.moves source.word) v
      unfolding view_of deliveredView sender_view tables_view
      call_seen =
          let kind = (waits_in m x none tasks sends (sender_of m c) (user_few m op_send c.0) sender_waits).1 in
          rw (
            sender_ends (program_of m (sender_of m c)) c source source.word low sending kind,
            tables_hint (x.entries c) d.0 (newer (x.entries c d.0).hint hint),
          )
          refl

      call_transitions : plan_answer m ≡ Ok tt → c.0 ≤ 128 → Transitions m h x p c d.0 (call_rule (site_read m x c d.0) c d hint)
      unfolding delivery_guard messages_of
      call_transitions accepted high =
          let some = (waits_in m x none tasks sends (sender_of m c) (user_few m op_send c.0) sender_waits).0 in
          rw (← call_leaves_lem)
          (transitions_by m accepted h x c low high p d.0 at (posted_call c d hint)
          (call_taken d.0 hint.processor.0 hint.moves source.word) then_sent
          (record { sender = ends source.word sending; receiver = stays; no_sender = λ e. absurd (omega arith); no_receiver = λ e. refl })
          refl refl (omega arith) (posted_word_lem c hint.processor source.word) (passing_called none_before one_then) finds_sender call_seen)

    -- the word w to desk d
    module _ (d : ProcessorId) (w : Word) (at : get_elem? x.messages p ≡ some (Data c d w)) where
      abbrev its : Sorted (message_on c) x.messages p (word d.0 w)
      its = place c x.messages p at (posted_word_lem c d w)

      -- it finds the receiver receiving here and having called
      finds_receiver : WordTaken its.place d.0 w v
      unfolding view_of
      finds_receiver = word_finds v good its.place d.0 w its.at

      receiving : is_on Receiving (program_of m (receiver_of m c)) c target ≡ true
      unfolding view_of receiver_view
      receiving = flag_is (is_on Receiving (program_of m (receiver_of m c)) c target) finds_receiver.receiving

      receiver_here : is_at d target ≡ true
      unfolding view_of receiver_view
      receiver_here = eq-eqb _ _ finds_receiver.here

      marked : (x.channels c).awaiting ≡ true
      unfolding view_of state_view
      marked = flag_is (x.channels c).awaiting finds_receiver.called

      abbrev then_received : Outcome
      then_received =
          record { sender = source; receiver = taking target w; cell = cleared (cell_of x c d.0); posting = Nothing; received = Some (c, w) }

      word_leaves_lem : then_received ≡ data_rule (site_read m x c d.0) c d w
      unfolding data_rule
      word_leaves_lem = rw (receiver_here, receiving, marked) refl

      -- it was the one word under way
      alone : (words_in ours ≡ one w) × (words_in (without ours its.place) ≡ [])
      unfolding view_of
      alone = one_word ours its.place d.0 w its.at (omega (arith, few_messages v good))

      receiver_waits : is_in Receiving target ≡ true
      receiver_waits = on_in receives (program_of m (receiver_of m c)) c target receiving

      word_seen : with_messages (without ours its.place) (outcome_view m h x c d.0 then_received [])
          ≡ deliveredView its.place (word_taken_lem d.0 w) v
      unfolding view_of deliveredView receiver_view state_view
      word_seen =
          let kind = (waits_in m x none tasks receives (receiver_of m c) (user_few m op_receive c.0) receiver_waits).1 in
          rw (receiver_ends (program_of m (receiver_of m c)) c target (h (receiver_of m c)) w low receiving kind, tables_same (x.entries c) d.0) refl

      data_transitions : plan_answer m ≡ Ok tt → c.0 ≤ 128 → Transitions m h x p c d.0 (data_rule (site_read m x c d.0) c d w)
      unfolding delivery_guard messages_of
      data_transitions accepted high =
          let nothing = append-nil (without ours its.place) in
          let some = (waits_in m x none tasks receives (receiver_of m c) (user_few m op_receive c.0) receiver_waits).0 in
          let (before, then) = alone in
          rw (← word_leaves_lem)
          (transitions_by m accepted h x c low high p d.0 at (posted_word_lem c d w) (word_taken_lem d.0 w) then_received
          (record { sender = stays; receiver = ends w receiving; no_sender = λ e. refl; no_receiver = λ e. absurd (omega arith) })
          refl refl (omega arith) (posted_nothing c x.processors) (passing_taken w before (rw nothing then)) finds_receiver (rw nothing word_seen))

-- the letter at position p of a rig that a run reaches
module _ (r : System) (shaped : Shaped r) (ok : system_ok r ≡ true) (h : Histories) {s : Net} {w : ChannelId → List Word}
    (run : Running (meaning r) h s (reading r) w) (p : ℕ) (low : 1 ≤ p) (high : p ≤ r.network.used) where
  pub call_transition : (c : ChannelId) (d : ProcessorId) (hint : Hint) → message_at r.network p ≡ ReadyToReceive c d hint → DeliveredTransition r h p
  unfolding opened message_ok
  call_transition c d hint e =
      let (number, rest) = and_parts (channel_number_ok c) _ (message_ok_lem r shaped ok p low high (ReadyToReceive c d hint) e) in
      let processor = and_left (processor_ok r.processors d) _ rest in
      delivery_transition r shaped ok p low high c d number processor h (ReadyToReceive c d hint) (λ x. call_rule x c d hint) e refl
      (λ accepted l u at. call_transitions (meaning r) (reading r) (nobody r) run.tasks h c l (run.views c l u) (p - 1) d hint at accepted u)

  pub data_transition : (c : ChannelId) (d : ProcessorId) (value : Word) → message_at r.network p ≡ Data c d value → DeliveredTransition r h p
  unfolding opened message_ok
  data_transition c d value e =
      let (number, processor) = and_parts (channel_number_ok c) (processor_ok r.processors d) (message_ok_lem r shaped ok p low high (Data c d value) e) in
      delivery_transition r shaped ok p low high c d number processor h (Data c d value) (λ x. data_rule x c d value) e refl
      (λ accepted l u at. data_transitions (meaning r) (reading r) (nobody r) run.tasks h c l (run.views c l u) (p - 1) d value at accepted u)

  -- what they find
  pub call_found : (c : ChannelId) (d : ProcessorId) (hint : Hint) → message_at r.network p ≡ ReadyToReceive c d hint
      → let s = sender_of (meaning r) c in
      (is_on Sending (program_of (meaning r) s) c ((reading r).tasks s) ≡ true) × (is_at d ((reading r).tasks s) ≡ true)
  unfolding message_ok
  call_found c d hint e =
      let number = and_left (channel_number_ok c) _ (message_ok_lem r shaped ok p low high (ReadyToReceive c d hint) e) in
      let l = within_low 1 128 c.0 number in
      let view = run.views c l (within_high 1 128 c.0 number) in
      let at = message_at_lem r shaped ok p low high (ReadyToReceive c d hint) e in (
        sending (meaning r) (reading r) (nobody r) run.tasks h c l view (p - 1) d hint at,
        sender_here (meaning r) (reading r) (nobody r) run.tasks h c l view (p - 1) d hint at,
      )

  pub word_found : (c : ChannelId) (d : ProcessorId) (value : Word) → message_at r.network p ≡ Data c d value
      → let u = receiver_of (meaning r) c in
      (is_at d ((reading r).tasks u) ≡ true) × (is_on Receiving (program_of (meaning r) u) c ((reading r).tasks u) ≡ true)
      × ((channel_at r c).awaiting ≡ true)
  unfolding message_ok reading
  word_found c d value e =
      let number = and_left (channel_number_ok c) _ (message_ok_lem r shaped ok p low high (Data c d value) e) in
      let l = within_low 1 128 c.0 number in
      let u = within_high 1 128 c.0 number in
      let view = run.views c l u in
      let at = message_at_lem r shaped ok p low high (Data c d value) e in (
        receiver_here (meaning r) (reading r) (nobody r) run.tasks h c l view (p - 1) d value at,
        receiving (meaning r) (reading r) (nobody r) run.tasks h c l view (p - 1) d value at,
        rw (← channel_there_lem r c l u) (marked (meaning r) (reading r) (nobody r) run.tasks h c l view (p - 1) d value at),
      )
