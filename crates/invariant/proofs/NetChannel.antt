-- A step about one channel, in the net: nothing, or a word passes.
use mathlib.Core.Path.{◌≡◌, refl, sym, ap, ◌∙◌}
use mathlib.Core.Bool.{true, false}
use mathlib.Core.List.{List, [], ◌∷◌, ◌++◌, append-nil, append_assoc}
use mathlib.Core.Logic.{◌≢◌}
use Prim.Native.Nat.{ℕ, suc, ◌+◌, ◌≤◌}
use native.Mathlib.Omega.{arith}
use lib.ListN.{length}
use borrow.Author.Tests.{eq-eqb, ne_eqb}
use Rattle.std.specs.Prelude.{None, Some, Ok}
use Rattle.base.proofs.Tests.{and_both, tests_differ, is_true}
use Rattle.net.specs.Machines.{stop, take}
use Rattle.plan.specs.declared.TaskId.{TaskId}
use Rattle.plan.specs.declared.ChannelId.{ChannelId}
use Rattle.plan.specs.declared.Word.{Word}
use Rattle.plan.specs.Kinds.{op_send, op_receive}
use Rattle.plan.specs.Programs.{Program, Programs}
use Rattle.plan.specs.Users.{sender_of, receiver_of}
use Rattle.plan.specs.Refusals.{plan_answer}
use Rattle.rules.specs.declared.task.TaskState.{TaskState}
use Rattle.rules.specs.declared.task.TaskState.TheVariants.{Unborn, Ready, Waiting, Sending, Receiving, Done}
use Rattle.rules.specs.declared.task.Task.{Task}
use Rattle.rules.specs.declared.message.Message.{Message}
use Rattle.rules.specs.Reports.{Received}
use Rattle.rules.specs.Tasks.{is_in}
use Rattle.rules.specs.Places.{is_on}
use Rattle.rules.specs.Steps.{word_on}
use Rattle.net.specs.States.{Net, at_task}
use Rattle.net.specs.Labels.{pass, takes_part}
use Rattle.net.specs.Guards.{stands_at, enabled}
use Rattle.net.specs.Effects.{after_pass, effect}
use Rattle.net.specs.Consistent.{Consistent}
use Rattle.net.proofs.Parts.{sender_part, receiver_part}
use Rattle.net.proofs.Stays.{completed_grows, completed_stays, word_stays}
use Rattle.channel.specs.Bags.{one}
use Rattle.channel.specs.Events.{Event}
use Rattle.channel.specs.Invariant.{Invariant}
use Rattle.channel.proofs.Keep.{keeps}
use Rattle.transitions.specs.Readings.{Reading}
use Rattle.transitions.specs.Progress.{flag, program_of, completed_by}
use Rattle.transitions.specs.Messages.{words_in, messages_on}
use Rattle.transitions.specs.Views.{Histories, receiver_view, view_of}
use Rattle.transitions.specs.EndSteps.{EndStep, stays, begins, passes, ends}
use Rattle.transitions.specs.Transitions.{Passing, nothing, direct, called, taken, ChannelTransition}
use Rattle.transitions.specs.Agreement.{coming_to, Agrees, PassedAlike, Running}
use Rattle.transitions.proofs.Updates.{at_task_lem, at_other, at_elim, channel_cases, at_channel_lem, at_other_channel}
use Rattle.transitions.proofs.Flats.{words_length, none_of}
use Rattle.transitions.proofs.Tasks.{state_is, Side, sends, receives, on_in, ready_off}
use Rattle.transitions.proofs.EndSteps.{begins_on, end_step_completed, end_step_word, end_step_overflow, end_step_steady}
use Rattle.invariant.proofs.Coming.{coming_none, coming_on, coming_alike, agrees_born, agrees_completed, agrees_word, ahead_completed, ahead_word}
use Rattle.invariant.proofs.Coming.{alike_agrees, agrees_quiet, agrees_ahead, agrees_free}
use Rattle.invariant.proofs.NetSteps.{Follows, stands_use, stands_on, receives_there}

-- a word is under way only to whom receives
module _ (m : Programs) (h : Histories) (x : Reading) (c : ChannelId) (i : Invariant (view_of m h x c)) where
  words_few : length (words_in (messages_on c x.messages)) ≤ flag (is_on Receiving (program_of m (receiver_of m c)) c (x.tasks (receiver_of m c)))
  unfolding view_of receiver_view
  words_few = let k = i.counts in omega (arith, words_length (messages_on c x.messages), k.marked, k.receives)

  words_none : is_on Receiving (program_of m (receiver_of m c)) c (x.tasks (receiver_of m c)) ≡ false → words_in (messages_on c x.messages) ≡ []
  words_none e = none_of (words_in (messages_on c x.messages)) (let l = rw e at words_few in omega arith)

  words_received : (v : Word) → words_in (messages_on c x.messages) ≡ one v
      → is_on Receiving (program_of m (receiver_of m c)) c (x.tasks (receiver_of m c)) ≡ true
  words_received v e = is_true _ (λ f. let l : 1 ≤ 0 = rw (e, f) at words_few in omega arith)

-- nothing is on its way to an end that completes its instruction
module _ {g : Program} {c : ChannelId} {x : Task} (ms : List Message) where
  sender_none : {v : Word} {z : Task} → EndStep g op_send Sending c x 1 v z → coming_to g ms x ≡ []
  sender_none (passes v u) = coming_none g x ms (state_is Ready Receiving x u.ready)
  sender_none (ends v o) = coming_none g x ms (state_is Sending Receiving x (on_in sends g c x o))

  receiver_none : {v : Word} {z : Task} → EndStep g op_receive Receiving c x 1 v z → words_in (messages_on c ms) ≡ [] → coming_to g ms x ≡ []
  receiver_none (passes v u) e = coming_none g x ms (state_is Ready Receiving x u.ready)
  receiver_none (ends v o) e = coming_on g x c ms o ∙ e

-- the ends of the channel: what agreed with the net before the step agrees after it
module _ {m : Programs} {s s' : Net} {ms ns : List Message} {t : TaskId} {x : Task} (a : Agrees m s ms t x) (born : s'.born t ≡ s.born t)
    (marked : s'.overflow t ≡ s.overflow t) (c : ChannelId) (low : 1 ≤ c.0) where
  -- the sender, which completes n instructions
  sender_turned : {n : ℕ} {v : Word} {z : Task} → EndStep (program_of m t) op_send Sending c x n v z → v ≡ x.word → s'.completed t ≡ s.completed t + n
      → s'.word t ≡ s.word t → is_in Unborn x ≡ false → is_in Receiving x ≡ false
      → is_in Unborn z ≡ false → is_in Waiting z ≡ false → is_in Receiving z ≡ false → is_in Done z ≡ false → Agrees m s' ns t z
  sender_turned u e k w b r zb zw zr zd =
      let none = coming_none (program_of m t) x ms r in
      agrees_quiet (born ∙ agrees_born a b) (marked ∙ a.overflow ∙ sym (end_step_overflow u)) zb zw (λ d. absurd (tests_differ d zd)) (coming_none (program_of m t) _ ns zr)
      (omega (arith, agrees_completed a none, end_step_completed sends low u))
      (w ∙ agrees_word a none ∙ sym (end_step_word u ∙ e))

  sender_agrees : {n : ℕ} {v : Word} {z : Task} → EndStep (program_of m t) op_send Sending c x n v z → v ≡ x.word
      → s'.completed t ≡ s.completed t + n
      → s'.word t ≡ s.word t → coming_to (program_of m t) ns x ≡ coming_to (program_of m t) ms x → Agrees m s' ns t z
  sender_agrees stays e k w same = alike_agrees a born (omega arith) w marked same
  sender_agrees (begins u) e k w same =
      sender_turned (begins u) e k w (state_is Ready Unborn x u.ready) (state_is Ready Receiving x u.ready) refl refl refl refl
  sender_agrees (passes v u) e k w same =
      sender_turned (passes v u) e k w (state_is Ready Unborn x u.ready) (state_is Ready Receiving x u.ready) refl refl refl refl
  sender_agrees (ends v o) e k w same =
      let q = on_in sends (program_of m t) c x o in
      sender_turned (ends v o) e k w (state_is Sending Unborn x q) (state_is Sending Receiving x q) refl refl refl refl

  -- the receiver, which completes nothing, while no word leaves
  receiver_agrees : {v : Word} {z : Task} → EndStep (program_of m t) op_receive Receiving c x 0 v z → s'.completed t ≡ s.completed t
      → s'.word t ≡ s.word t
      → coming_to (program_of m t) ns x ≡ coming_to (program_of m t) ms x → (is_on Receiving (program_of m t) c x ≡ false → words_in (messages_on c ns) ≡ [])
      → Agrees m s' ns t z
  receiver_agrees stays k w same quiet = alike_agrees a born k w marked same
  receiver_agrees (begins u) k w same quiet =
      let g = program_of m t in
      let none = coming_none g x ms (state_is Ready Receiving x u.ready) in
      agrees_quiet (born ∙ agrees_born a (state_is Ready Unborn x u.ready)) (marked ∙ a.overflow) refl refl (λ d. absurd (tests_differ d refl))
      (coming_on g _ c ns (begins_on receives g c x u) ∙ quiet (ready_off receives g c x u.ready))
      (k ∙ omega (arith, agrees_completed a none, end_step_completed receives low (begins u)))
      (w ∙ agrees_word a none)

  -- a word leaves, and the receiver receives
  receiver_ahead : {v u : Word} {z : Task} → EndStep (program_of m t) op_receive Receiving c x 0 v z → is_on Receiving (program_of m t) c z ≡ true
      → coming_to (program_of m t) ms x ≡ [] → s'.completed t ≡ suc (s.completed t) → s'.word t ≡ u → words_in (messages_on c ns) ≡ one u
      → Agrees m s' ns t z
  receiver_ahead {z = z} End-step o none k w e =
      let g = program_of m t in
      let q = on_in receives g c z o in
      let b = state_is Receiving Unborn z q in
      agrees_ahead (born ∙ agrees_born a (sym (end_step_steady receives End-step).unborn ∙ b)) (marked ∙ a.overflow ∙ sym (end_step_overflow End-step)) b (state_is Receiving Waiting z q)
      (λ d. absurd (tests_differ d (state_is Receiving Done z q)))
      (coming_on g z c ns o ∙ e)
      (omega (arith, agrees_completed a none, end_step_completed receives low End-step))
      w

  -- .. which completes one instruction
  receiver_passed : {v : Word} {z : Task} → EndStep (program_of m t) op_receive Receiving c x 1 v z → s'.completed t ≡ suc (completed_by x)
      → s'.word t ≡ v → Agrees m s' ns t z
  receiver_passed (passes v u) k w =
      agrees_free (born ∙ agrees_born a (state_is Ready Unborn x u.ready)) (marked ∙ a.overflow) refl refl refl
      (omega (arith, end_step_completed receives low (passes v u))) w
  receiver_passed (ends v o) k w =
      agrees_free (born ∙ agrees_born a (state_is Receiving Unborn x (on_in receives (program_of m t) c x o))) (marked ∙ a.overflow) refl refl refl
      (omega (arith, end_step_completed receives low (ends v o))) w

-- a word passes in the net
module _ (m : Programs) (s : Net) (c : ChannelId) where
  pass_born : (t : TaskId) → (effect m s (pass c)).born t ≡ s.born t
  unfolding effect after_pass
  pass_born t = refl

  pass_overflow : (t : TaskId) → (effect m s (pass c)).overflow t ≡ s.overflow t
  unfolding effect after_pass
  pass_overflow t = refl

  pass_sender_word : (sender_of m c).0 ≢ (receiver_of m c).0 → (effect m s (pass c)).word (sender_of m c) ≡ s.word (sender_of m c)
  unfolding effect after_pass
  pass_sender_word ne = at_other s.word (receiver_of m c) (sender_of m c) (s.word (sender_of m c)) ne

  pass_receiver_word : (effect m s (pass c)).word (receiver_of m c) ≡ s.word (sender_of m c)
  unfolding effect after_pass
  pass_receiver_word = at_task_lem s.word (receiver_of m c) (s.word (sender_of m c))

  pass_here : (effect m s (pass c)).passed c ≡ s.passed c ++ one (s.word (sender_of m c))
  unfolding effect after_pass
  pass_here = at_channel_lem s.passed c (s.passed c ++ one (s.word (sender_of m c)))

  pass_elsewhere : (d : ChannelId) → d.0 ≢ c.0 → (effect m s (pass c)).passed d ≡ s.passed d
  unfolding effect after_pass
  pass_elsewhere d ne = at_other_channel s.passed c d (s.passed c ++ one (s.word (sender_of m c))) ne

  pass_idle : (u : TaskId) → u.0 ≢ (receiver_of m c).0 → u.0 ≢ (sender_of m c).0 → takes_part m u (pass c) ≡ false
  unfolding takes_part
  pass_idle u r q = rw (ne_eqb u.0 (sender_of m c).0 q) (ne_eqb u.0 (receiver_of m c).0 r)

pass_enabled : (m : Programs) (s : Net) (c : ChannelId) → stands_at m s (sender_of m c) op_send c ≡ true
    → stands_at m s (receiver_of m c) op_receive c ≡ true
    → enabled m s (pass c) ≡ true
unfolding enabled
pass_enabled m s c p q = and_both (stands_at m s (sender_of m c) op_send c) _ p q

word_elsewhere : (c : ChannelId) (v : Word) (d : ChannelId) → d.0 ≢ c.0 → word_on d (Some (c, v)) ≡ []
unfolding word_on
word_elsewhere c v d ne = rw (ne_eqb c.0 d.0 (λ e. ne (sym e))) refl

module _ (m : Programs) (accepted : plan_answer m ≡ Ok tt) (s : Net) (consistent : Consistent m s)
    {h : Histories} {x : Reading} {w : ChannelId → List Word} (run : Running m h s x w) (y : Reading) (c : ChannelId) (low : 1 ≤ c.0)
    (high : c.0 ≤ 128)
    (other : (d : ChannelId) → d.0 ≢ c.0 → messages_on d y.messages ≡ messages_on d x.messages) where
  -- the words passed: what was under way and what leaves is what is received and then under way
  passed_alike : (s' : Net) (more : List Word) (got : Received) → s'.passed c ≡ s.passed c ++ more
      → ((d : ChannelId) → d.0 ≢ c.0 → s'.passed d ≡ s.passed d)
      → words_in (messages_on c x.messages) ++ more ≡ word_on c got ++ words_in (messages_on c y.messages)
      → ((d : ChannelId) → d.0 ≢ c.0 → word_on d got ≡ []) → PassedAlike s' (λ d. w d ++ word_on d got) y.messages
  passed_alike s' more got here away words none =
      channel_cases (λ d. s'.passed d ≡ (w d ++ word_on d got) ++ words_in (messages_on d y.messages)) c
      (here ∙ ap (◌++ more) (run.passed c) ∙ append_assoc (w c) (words_in (messages_on c x.messages)) more ∙ ap (w c ++◌) words
      ∙ sym (append_assoc (w c) (word_on c got) (words_in (messages_on c y.messages))))
      (λ d ne. away d ne ∙ run.passed d ∙ rw (none d ne, other d ne, append-nil (w d)) refl)

  -- nothing changes in what comes to another task
  coming_apart : (u : TaskId) → u.0 ≢ (receiver_of m c).0
      → coming_to (program_of m u) y.messages (x.tasks u) ≡ coming_to (program_of m u) x.messages (x.tasks u)
  coming_apart u ne =
      coming_alike (program_of m u) (x.tasks u) x.messages y.messages
      (channel_cases
      (λ d. is_on Receiving (program_of m u) d (x.tasks u) ≡ true → words_in (messages_on d y.messages) ≡ words_in (messages_on d x.messages)) c
      (λ o. absurd (ne (ap (λ (v : TaskId). v.0) (sym (receives_there m accepted s consistent run u c o)))))
      (λ d q o. rw (other d q) refl))

  coming_kept : words_in (messages_on c y.messages) ≡ words_in (messages_on c x.messages) → (u : TaskId)
      → coming_to (program_of m u) y.messages (x.tasks u) ≡ coming_to (program_of m u) x.messages (x.tasks u)
  coming_kept e u =
      coming_alike (program_of m u) (x.tasks u) x.messages y.messages
      (λ d o. channel_cases (λ d. words_in (messages_on d y.messages) ≡ words_in (messages_on d x.messages)) c e (λ d q. rw (other d q) refl) d)

  -- what is said of the ends is said of all
  ends_agree : (s' : Net) (first second : Task) → y.tasks ≡ at_task (at_task x.tasks (sender_of m c) first) (receiver_of m c) second
      → ((sender_of m c).0 ≢ (receiver_of m c).0 → Agrees m s' y.messages (sender_of m c) first) → Agrees m s' y.messages (receiver_of m c) second
      → ((u : TaskId) → u.0 ≢ (receiver_of m c).0 → u.0 ≢ (sender_of m c).0 → Agrees m s' y.messages u (x.tasks u))
      → (u : TaskId) → Agrees m s' y.messages u (y.tasks u)
  ends_agree s' first second e one two rest u =
      rw e
      (at_elim (λ v z. Agrees m s' y.messages v z) (at_task x.tasks (sender_of m c) first) (receiver_of m c) second two
      (λ v ne. at_elim (λ v z. v.0 ≢ (receiver_of m c).0 → Agrees m s' y.messages v z) x.tasks (sender_of m c) first one
      (λ v q r. rest v r q) v ne)
      u)

  -- an end that completes an instruction is at it in the net
  end_step_stands : {k : ℕ} {u : TaskState} → Side k u → (t : TaskId) {v : Word} {z : Task} → EndStep (program_of m t) k u c (x.tasks t) 1 v z
      → coming_to (program_of m t) x.messages (x.tasks t) ≡ [] → stands_at m s t k c ≡ true
  end_step_stands {k} side t (passes v u) none = stands_use m accepted s consistent run t k c u
  end_step_stands side t (ends v o) none = stands_on m accepted s consistent run t side c o none

  -- a receiver that receives afterwards and completes nothing
  receiver_there : {v : Word} {z : Task} → EndStep (program_of m (receiver_of m c)) op_receive Receiving c (x.tasks (receiver_of m c)) 0 v z
      → is_on Receiving (program_of m (receiver_of m c)) c z ≡ true → words_in (messages_on c x.messages) ≡ []
      → (coming_to (program_of m (receiver_of m c)) x.messages (x.tasks (receiver_of m c)) ≡ []) × (stands_at m s (receiver_of m c) op_receive c ≡ true)
  receiver_there stays o none =
      let quiet = coming_on (program_of m (receiver_of m c)) (x.tasks (receiver_of m c)) c x.messages o ∙ none in
      (quiet, stands_on m accepted s consistent run (receiver_of m c) receives c o quiet)
  receiver_there (begins u) o none =
      let z = x.tasks (receiver_of m c) in (
        coming_none (program_of m (receiver_of m c)) z x.messages (state_is Ready Receiving z u.ready),
        stands_use m accepted s consistent run (receiver_of m c) op_receive c u,
      )

  module _ (first second : Task) (tasks : y.tasks ≡ at_task (at_task x.tasks (sender_of m c) first) (receiver_of m c) second) where
    second_at : y.tasks (receiver_of m c) ≡ second
    second_at = rw tasks (at_task_lem (at_task x.tasks (sender_of m c) first) (receiver_of m c) second)

    -- no word leaves, and the net stays
    still_follows : (got : Received)
        → EndStep (program_of m (sender_of m c)) op_send Sending c (x.tasks (sender_of m c)) 0 (x.tasks (sender_of m c)).word first
        → Agrees m s y.messages (receiver_of m c) second → words_in (messages_on c x.messages) ≡ word_on c got ++ words_in (messages_on c y.messages)
        → ((d : ChannelId) → d.0 ≢ c.0 → word_on d got ≡ []) → Follows m s y (λ d. w d ++ word_on d got)
    still_follows got End-step two words none =
        record {
          end = s;
          labels = [];
          run = stop;
          agrees = ends_agree s first second tasks
              (λ ne. sender_agrees (run.agrees (sender_of m c)) refl refl c low End-step refl (omega arith) refl (coming_apart (sender_of m c) ne))
              two (λ u r q. alike_agrees (run.agrees u) refl refl refl refl (coming_apart u r));
          passed =
              passed_alike s [] got (sym (append-nil (s.passed c))) (λ d ne. refl) (append-nil (words_in (messages_on c x.messages)) ∙ words) none;
        }

    -- a word leaves, and passes in the net
    pass_follows : (got : Received)
        → EndStep (program_of m (sender_of m c)) op_send Sending c (x.tasks (sender_of m c)) 1 (x.tasks (sender_of m c)).word first
        → stands_at m s (receiver_of m c) op_receive c ≡ true
        → ((effect m s (pass c)).completed (receiver_of m c) ≡ suc (s.completed (receiver_of m c))
        → (effect m s (pass c)).word (receiver_of m c) ≡ (x.tasks (sender_of m c)).word
        → Agrees m (effect m s (pass c)) y.messages (receiver_of m c) second)
        → words_in (messages_on c x.messages) ++ one (x.tasks (sender_of m c)).word ≡ word_on c got ++ words_in (messages_on c y.messages)
        → ((d : ChannelId) → d.0 ≢ c.0 → word_on d got ≡ []) → Follows m s y (λ d. w d ++ word_on d got)
    pass_follows got End-step there two words none =
        let a = run.agrees (sender_of m c) in
        let quiet = sender_none x.messages End-step in
        let value = agrees_word a quiet in
        let may = pass_enabled m s c (end_step_stands sends (sender_of m c) End-step quiet) there in
        let s' = effect m s (pass c) in
        record {
          end = s';
          labels = pass c ∷ [];
          run = take (pass c) may stop;
          agrees = ends_agree s' first second tasks
              (λ ne.
              sender_agrees a (pass_born m s c (sender_of m c)) (pass_overflow m s c (sender_of m c)) c low End-step refl
              (omega (arith, completed_grows m s (pass c) (sender_of m c) may (sender_part m c))) (pass_sender_word m s c ne)
              (coming_apart (sender_of m c) ne))
              (two (completed_grows m s (pass c) (receiver_of m c) may (receiver_part m c)) (pass_receiver_word m s c ∙ value))
              (λ u r q.
              let idle = pass_idle m s c u r q in
              alike_agrees (run.agrees u) (pass_born m s c u) (completed_stays m s (pass c) u idle) (word_stays m s (pass c) u idle)
              (pass_overflow m s c u) (coming_apart u r));
          passed = passed_alike s' (one (x.tasks (sender_of m c)).word) got (pass_here m s c ∙ rw value refl) (pass_elsewhere m s c) words none;
        }

    -- by how the word passes
    follows : {sent got : ℕ} {value : Word} {after : List Word} {received : Received}
        → EndStep (program_of m (sender_of m c)) op_send Sending c (x.tasks (sender_of m c)) sent (x.tasks (sender_of m c)).word first
        → EndStep (program_of m (receiver_of m c)) op_receive Receiving c (x.tasks (receiver_of m c)) got value second
        → Passing c (x.tasks (sender_of m c)).word (words_in (messages_on c x.messages)) sent got value after received
        → words_in (messages_on c y.messages) ≡ after → Invariant (view_of m h y c) → Follows m s y (λ d. w d ++ word_on d received)
    unfolding word_on
    follows p q nothing e i =
        still_follows None p
        (receiver_agrees (run.agrees (receiver_of m c)) refl refl c low q refl refl (coming_kept e (receiver_of m c))
        (λ o. e ∙ words_none m h x c (run.views c low high) o))
        (sym e) (λ d ne. refl)
    follows p q (direct none) e i =
        let a = run.agrees (receiver_of m c) in
        let quiet = receiver_none x.messages q none in
        pass_follows (Some (c, (x.tasks (sender_of m c)).word)) p (end_step_stands receives (receiver_of m c) q quiet)
        (λ k v. receiver_passed a (pass_born m s c (receiver_of m c)) (pass_overflow m s c (receiver_of m c)) c low q (k ∙ ap suc (agrees_completed a quiet)) v)
        (rw (none, e, eq-eqb c.0 c.0 refl) refl) (word_elsewhere c (x.tasks (sender_of m c)).word)
    follows p q (called none) e i =
        let o = rw (second_at) at (words_received m h y c i (x.tasks (sender_of m c)).word e) in
        let (quiet, there) = receiver_there q o none in
        pass_follows None p there
        (λ k v. receiver_ahead (run.agrees (receiver_of m c)) (pass_born m s c (receiver_of m c)) (pass_overflow m s c (receiver_of m c)) c low q o quiet k v e)
        (rw (none, e) refl) (λ d ne. refl)
    follows p q (taken v some) e i =
        let a = run.agrees (receiver_of m c) in
        let coming =
        coming_on (program_of m (receiver_of m c)) (x.tasks (receiver_of m c)) c x.messages
        (words_received m h x c (run.views c low high) v some) ∙ some in
        still_follows (Some (c, v)) p (receiver_passed a refl refl c low q (ahead_completed a coming) (ahead_word a coming))
        (rw (some, e, eq-eqb c.0 c.0 refl) refl) (word_elsewhere c v)

-- each step about one channel
pub channel_follows : (m : Programs) → plan_answer m ≡ Ok tt → (s : Net) → Consistent m s
    → {h : Histories} {x y : Reading} {w : ChannelId → List Word} {e : Event} {received : Received} → Running m h s x w
    → ChannelTransition m h x y e received
    → Follows m s y (λ d. w d ++ word_on d received)
channel_follows m accepted s consistent {h} {x} {y} {e = e} run transition =
    let c = transition.channel in
    let i : Invariant (view_of m h y c) = rw transition.view (keeps e (view_of m h x c) (run.views c transition.low transition.high) transition.allowed) in
    follows m accepted s consistent run y c transition.low transition.high transition.other_messages transition.sender transition.receiver transition.tasks transition.sender_end_step
    transition.receiver_end_step
    transition.passing refl i
