-- A run of a send or a receive: from what its rule leaves to the act.
use mathlib.Core.Path.{◌≡◌, refl, ap, ◌∙◌, subst}
use mathlib.Core.Bool.{true}
use mathlib.Core.List.{List, [], ◌++◌, append-nil}
use Prim.Native.Nat.{ℕ, suc, ◌+◌, ◌-◌, ◌≤◌, ◌<◌}
use native.Mathlib.Omega.{arith}
use lib.ListN.{length}
use borrow.Author.Tests.{eq-eqb}
use Rattle.std.specs.Prelude.{Ok}
use Rattle.base.specs.Choice.{within}
use Rattle.base.proofs.Tests.{and_both, within_low, within_high}
use Rattle.plan.specs.declared.TaskId.{TaskId}
use Rattle.plan.specs.declared.ProcessorId.{ProcessorId}
use Rattle.plan.specs.declared.ChannelId.{ChannelId}
use Rattle.plan.specs.declared.Word.{Word}
use Rattle.plan.specs.Numbers.{task_id, channel_id}
use Rattle.plan.specs.Kinds.{is_use}
use Rattle.plan.specs.Programs.{Programs, program_at, instruction_at}
use Rattle.plan.specs.Refusals.{plan_answer}
use Rattle.plan.specs.Users.{sender_of, receiver_of}
use Rattle.rules.specs.declared.task.Task.{Task}
use Rattle.rules.specs.declared.rule.Site.{Site}
use Rattle.rules.specs.declared.rule.Outcome.{Outcome}
use Rattle.rules.specs.declared.system.System.{System}
use Rattle.rules.specs.Networks.{messages_of}
use Rattle.rules.specs.Places.{next_in}
use Rattle.rules.specs.Systems.{task_at, meaning}
use Rattle.rules.specs.Effects.{Effect, completed, with_outcome, applied}
use Rattle.rules.specs.Runs.{next_of, run_answer, ran}
use Rattle.rules.specs.Sound.{system_ok}
use Rattle.rules_laws.specs.Shapes.{Shaped}
use Rattle.channel.specs.Messages.{ChannelMessage}
use Rattle.channel.specs.Views.{View, with_messages}
use Rattle.channel.specs.Events.{Transfer, transfer, transfer_guard, transferred, guard, after}
use Rattle.transitions.specs.Readings.{Reading, reading, with_outcome_read}
use Rattle.transitions.specs.Progress.{program_of}
use Rattle.transitions.specs.Messages.{messages_on, word_in, words_in}
use Rattle.transitions.specs.Views.{Histories, view_of}
use Rattle.transitions.specs.EndSteps.{AtUse}
use Rattle.transitions.specs.Transitions.{Passing, Ran, ChannelTransition}
use Rattle.transitions.proofs.Flats.{flat_append}
use Rattle.transitions.proofs.Frames.{IsCell, read_outcome}
use Rattle.transitions.proofs.Rigs.{is_cell, sender_few, receiver_few}
use Rattle.transitions.proofs.Runs.{run_settled, runs_of, run_fits}
use Rattle.transitions.proofs.Outcomes.{site_read, site_read_lem, Posted, only_same, only_posted, messages_posted, outcome_view, EndsStep, outcome_transition}

-- two views whose parts are the same
pub view_is : {v w : View} → v.processors ≡ w.processors → v.sender ≡ w.sender → v.receiver ≡ w.receiver → v.tables ≡ w.tables
    → v.state ≡ w.state → v.messages ≡ w.messages → v ≡ w
view_is p s r t k l = λ i. record { processors = p i; sender = s i; receiver = r i; tables = t i; state = k i; messages = l i }

-- an outcome of a rule about channel c at desk d is an act, by a transfer; an end that is none stays
pub record Transfers (m : Programs) (h : Histories) (x : Reading) (c : ChannelId) (d : ℕ) (o : Outcome) : Type 0 where
  pub no_sender : (sender_of m c).0 ≡ 0 → o.sender ≡ x.tasks (sender_of m c)
  pub no_receiver : (receiver_of m c).0 ≡ 0 → o.receiver ≡ x.tasks (receiver_of m c)
  pub by : Transfer
  pub transition :
      ChannelTransition m h x (with_outcome_read x (sender_of m c) (receiver_of m c) c d o (x.messages ++ messages_of x.processors o.posting)) (transfer by)
      o.received

module _ (m : Programs) (a : plan_answer m ≡ Ok tt) (h : Histories) (x : Reading) (c : ChannelId) (low : 1 ≤ c.0) (high : c.0 ≤ 128) (d : ℕ) where
  -- by event e; ls is what is posted
  pub transfers_by : (e : Transfer) (o : Outcome) {ls : List ChannelMessage} {n k : ℕ} {value : Word} → EndsStep m x c o n k value
      → Posted c (messages_of x.processors o.posting) ls
      → transfer_guard e (view_of m h x c)
      → with_messages (messages_on c x.messages ++ ls) (outcome_view m h x c d o []) ≡ transferred e (view_of m h x c)
      → Passing c (x.tasks (sender_of m c)).word (words_in (messages_on c x.messages)) n k value (words_in (messages_on c x.messages ++ ls))
      o.received
      → ((y : TaskId → Task) → y (sender_of m c) ≡ o.sender → y (receiver_of m c) ≡ o.receiver
      → Ran m (sender_of m c) (receiver_of m c) x.tasks y (transfer e))
      → Transfers m h x c d o
  unfolding guard after
  transfers_by e o {ls} end-steps join allowed view passing ran =
      let here = messages_posted c x.messages join in
      record {
        no_sender = end-steps.no_sender;
        no_receiver = end-steps.no_receiver;
        by = e;
        transition =
            outcome_transition m a h x c low high d o (transfer e) end-steps (only_posted c (only_same c x.messages) join) allowed
            (ap (λ z. with_messages z (outcome_view m h x c d o [])) here ∙ view) (rw here passing) ran;
      }

-- letters join in which there is no word
pub words_kept : (ks ls : List ChannelMessage) → words_in ls ≡ [] → words_in (ks ++ ls) ≡ words_in ks
words_kept ks ls none = flat_append word_in ks ls ∙ rw none (append-nil (words_in ks))

-- an effect is an act, by a transfer
abbrev pub TransferTransition : System → Histories → Effect → Type 0
TransferTransition r h effect = (e : Transfer) × ChannelTransition (meaning r) h (reading r) (reading (completed effect)) (transfer e) effect.received

module _ (r : System) (shaped : Shaped r) (ok : system_ok r ≡ true) where
  -- what a rule about channel c at desk d leaves is read, if the mail has room for its letters
  module _ (h : Histories) (c : ChannelId) (d : ProcessorId) (is : IsCell d c) where
    outcome_read : (o : Outcome) → Transfers (meaning r) h (reading r) c d.0 o
        → r.network.used + length (messages_of r.processors o.posting) ≤ 256
        → TransferTransition r h (with_outcome r (sender_of (meaning r) c) (receiver_of (meaning r) c) c d o)
    unfolding reading with_outcome
    outcome_read o t fits =
        let s = sender_of (meaning r) c in
        let u = receiver_of (meaning r) c in
        let read = read_outcome r shaped s u c d o is (sender_few r shaped ok c) (receiver_few r shaped ok c) t.no_sender t.no_receiver fits in
        (t.by, rw read t.transition)

    pub transfers_read : (rule : Site → Outcome) → Transfers (meaning r) h (reading r) c d.0 (rule (site_read (meaning r) (reading r) c d.0))
        → r.network.used
        + length (messages_of r.processors (applied r (sender_of (meaning r) c) (receiver_of (meaning r) c) c d rule).posting) ≤ 256
        → TransferTransition r h (applied r (sender_of (meaning r) c) (receiver_of (meaning r) c) c d rule)
    unfolding with_outcome
    transfers_read rule t fits = let e = site_read_lem r shaped c d is in rw e (outcome_read _ t (rw e at fits))

-- task t is accepted to run an instruction of kind k on channel c, by an effect
pub record RunsOn (r : System) (k : ℕ) (c : ChannelId) (t : TaskId) (effect : Effect) : Type 0 where
  pub accepted : run_answer r t ≡ Ok tt
  pub kind : (next_of r t).opcode ≡ k
  pub operand : (next_of r t).operand ≡ c.0
  pub fits : r.network.used + length (messages_of r.processors effect.posting) ≤ 256

module _ (r : System) (shaped : Shaped r) (ok : system_ok r ≡ true) where
  -- such a task stands at a desk, and is about to use the channel
  pub runs_cell : {k : ℕ} {c : ChannelId} {t : TaskId} {effect : Effect} → RunsOn r k c t effect → within 1 128 c.0 ≡ true
      → IsCell (task_at r t).processor c
  runs_cell {k} {c} {t} on number =
      let b = run_settled r shaped ok t on.accepted in
      is_cell r shaped ok (task_at r t).processor c b.processor b.processor_few number

  pub runs_next : {k : ℕ} {c : ChannelId} {t : TaskId} {effect : Effect} → RunsOn r k c t effect
      → AtUse (program_of (meaning r) t) k c ((reading r).tasks t)
  unfolding reading
  runs_next {k} {c} {t} on =
      let b = runs_of r shaped ok t on.accepted in
      record { ready = b.ready; next = and_both _ _ (eq-eqb _ k on.kind) (eq-eqb _ c.0 on.operand); low = b.low; high = b.high }

  -- a task that is accepted to run a transfer of kind k is the end of its channel, by the law of that end; what the end does there is an act
  pub transfer_transition : (h : Histories) (k : ℕ) (end : ChannelId → TaskId) (effect : TaskId → ChannelId → Effect)
      → ((c j i : ℕ) → j < length (meaning r) → i < length (program_at (meaning r) j) → is_use k c (instruction_at (program_at (meaning r) j) i) ≡ true
      → end (channel_id c) ≡ task_id (suc j))
      → ((c : ChannelId) → within 1 128 c.0 ≡ true → RunsOn r k c (end c) (effect (end c) c) → TransferTransition r h (effect (end c) c))
      → (t : TaskId) → run_answer r t ≡ Ok tt → (next_of r t).opcode ≡ k → within 1 128 (next_of r t).operand ≡ true
      → ran r t ≡ effect t (channel_id (next_of r t).operand) → TransferTransition r h (ran r t)
  unfolding next_in
  transfer_transition h k end effect law transitions t a kind channel is =
      let c = channel_id (next_of r t).operand in
      let b = run_settled r shaped ok t a in
      let number = (runs_of r shaped ok t a).number in
      let low = within_low 1 (length (meaning r)) t.0 number in
      let high = within_high 1 (length (meaning r)) t.0 number in
      let place : suc (t.0 - 1) ≡ t.0 = omega arith in
      let there : end c ≡ t =
      law (next_of r t).operand (t.0 - 1) ((task_at r t).pc - 1) (omega arith) (omega (arith, b.place, b.place_few))
      (and_both _ _ (eq-eqb _ k kind) (eq-eqb (next_of r t).operand _ refl))
      ∙ ap task_id place in
      rw is
      (subst (λ u. RunsOn r k c u (effect u c) → TransferTransition r h (effect u c)) there (transitions c channel)
      (record { accepted = a; kind = kind; operand = refl; fits = rw is at (run_fits r shaped ok t a) }))
