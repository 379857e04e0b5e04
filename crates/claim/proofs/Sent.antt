-- What leaves by a step and what is received by it: of each channel, the words under way and those that leave are those received and those under
-- way then. So of a list of steps, what is sent is what is received and what is under way.
use mathlib.Core.Path.{◌≡◌, refl, sym, ap, ◌∙◌}
use mathlib.Core.Bool.{Bool, true, false}
use mathlib.Core.List.{List, [], ◌∷◌, ◌++◌, append_assoc, append-nil}
use Prim.Native.Nat.{◌+◌, ◌≤◌}
use native.Mathlib.Omega.{arith}
use lib.ListN.{length}
use borrow.Author.Tests.{eqb-true, ne_eqb}
use Rattle.std.specs.Prelude.{None, Ok}
use Rattle.plan.specs.declared.Plan.{Plan}
use Rattle.plan.specs.declared.ChannelId.{ChannelId}
use Rattle.plan.specs.declared.Word.{Word as WordOf}
use Rattle.plan.specs.Numbers.{task_id, processor_id}
use Rattle.plan.specs.Programs.{programs}
use Rattle.plan.specs.Refusals.{plan_answer}
use Rattle.rules.specs.declared.message.Message.TheVariants.{Migration}
use Rattle.rules.specs.Reports.{Received}
use Rattle.rules.specs.declared.step.Step.{Step}
use Rattle.rules.specs.declared.step.Stepped.{Stepped}
use Rattle.rules.specs.Answers.{is_accepted}
use Rattle.rules.specs.declared.system.System.{System}
use Rattle.rules.specs.Networks.{messages, messages_of}
use Rattle.rules.specs.Systems.{meaning}
use Rattle.rules.specs.Effects.{Effect, completed}
use Rattle.rules.specs.Runs.{ran, next_of}
use Rattle.rules.specs.Deliver.{delivered}
use Rattle.rules.specs.Moves.{moved}
use Rattle.rules.specs.Steps.{is_run, is_deliver, is_move, well_formed, step_answer, performed, accepted, step, steps_by, steps, word_on, received_on}
use Rattle.rules.specs.Logs.{letter_word, posted_word, leaving, sent_by, sent_in, words_on, sent_on, under_way_on}
use Rattle.rules_laws.proofs.Changes.{ran_network}
use Rattle.rules_laws.proofs.Shapes.{step_processors}
use Rattle.rules_laws.proofs.Steps.{step_accepted, step_refused, step_passed}
use Rattle.rules_laws.proofs.StepKinds.{answer_run, performed_run, answer_deliver, performed_deliver, answer_move, performed_move, deliver_passed}
use Rattle.transitions.specs.Readings.{reading}
use Rattle.transitions.proofs.Rigs.{plan_accepted}
use Rattle.transitions.proofs.Runs.{run_fits, runs_of}
use Rattle.transitions.proofs.MoveTransitions.{move_transition, move_received}
use Rattle.transitions.proofs.Dispatch.{run_transition}
use Rattle.invariant.proofs.Next.{Kept}
use Rattle.invariant.proofs.Simulation.{creates_unborn}
use Rattle.claim.proofs.Lists.{step_either, kept_step}
use Rattle.claim.proofs.SentWords.{under_way_append, under_way_words}
use Rattle.claim.proofs.SentPostings.{ran_silent}
use Rattle.claim.proofs.PassingWords.{no_word_behind, nothing_commutes, run_commutes}
use Rattle.claim.proofs.SentDeliveries.{joined_mail, here, here_reached, delivered_moves}

module _ (p : Plan) (a : plan_answer (programs p) ≡ Ok tt) {r : System} {w : ChannelId → List WordOf} (k : Kept p r w) where
  module _ (s : Step) where
    -- the words under way and what leaves are what is received and the words under way then
    abbrev Moves : Type 0
    Moves = (c : ChannelId)
        → under_way_on c (messages r.network) ++ word_on c (sent_by r s)
        ≡ word_on c (step r s).report.received ++ under_way_on c (messages (step r s).system.network)

    module _ (yes : step_answer r s ≡ Ok tt) where
      by_effect : (e : Effect) (sent : Received) → performed r s ≡ e → leaving r s ≡ sent
          → ((c : ChannelId) → under_way_on c (messages r.network) ++ word_on c sent ≡ word_on c e.received ++ under_way_on c (messages (completed e).network))
          → Moves
      unfolding sent_by
      by_effect e sent is leaves law c =
          let all : step r s ≡ accepted e = step_accepted r s yes ∙ ap accepted is in
          rw (all, yes, leaves) (law c)

      effect_processors : (e : Effect) → performed r s ≡ e → e.system.processors ≡ r.processors
      unfolding completed
      effect_processors e is =
          let all : step r s ≡ accepted e = step_accepted r s yes ∙ ap accepted is in
          ap (λ (o : Stepped). o.system.processors) (sym all) ∙ step_processors r s

      run_moves : is_run s ≡ true → Moves
      unfolding leaving reading
      run_moves kind =
          let t = task_id s.task in
          let passed = sym (answer_run r s kind) ∙ (step_passed r s yes).rule in
          let runs = runs_of r k.shaped k.ok t passed in
          let unborn = creates_unborn (meaning r) (plan_accepted r k.shaped k.ok) (here_reached p a k) (here p a k) t (next_of r t) runs in
          let (h, transition) = run_transition r k.shaped k.ok k.histories (here p a k) t passed unborn in
          let is = performed_run r s kind in
          let processors = effect_processors (ran r t) is in
          let room : (ran r t).system.network.used + length (messages_of (ran r t).system.processors (ran r t).posting) ≤ length (ran r t).system.network.slots =
          rw (ran_network r t, processors) (omega (arith, k.shaped.slots, run_fits r k.shaped k.ok t passed)) in
          by_effect (ran r t) (ran r t).received is (rw (kind, is) refl) (λ c.
          let mail : under_way_on c (messages (completed (ran r t)).network) ≡ under_way_on c (messages r.network) =
          joined_mail (ran r t) room c ∙ rw (ran_network r t, ran_silent r t) (no_word_behind c (under_way_on c (messages r.network))) in
          rw (mail, under_way_words c (messages r.network)) (run_commutes transition c))

      deliver_moves : is_deliver s ≡ true → Moves
      unfolding leaving
      deliver_moves kind =
          let (low, high) = deliver_passed r s.number (sym (answer_deliver r s kind) ∙ (step_passed r s yes).rule) in
          let is = performed_deliver r s kind in
          let other = ne_eqb s.kind 1 (λ e. omega (arith, eqb-true s.kind 2 kind)) in
          by_effect (delivered r s.number) (posted_word (delivered r s.number).posting) is (rw (other, kind, is) refl)
          (delivered_moves p a k s.number low high)

      move_moves : is_move s ≡ true → Moves
      unfolding leaving reading words_on letter_word
      move_moves kind =
          let t = task_id s.task in
          let d = processor_id s.number in
          let (h, transition) = move_transition r k.shaped k.ok k.histories (here p a k) t d (sym (answer_move r s kind) ∙ (step_passed r s yes).rule) in
          let one = ne_eqb s.kind 1 (λ e. omega (arith, eqb-true s.kind 3 kind)) in
          let two = ne_eqb s.kind 2 (λ e. omega (arith, eqb-true s.kind 3 kind)) in
          by_effect (moved r t d) None (performed_move r s kind) (rw (one, two) refl) (λ c.
          let mail : under_way_on c (messages (completed (moved r t d)).network) ≡ under_way_on c (messages r.network) =
          ap (under_way_on c) transition.messages ∙ under_way_append c (messages r.network) (Migration transition.to transition.task ∷ [])
          ∙ ap (under_way_on c (messages r.network) ++◌) (append-nil (word_on c None)) ∙ no_word_behind c (under_way_on c (messages r.network)) in
          rw (mail, move_received r t d) (nothing_commutes c (under_way_on c (messages r.network))))

    -- a refused step leaves the rig, and nothing leaves by it
    refused_moves : is_accepted (step_answer r s) ≡ false → Moves
    unfolding sent_by
    refused_moves e c =
        rw (step_refused r s (step_answer r s) refl e, e) (nothing_commutes c (under_way_on c (messages r.network)))

    pub step_moves : Moves
    unfolding well_formed
    step_moves = step_either r s refused_moves (λ fine. go fine (is_run s) (is_deliver s) refl refl)
      where
        go : (fine : step_answer r s ≡ Ok tt) (one two : Bool) → is_run s ≡ one → is_deliver s ≡ two → Moves
        go fine true two e f = run_moves fine e
        go fine false true e f = deliver_moves fine f
        go fine false false e f = move_moves fine (let form = (step_passed r s fine).form in rw (e, f) at form)

-- of a list of steps
module _ (p : Plan) (a : plan_answer (programs p) ≡ Ok tt) (c : ChannelId) where
  pub sent_steps : {r : System} {w : ChannelId → List WordOf} → Kept p r w → (ss : List Step)
      → under_way_on c (messages r.network) ++ sent_on c r ss ≡ received_on c (steps r ss).reports ++ under_way_on c (messages (steps r ss).system.network)
  unfolding steps_by sent_in words_on received_on
  sent_steps {r} k [] = append-nil (under_way_on c (messages r.network))
  sent_steps {r} k (s ∷ ss) =
      let q = (step r s).system in
      let got = word_on c (step r s).report.received in
      sym (append_assoc (under_way_on c (messages r.network)) (word_on c (sent_by r s)) (sent_on c q ss))
      ∙ ap (◌++ sent_on c q ss) (step_moves p a k s c)
      ∙ append_assoc got (under_way_on c (messages q.network)) (sent_on c q ss)
      ∙ ap (got ++◌) (sent_steps {r = (step r s).system} (kept_step p a k s) ss)
      ∙ sym (append_assoc got (received_on c (steps q ss).reports) (under_way_on c (messages (steps q ss).system.network)))
