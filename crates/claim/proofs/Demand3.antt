-- Demand 3 holds of every accepted plan, on 1 to 6 desks, with every list of steps.
use mathlib.Core.Path.{◌≡◌, refl, sym, ap, subst, ◌∙◌}
use mathlib.Core.Bool.{true, false, not}
use mathlib.Core.List.{List, [], ◌∷◌, ◌++◌, append-nil}
use Prim.Native.Nat.{ℕ, ◌+◌, ◌*◌, ◌≤◌}
use native.Mathlib.Omega.{arith}
use lib.ListN.{length}
use Rattle.std.specs.Prelude.{Ok}
use Rattle.base.specs.Choice.{within}
use Rattle.base.specs.Lists.{every}
use Rattle.base.specs.Beginnings.{Beginning}
use Rattle.base.proofs.Tests.{is_false, tests_differ}
use Rattle.base.proofs.Beginnings.{beginning_trans}
use Rattle.net.specs.Machines.{Normal}
use Rattle.plan.specs.declared.Plan.{Plan}
use Rattle.plan.specs.declared.TaskId.{TaskId}
use Rattle.plan.specs.declared.ChannelId.{ChannelId}
use Rattle.plan.specs.declared.Word.{Word}
use Rattle.plan.specs.Programs.{Programs, programs}
use Rattle.plan.specs.Kinds.{is_finish}
use Rattle.plan.specs.Layout.{total_of}
use Rattle.plan.specs.Refusals.{plan_answer}
use Rattle.plan.proofs.Parts.{tasks_of_lem}
use Rattle.plan_laws.proofs.Answers.{and_parts}
use Rattle.rules.specs.declared.step.Step.{Step}
use Rattle.rules.specs.declared.message.Message.{Message}
use Rattle.rules.specs.declared.system.System.{System}
use Rattle.rules.specs.Answers.{is_accepted}
use Rattle.rules.specs.Tasks.{is_childless}
use Rattle.rules.specs.Places.{next_in}
use Rattle.rules.specs.Systems.{task_at}
use Rattle.rules.specs.Starts.{started}
use Rattle.rules.specs.Steps.{is_run, is_deliver, is_move, step_answer, step, steps_by, steps, quiescent, received_on}
use Rattle.rules_laws.proofs.Messages.{length_messages}
use Rattle.rules_laws.proofs.Steps.{accepted_is, step_answer_lem, step_passed}
use Rattle.rules_laws.proofs.StepKinds.{answer_deliver, deliver_passed}
use Rattle.rules_laws.proofs.Sound.{messages_fit}
use Rattle.rules_sound.proofs.Answers.{number_not_9}
use Rattle.net.specs.States.{Net}
use Rattle.net.specs.Nets.{net}
use Rattle.net.proofs.Meaning.{passed_beginning, same_end}
use Rattle.transitions.specs.Readings.{reading}
use Rattle.transitions.specs.Progress.{program_of, unexecuted}
use Rattle.transitions.specs.Messages.{flat, messages_on, words_in}
use Rattle.transitions.specs.Agreement.{Running}
use Rattle.claim.specs.Statement.{wastes, none_wasted, accepted_of, any_step, from, answered_nine, not_executed, under_way, ComesToRest, SameTask, Claim}
use Rattle.claim.specs.Statement.{Demand3}
use Rattle.invariant.proofs.Falls.{few_left}
use Rattle.invariant.proofs.Next.{Kept}
use Rattle.claim.proofs.Lists.{kept_step, runs_counted, few_accepted}
use Rattle.claim.proofs.Quiet.{rest_refuses, refuses_rest, quiet_messages, quiet_ready}
use Rattle.claim.proofs.Whole.{start_kept, list_kept, start_work, rested}
use Rattle.invariant.proofs.Rest.{Resting, rest_normal, at_rest_same}
use Rattle.claim.proofs.Finds.{finds}

module _ (p : Plan) (a : plan_answer (programs p) ≡ Ok tt) where
  abbrev m : Programs
  m = programs p

  -- (a) no step of a list is answered 9, and no letter is removed without effect
  no_nine : {r : System} {w : ChannelId → List Word} → Kept p r w → (ss : List Step) → every (λ q. not (answered_nine q)) (steps r ss).reports ≡ true
  unfolding steps_by every
  no_nine {r} k [] = refl
  no_nine {r} k (s ∷ ss) =
      rw (step_answer_lem r s, number_not_9 r s k.ok) (no_nine {r = (step r s).system} (kept_step p a k s) ss)

  -- a delivery that is accepted finds what its letter supposes
  found : {r : System} {w : ChannelId → List Word} → Kept p r w → (s : Step) → wastes r s ≡ false
  unfolding wastes
  found {r} {w} k s =
      is_false _ (λ e.
      let (deliver, rest) = and_parts (is_deliver s) _ e in
      let (accepted, lost) = and_parts (is_accepted (step_answer r s)) _ rest in
      let (low, high) =
      deliver_passed r s.number (sym (answer_deliver r s deliver) ∙ (step_passed r s (accepted_is (step_answer r s) accepted)).rule) in
      let run = subst (λ (z : Plan). Running (programs z) k.histories k.state (reading r) w) (sym k.plan) k.running in
      let here = finds r k.shaped k.ok k.histories run s.number low high in
      tests_differ lost (rw here refl))

  none_wasted_lem : {r : System} {w : ChannelId → List Word} → Kept p r w → (ss : List Step) → none_wasted r ss ≡ true
  unfolding none_wasted
  none_wasted_lem {r} k [] = refl
  none_wasted_lem {r} k (s ∷ ss) = rw (found k s) (none_wasted_lem {r = (step r s).system} (kept_step p a k s) ss)

  -- at rest nothing is under way, and the net is in its normal form
  module _ {r : System} {w : ChannelId → List Word} (k : Kept p r w) (quiet : quiescent r ≡ true) where
    pub no_messages_lem : (reading r).messages ≡ []
    no_messages_lem = quiet_messages r k.shaped k.ok quiet

    pub resting : Resting m (reading r)
    unfolding reading
    resting t is ready =
        let same : r.plan.tasks ≡ length m = ap (λ (z : Plan). z.tasks) k.plan ∙ sym (tasks_of_lem p) in
        let q = quiet_ready r k.shaped k.ok quiet t (rw same is) ready in
        subst (λ (z : Plan). (is_finish (next_in (program_of (programs z) t) (task_at r t)) ≡ true) × (is_childless (task_at r t) ≡ false)) k.plan q

    pub normal : Normal (net m) k.state
    normal = rest_normal m a k.reached k.running no_messages_lem resting

    -- all words that have passed are received
    pub all_received : (c : ChannelId) → k.state.passed c ≡ w c
    unfolding flat
    all_received c = k.running.passed c ∙ ap (λ (ms : List Message). w c ++ words_in (messages_on c ms)) no_messages_lem ∙ append-nil (w c)

  -- what is received is a beginning of what has passed
  received_beginning : {r : System} {w : ChannelId → List Word} (k : Kept p r w) (c : ChannelId) → Beginning (w c) (k.state.passed c)
  received_beginning {r} {w} k c = record { rest = words_in (messages_on c (reading r).messages); whole = k.running.passed c }

  -- a rig, and another of the same plan that is at rest
  module _ {r q : System} {w v : ChannelId → List Word} (k : Kept p r w) (l : Kept p q v) (rests : quiescent q ≡ true) where
    beginning : (c : ChannelId) → Beginning (w c) (v c)
    beginning c =
        rw (all_received l rests c) at
        (beginning_trans (w c) (k.state.passed c) (l.state.passed c) (received_beginning k c)
        (passed_beginning m k.reached l.reached (normal l rests) c))

    -- both are at rest
    module _ (quiet : quiescent r ≡ true) where
      same_net : k.state ≡ l.state
      same_net = same_end m k.reached l.reached (normal l rests) (normal k quiet)

      same_words : (c : ChannelId) → w c ≡ v c
      same_words c = sym (all_received k quiet c) ∙ ap (λ (s : Net). s.passed c) same_net ∙ all_received l rests c

      pub same_task_lem : (t : TaskId) → within 1 p.tasks t.0 ≡ true → SameTask r q t
      unfolding reading
      same_task_lem t is =
          let there = subst (λ (s : Net). Running m k.histories s (reading r) w) same_net k.running in
          let e =
          at_rest_same m a l.reached there l.running (no_messages_lem k quiet) (no_messages_lem l rests) (resting k quiet) (resting l rests) t
          (rw (tasks_of_lem p) is) in
          record { state = e.state; place = e.pc; word = e.word; overflow = e.overflow }

-- for every accepted plan, 1 to 6 desks and every list of steps
module _ (n : ℕ) (p : Plan) (ss : List Step) (some : 1 ≤ n) (few : n ≤ 6) (a : plan_answer (programs p) ≡ Ok tt) where
  abbrev rig : System
  rig = (from n p ss).system

  here : Kept p rig (λ c. received_on c (from n p ss).reports)
  here = list_kept n p some few a ss

  -- the one-desk rig of the plan
  there : (ts : List Step) → Kept p (from 1 p ts).system (λ c. received_on c (from 1 p ts).reports)
  there ts = list_kept 1 p (omega arith) (omega arith) a ts

  one_processor : ComesToRest p
  one_processor =
      let done = rested p a (start_kept 1 p (omega arith) (omega arith) a) in
      record { list = done.list; rests = done.rests }

  -- N is what is executed and what is not
  pub counted : total_of (programs p) ≡ accepted_of is_run (started n p) ss + unexecuted (programs p) (reading rig).tasks
  counted = sym (start_work n p some few a) ∙ runs_counted p a (start_kept n p some few a) ss

  messages_there : length (reading rig).messages ≡ rig.network.used
  unfolding reading
  messages_there = length_messages rig.network (omega (arith, here.shaped.slots, messages_fit rig here.ok))

  few_steps : (us : List Step) → accepted_of is_move rig us ≡ 0 → accepted_of any_step rig us ≤ 10 * (not_executed n p ss + under_way n p ss)
  few_steps us none = omega (arith, few_accepted p a here us none, few_left (programs p) a here.running, counted, messages_there)

  parts : Demand3 n p ss
  parts =
      record {
        no_nine = no_nine p a (start_kept n p some few a) ss;
        none_wasted_lem = none_wasted_lem p a (start_kept n p some few a) ss;
        beginning = λ ts rests c. beginning p a here (there ts) rests c;
        one_processor = one_processor;
        same_words = λ quiet ts rests c. same_words p a here (there ts) rests quiet c;
        same_tasks = λ quiet ts rests t is. same_task_lem p a here (there ts) rests quiet t is;
        few_runs = omega (arith, counted);
        few_steps = few_steps;
        rest_refuses = λ quiet s kind. rest_refuses rig here.ok quiet s kind;
        refuses_rest = refuses_rest rig here.ok;
      }

pub demand_3 : Claim
demand_3 n p ss some few a = parts n p ss some few a
