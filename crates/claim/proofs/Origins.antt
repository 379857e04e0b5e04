-- Where the offer that a step posts comes from: its letter, which is forwarded, or the send of its number, which is executed once.
use mathlib.Core.Path.{◌≡◌, refl, sym, ap, ◌∙◌, subst}
use mathlib.Core.Bool.{Bool, true, false}
use mathlib.Core.List.{List}
use mathlib.Core.Logic.{by_cases}
use Prim.Native.Nat.{ℕ, suc, ◌+◌, ◌-◌, ◌<◌, ◌≤◌}
use native.Mathlib.Decide.{ℕ_discrete}
use native.Mathlib.Omega.{arith}
use lib.ListN.{length}
use borrow.Author.Tests.{eq-eqb}
use Rattle.std.specs.Prelude.{Ok}
use Rattle.base.specs.Choice.{pick, within}
use Rattle.base.specs.Lists.{count}
use Rattle.base.proofs.Joins.{part_of_sum}
use Rattle.base.proofs.Tests.{and_both, within_low, within_high, within_both, tests_differ}
use Rattle.plan.specs.declared.Plan.{Plan}
use Rattle.plan.specs.declared.ChannelId.{ChannelId}
use Rattle.plan.specs.declared.TaskId.{TaskId}
use Rattle.plan.specs.declared.Word.{Word}
use Rattle.plan.specs.Kinds.{op_send, is_use}
use Rattle.plan.specs.Numbers.{task_id}
use Rattle.plan.specs.Programs.{Program, Programs, instruction_at, programs}
use Rattle.plan.specs.Refusals.{plan_answer}
use Rattle.plan.specs.Users.{sender_of}
use Rattle.plan_laws.proofs.Ends.{sends_on_lem}
use Rattle.plan_laws.proofs.Programs.{user_few}
use Rattle.rules.specs.declared.step.Step.{Step}
use Rattle.rules.specs.declared.system.System.{System}
use Rattle.rules.specs.declared.task.Task.{Task}
use Rattle.rules.specs.Networks.{messages, message_at, dequeued}
use Rattle.rules.specs.Places.{next_in, send_number}
use Rattle.rules.specs.Systems.{with_network, task_in, task_at, meaning}
use Rattle.rules.specs.Effects.{Effect}
use Rattle.rules.specs.Runs.{next_of, ran}
use Rattle.rules.specs.Deliver.{delivered}
use Rattle.rules.specs.Moves.{moved}
use Rattle.rules.specs.Steps.{is_run, is_deliver, is_move, well_formed, step_answer, performed, accepted, step}
use Rattle.rules_laws.proofs.Steps.{step_accepted, step_passed}
use Rattle.rules_laws.proofs.StepKinds.{answer_run, performed_run, performed_deliver, performed_move}
use Rattle.transitions.specs.Progress.{program_of}
use Rattle.transitions.specs.Readings.{reading}
use Rattle.transitions.proofs.Rigs.{plan_accepted}
use Rattle.transitions.proofs.Runs.{runs_of}
use Rattle.invariant.proofs.Work.{Went, one_goes, nobody}
use Rattle.invariant.proofs.Next.{Kept, next}
use Rattle.claim.specs.Chase.{is_offer, posts_offer}
use Rattle.claim.proofs.Places.{ran_place}
use Rattle.claim.proofs.OfferPostings.{Onward, ran_posts, opened_posts}
use Rattle.claim.proofs.MailCounts.{takes, mail_count, posted_offers}

-- how many sends on channel c its sender has executed
abbrev pub sends : Programs → System → ChannelId → ℕ
sends m r c = send_number (program_of m (sender_of m c)) c ((task_at r (sender_of m c)).pc - 1)

-- more instructions have at least as many sends, and a send is one more
sends_more : (g : Program) (c : ChannelId) (i j : ℕ) → i ≤ j → send_number g c i ≤ send_number g c j
unfolding send_number
sends_more g c i j l =
    by_cases
    (ℕ_discrete i j)
    (λ (e : i ≡ j). rw e (omega arith))
    (λ ne. omega (arith, part_of_sum j (λ n. pick (is_use op_send c.0 (instruction_at g n)) 1 0) i (omega arith)))

sends_one : (g : Program) (c : ChannelId) (i : ℕ) → is_use op_send c.0 (instruction_at g i) ≡ true → send_number g c i < send_number g c (suc i)
unfolding send_number
sends_one g c i e =
    let one : pick {A = ℕ} (is_use op_send c.0 (instruction_at g i)) 1 0 ≡ 1 = rw e refl in
    omega (arith, part_of_sum (suc i) (λ n. pick (is_use op_send c.0 (instruction_at g n)) 1 0) i (omega arith), one)

-- no place goes back
went_on_lem : {m : Programs} {x y : TaskId → Task} {n : ℕ} → Went m x y n → (t : TaskId) → within 1 (length m) t.0 ≡ true → (x t).pc ≤ (y t).pc
went_on_lem {m} {x} {y} (one_goes u is more goes same) t there =
    by_cases
    (ℕ_discrete t.0 u.0)
    (λ (e : t.0 ≡ u.0). let own : t ≡ u = ap task_id e in rw own (omega (arith, goes)))
    (λ ne. omega (arith, same t there ne))
went_on_lem (nobody same) t there = omega (arith, same t there)

nobody_there : (r : System) (t : TaskId) → t.0 ≡ 0 → (task_at r t).pc ≡ 0
unfolding task_in
nobody_there r t e = rw e refl

-- where the offer (c, w) that a step posts comes from: a letter that is forwarded, or the send of its number
pub data Origin (m : Programs) (r : System) (s : Step) (c : ChannelId) (w : ℕ) : Type 0 where
  by_letter : is_deliver s ≡ true → Onward (message_at r.network s.number) (performed r s).posting → Origin m r s c w
  by_send : sends m r c < w → w ≤ sends m (step r s).system c → Origin m r s c w

module _ (p : Plan) (a : plan_answer (programs p) ≡ Ok tt) {r : System} {got : ChannelId → List Word} (k : Kept p r got) (s : Step)
    (yes : step_answer r s ≡ Ok tt) where
  abbrev m : Programs
  m = programs p

  place_on : (t : TaskId) → t.0 ≤ length m → (task_at r t).pc ≤ (task_at (step r s).system t).pc
  unfolding reading
  place_on t few =
      by_cases
      (ℕ_discrete t.0 0)
      (λ (e : t.0 ≡ 0). omega (arith, nobody_there r t e))
      (λ ne. went_on_lem (next p a k s yes).places t (within_both 1 (length m) t.0 (omega (arith, ne)) few))

  pub sends_grow : (c : ChannelId) → sends m r c ≤ sends m (step r s).system c
  sends_grow c =
      let t = sender_of m c in
      let on = place_on t (user_few m op_send c.0) in
      sends_more (program_of m t) c ((task_at r t).pc - 1) ((task_at (step r s).system t).pc - 1) (omega arith)

  module _ (c : ChannelId) (w : ℕ) where
    abbrev From : Type 0
    From = Origin m r s c w

    run_origin : is_run s ≡ true → posts_offer c w (performed r s).posting ≡ true → From
    unfolding reading next_in
    run_origin kind posts =
        let t = task_id s.task in
        let is = performed_run r s kind in
        let passed = sym (answer_run r s kind) ∙ (step_passed r s yes).rule in
        let send = ran_posts c w r t (ap (λ (e : Effect). posts_offer c w e.posting) (sym is) ∙ posts) in
        let runs = runs_of r k.shaped k.ok t passed in
        let low = within_low 1 _ t.0 runs.number in
        let high = within_high 1 _ t.0 runs.number in
        let i = next_of r t in
        let used : is_use op_send c.0 i ≡ true = and_both _ _ (eq-eqb i.opcode op_send send.kind) (eq-eqb i.operand c.0 send.operand) in
        let same : suc (t.0 - 1) ≡ t.0 = omega arith in
        let plan = plan_accepted r k.shaped k.ok in
        let sender : sender_of (meaning r) c ≡ t =
        sends_on_lem (meaning r) plan c.0 (t.0 - 1) ((task_at r t).pc - 1) (omega arith) (omega (arith, runs.low, runs.high)) used ∙ ap task_id same in
        let its : sender_of m c ≡ t = subst (λ (z : Plan). sender_of (programs z) c ≡ t) k.plan sender in
        let g = program_of (meaning r) t in
        let last : suc ((task_at r t).pc - 1) ≡ (task_at r t).pc = omega (arith, runs.low) in
        let more : send_number g c ((task_at r t).pc - 1) < send_number g c (task_at r t).pc = rw last at (sends_one g c ((task_at r t).pc - 1) used) in
        let all : step r s ≡ accepted (ran r t) = step_accepted r s yes ∙ ap accepted is in
        let then : (task_at (step r s).system t).pc ≡ suc (task_at r t).pc = rw all (ran_place k t passed) in
        let now : (task_at (step r s).system t).pc - 1 ≡ (task_at r t).pc = omega (arith, then) in
        let program : program_of m t ≡ g = ap (λ (z : Plan). program_of (programs z) t) (sym k.plan) in
        let were : sends m r c ≡ send_number g c ((task_at r t).pc - 1) =
        ap (λ (u : TaskId). send_number (program_of m u) c ((task_at r u).pc - 1)) its ∙ ap (λ (f : Program). send_number f c ((task_at r t).pc - 1)) program in
        let are : sends m (step r s).system c ≡ send_number g c (task_at r t).pc =
        ap (λ (u : TaskId). send_number (program_of m u) c ((task_at (step r s).system u).pc - 1)) its
        ∙ ap (λ (f : Program). send_number f c ((task_at (step r s).system t).pc - 1)) program
        ∙ ap (send_number g c) now in
        by_send (omega (arith, were, more, send.number)) (omega (arith, are, send.number))

    deliver_origin : is_deliver s ≡ true → posts_offer c w (performed r s).posting ≡ true → From
    unfolding delivered
    deliver_origin kind posts =
        let same = ap (λ (e : Effect). e.posting) (performed_deliver r s kind) in
        let emptied = with_network r (dequeued r.network s.number) in
        by_letter kind (rw same (opened_posts c w emptied (message_at r.network s.number) (rw same at posts)))

    move_quiet : is_move s ≡ true → posts_offer c w (performed r s).posting ≡ false
    unfolding moved posts_offer is_offer
    move_quiet kind = rw (performed_move r s kind) refl

    pub origin : posts_offer c w (performed r s).posting ≡ true → Origin m r s c w
    unfolding well_formed
    origin posts = go (is_run s) (is_deliver s) refl refl
      where
        go : (one two : Bool) → is_run s ≡ one → is_deliver s ≡ two → From
        go true two e f = run_origin e posts
        go false true e f = deliver_origin f posts
        go false false e f = absurd (tests_differ posts (move_quiet (let form = (step_passed r s yes).form in rw (e, f) at form)))

    pub offers_then : count (is_offer c w) (messages (step r s).system.network) + takes r s (is_offer c w)
        ≡ count (is_offer c w) (messages r.network) + pick (posts_offer c w (performed r s).posting) 1 0
    offers_then = omega (arith, mail_count r s k.shaped yes (is_offer c w), posted_offers c w r.processors (performed r s).posting)
