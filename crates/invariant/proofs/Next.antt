-- Every step keeps what holds of a rig that a run from the start reaches.
use mathlib.Core.Path.{◌≡◌, refl, sym, ap, subst, fun_ext, ◌∙◌}
use mathlib.Core.Bool.{Bool, true, false, ◌&&◌, ◌||◌, or-false}
use mathlib.Core.List.{List, [], ◌++◌, append-nil}
use Prim.Native.Nat.{◌+◌, ◌≤◌, ◌<◌}
use native.Mathlib.Omega.{arith}
use borrow.Author.Tests.{eqb-true, ne_eqb}
use Rattle.std.specs.Prelude.{None, Ok}
use Rattle.base.proofs.Tests.{tests_differ}
use Rattle.net.proofs.Runs.{run_append}
use Rattle.plan.specs.declared.Plan.{Plan}
use Rattle.plan.specs.declared.TaskId.{TaskId}
use Rattle.plan.specs.declared.ChannelId.{ChannelId}
use Rattle.plan.specs.declared.Word.{Word}
use Rattle.plan.specs.Numbers.{task_id, processor_id}
use Rattle.plan.specs.Programs.{Programs, programs}
use Rattle.plan.specs.Refusals.{plan_answer}
use Rattle.rules.specs.declared.step.Step.{Step}
use Rattle.rules.specs.Reports.{Received}
use Rattle.rules.specs.declared.system.System.{System}
use Rattle.rules.specs.Systems.{task_at, meaning}
use Rattle.rules.specs.Effects.{Effect, completed}
use Rattle.rules.specs.Runs.{ran, next_of}
use Rattle.rules.specs.Deliver.{delivered}
use Rattle.rules.specs.Moves.{moved}
use Rattle.rules.specs.Steps.{is_run, is_deliver, is_move, well_formed, step_answer, performed, accepted, step, word_on}
use Rattle.rules.specs.Sound.{system_ok}
use Rattle.rules_laws.specs.Shapes.{Shaped}
use Rattle.rules_laws.proofs.Shapes.{step_shaped, step_plan}
use Rattle.rules_laws.proofs.Steps.{step_accepted, step_passed}
use Rattle.rules_laws.proofs.StepKinds.{answer_run, performed_run, answer_deliver, performed_deliver, answer_move, performed_move, deliver_passed}
use Rattle.rules_sound.proofs.Kept.{kept}
use Rattle.net.specs.States.{Net}
use Rattle.net.specs.Labels.{Label}
use Rattle.net.specs.Nets.{net, Reached}
use Rattle.net.proofs.Consistent.{consistent}
use Rattle.channel.specs.Invariant.{Invariant}
use Rattle.transitions.specs.Readings.{reading}
use Rattle.transitions.specs.Progress.{flag, unexecuted}
use Rattle.transitions.specs.Messages.{ended_of}
use Rattle.transitions.specs.Views.{Histories, view_of}
use Rattle.transitions.specs.Transitions.{RunTransition, DeliverTransition, MoveTransition}
use Rattle.transitions.specs.Agreement.{TasksOk, Running}
use Rattle.transitions.proofs.Rigs.{plan_accepted, processors_few, tasks_ok_lem}
use Rattle.transitions.proofs.Runs.{runs_of}
use Rattle.transitions.proofs.MoveTransitions.{move_transition, move_received}
use Rattle.transitions.proofs.Dispatch.{run_transition, deliver_transition}
use Rattle.invariant.specs.Weights.{weight_of}
use Rattle.invariant.proofs.Falls.{run_less, deliver_less, move_places}
use Rattle.invariant.proofs.Work.{Went, work_went}
use Rattle.invariant.proofs.Counts.{CountsRise, counts_run, counts_deliver, counts_move}
use Rattle.invariant.proofs.ViewsKept.{Changes, changes_run, changes_deliver, changes_move, views_changed, root_run, root_deliver, root_move}
use Rattle.invariant.proofs.FamilyParts.{Families}
use Rattle.invariant.proofs.Families.{families_run, families_deliver, families_move}
use Rattle.invariant.proofs.NetSteps.{Follows}
use Rattle.invariant.proofs.Overflows.{ran_over, MarksAfter, run_marks, deliver_marks, move_marks}
use Rattle.invariant.proofs.Simulation.{follows_run, follows_deliver, follows_move, creates_unborn}

-- what holds of a rig r of plan p, with the words received so far
pub record Kept (p : Plan) (r : System) (received : ChannelId → List Word) : Type 0 where
  pub shaped : Shaped r
  pub ok : system_ok r ≡ true
  pub plan : r.plan ≡ p
  pub histories : Histories
  pub labels : List Label
  pub state : Net
  pub reached : Reached (programs p) labels state
  pub running : Running (programs p) histories state (reading r) received

-- the rig after an accepted step of task t: each channel's view changes by one event or not at all; a run executes one instruction, by which one place
-- goes on, without a move the measure falls, a move adds one to one task's count, and a run that adds over the top marks its task
pub record Next (p : Plan) {r : System} {w : ChannelId → List Word} (k : Kept p r w) (t : TaskId) (q : System) (got : Received) (runs moves : Bool) : Type 0 where
  pub kept : Kept p q (λ c. w c ++ word_on c got)
  pub changes : Changes (programs p) k.histories kept.histories (reading r) (reading q)
  pub places : Went (programs p) (reading r).tasks (reading q).tasks (flag runs)
  pub work : unexecuted (programs p) (reading r).tasks ≡ flag runs + unexecuted (programs p) (reading q).tasks
  pub falls : moves ≡ false → weight_of (programs p) kept.histories (reading q) < weight_of (programs p) k.histories (reading r)
  pub counts : CountsRise (reading r).tasks (reading q).tasks (flag moves)
  pub marks : (u : TaskId) → (task_at q u).overflow ≡ (task_at r u).overflow || (runs && ran_over r t u)

few : (q : System) → Shaped q → system_ok q ≡ true → (reading q).processors ≤ 6
unfolding reading
few q shaped ok = processors_few q shaped ok

-- no more words
pub no_more : (w : ChannelId → List Word) → (λ c. w c ++ []) ≡ w
no_more w = fun_ext (λ c. append-nil (w c))

module _ (p : Plan) (a : plan_answer (programs p) ≡ Ok tt) {r : System} {w : ChannelId → List Word} (k : Kept p r w) where
  abbrev m : Programs
  m = programs p

  -- the parts of what holds, put together for the rig after the step
  together : (q : System) (received : ChannelId → List Word) (h : Histories) → Shaped q → system_ok q ≡ true → q.plan ≡ p → Families m h (reading q)
      → ((c : ChannelId) → 1 ≤ c.0 → c.0 ≤ 128 → Invariant (view_of m h (reading q) c)) → ended_of (task_id 1) (reading q).messages ≡ []
      → Follows m k.state (reading q) received → Kept p q received
  together q received h shaped ok plan family views root follows =
      record {
        shaped = shaped;
        ok = ok;
        plan = plan;
        histories = h;
        labels = k.labels ++ follows.labels;
        state = follows.end;
        reached = run_append (net m) k.reached follows.run;
        running =
            record {
              few = few q shaped ok;
              tasks = subst (λ (z : Plan). TasksOk (programs z) (reading q)) plan (tasks_ok_lem q shaped ok);
              views = views;
              places = family.places;
              children = family.children;
              kin = family.kin;
              root = root;
              agrees = follows.agrees;
              passed = follows.passed;
            };
      }

  -- what holds of r, said with the plan that it has
  here : Running (meaning r) k.histories k.state (reading r) w
  here = subst (λ (z : Plan). Running (programs z) k.histories k.state (reading r) w) (sym k.plan) k.running

  here_reached : Reached (meaning r) k.labels k.state
  here_reached = subst (λ (z : Plan). Reached (programs z) k.labels k.state) (sym k.plan) k.reached

  module _ (t : TaskId) (q : System) (shaped : Shaped q) (ok : system_ok q ≡ true) (plan : q.plan ≡ p) where
    -- after each kind of step
    after_run_lem : {got : Received} (h : Histories) → RunTransition m k.histories (reading r) h (reading q) got
        → MarksAfter r t (reading q).tasks → Next p k t q got true false
    unfolding together reading
    after_run_lem {got} h transition marks =
        let less = run_less m a k.running transition in
        record {
          kept =
              together q (λ c. w c ++ word_on c got) h shaped ok plan (families_run m a k.running transition) (views_changed m k.running h (reading q) (changes_run m transition))
              (root_run m k.running transition)
              (follows_run m a k.reached k.running transition);
          changes = changes_run m transition;
          places = less.places;
          work = less.work;
          falls = λ e. less.weight;
          counts = counts_run m transition;
          marks = marks;
        }

    after_deliver : {got : Received} → DeliverTransition m k.histories (reading r) (reading q) got → Next p k t q got false false
    unfolding together reading
    after_deliver {got} transition =
        let less = deliver_less m a k.running transition in
        record {
          kept =
              together q (λ c. w c ++ word_on c got) k.histories shaped ok plan (families_deliver m a k.running transition)
              (views_changed m k.running k.histories (reading q) (changes_deliver m transition))
              (root_deliver m k.running transition) (follows_deliver m a k.reached k.running transition);
          changes = changes_deliver m transition;
          places = less.places;
          work = less.work;
          falls = λ e. less.weight;
          counts = counts_deliver m transition;
          marks = λ u. deliver_marks m transition u ∙ sym (or-false (task_at r u).overflow);
        }

    after_move : (h : Histories) → MoveTransition m k.histories h (reading r) (reading q) → Next p k t q None false true
    unfolding together word_on reading
    after_move h transition =
        record {
          kept =
              together q (λ c. w c ++ []) h shaped ok plan (families_move m a k.running transition)
              (views_changed m k.running h (reading q) (changes_move m transition))
              (root_move m k.running transition) (rw (no_more w) (follows_move m a k.reached k.running transition));
          changes = changes_move m transition;
          places = move_places m a k.running transition;
          work = work_went (move_places m a k.running transition);
          falls = λ e. absurd (tests_differ refl e);
          counts = counts_move m transition;
          marks = λ u. move_marks m transition u ∙ sym (or-false (task_at r u).overflow);
        }

  module _ (s : Step) (yes : step_answer r s ≡ Ok tt) where
    same : step r s ≡ accepted (performed r s)
    same = step_accepted r s yes

    shaped_then : Shaped (step r s).system
    shaped_then = step_shaped r s k.shaped

    ok_then : system_ok (step r s).system ≡ true
    ok_then = kept r s k.shaped yes

    plan_then : (step r s).system.plan ≡ p
    plan_then = step_plan r s ∙ k.plan

    -- the effect of the step, whichever it is
    by_effect : (e : Effect) (runs moves : Bool) → performed r s ≡ e → is_run s ≡ runs → is_move s ≡ moves
        → (Shaped (completed e) → system_ok (completed e) ≡ true → (completed e).plan ≡ p → Next p k (task_id s.task) (completed e) e.received runs moves)
        → Next p k (task_id s.task) (step r s).system (step r s).report.received (is_run s) (is_move s)
    by_effect e runs moves is one three f =
        let all : step r s ≡ accepted e = same ∙ ap accepted is in
        rw (all, one, three) (f (rw all at shaped_then) (rw all at ok_then) (rw all at plan_then))

    -- each kind of step
    run_next : is_run s ≡ true → Next p k (task_id s.task) (step r s).system (step r s).report.received (is_run s) (is_move s)
    run_next kind =
        let t = task_id s.task in
        let passed = sym (answer_run r s kind) ∙ (step_passed r s yes).rule in
        let runs = runs_of r k.shaped k.ok t passed in
        let unborn = creates_unborn (meaning r) (plan_accepted r k.shaped k.ok) here_reached here t (next_of r t) runs in
        let (h, transition) = run_transition r k.shaped k.ok k.histories here t passed unborn in
        by_effect (ran r t) true false (performed_run r s kind) kind (ne_eqb s.kind 3 (λ e. omega (arith, eqb-true s.kind 1 kind)))
        (λ shaped ok plan. after_run_lem t (completed (ran r t)) shaped ok plan h
        (subst (λ (z : Plan). RunTransition (programs z) k.histories (reading r) h (reading (completed (ran r t))) (ran r t).received) k.plan transition)
        (run_marks r t k.shaped k.ok k.histories (consistent (meaning r) (plan_accepted r k.shaped k.ok) here_reached) here passed unborn))

    deliver_next : is_deliver s ≡ true → Next p k (task_id s.task) (step r s).system (step r s).report.received (is_run s) (is_move s)
    deliver_next kind =
        let i = s.number in
        let (l, u) = deliver_passed r i (sym (answer_deliver r s kind) ∙ (step_passed r s yes).rule) in
        let transition = deliver_transition r k.shaped k.ok k.histories here i l u in
        by_effect (delivered r i) false false (performed_deliver r s kind) (ne_eqb s.kind 1 (λ e. omega (arith, eqb-true s.kind 2 kind)))
        (ne_eqb s.kind 3 (λ e. omega (arith, eqb-true s.kind 2 kind)))
        (λ shaped ok plan. after_deliver (task_id s.task) (completed (delivered r i)) shaped ok plan
        (subst (λ (z : Plan). DeliverTransition (programs z) k.histories (reading r) (reading (completed (delivered r i))) (delivered r i).received)
        k.plan transition))

    move_next : is_move s ≡ true → Next p k (task_id s.task) (step r s).system (step r s).report.received (is_run s) (is_move s)
    unfolding moved
    move_next kind =
        let t = task_id s.task in
        let d = processor_id s.number in
        let (h, transition) = move_transition r k.shaped k.ok k.histories here t d (sym (answer_move r s kind) ∙ (step_passed r s yes).rule) in
        by_effect (moved r t d) false true (performed_move r s kind) (ne_eqb s.kind 1 (λ e. omega (arith, eqb-true s.kind 3 kind))) kind
        (λ shaped ok plan. rw (move_received r t d) (after_move t (completed (moved r t d)) shaped ok plan h
        (subst (λ (z : Plan). MoveTransition (programs z) k.histories h (reading r) (reading (completed (moved r t d)))) k.plan transition)))

    pub next : Next p k (task_id s.task) (step r s).system (step r s).report.received (is_run s) (is_move s)
    unfolding well_formed
    next = go (is_run s) (is_deliver s) refl refl
      where
        go : (one two : Bool) → is_run s ≡ one → is_deliver s ≡ two → Next p k (task_id s.task) (step r s).system (step r s).report.received (is_run s) (is_move s)
        go true two e f = run_next e
        go false true e f = deliver_next f
        go false false e f = move_next (let form = (step_passed r s yes).form in rw (e, f) at form)
