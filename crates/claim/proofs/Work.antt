-- The accepted runs of a task are its place less one, at rest or not; so all lists to rest have as many, of each task and in all.
use mathlib.Core.Path.{◌≡◌, refl, sym, ap, ◌∙◌}
use mathlib.Core.Bool.{Bool, true, false}
use mathlib.Core.List.{List, [], ◌∷◌}
use mathlib.Core.Logic.{◌≢◌, by_cases}
use Prim.Native.Nat.{ℕ, zero, suc, ◌+◌, ◌-◌, ◌≤◌, ◌<◌}
use native.Mathlib.Decide.{ℕ_discrete}
use native.Mathlib.Omega.{arith}
use lib.Dec.{eqb}
use lib.ListN.{length}
use borrow.Author.Tests.{eqb-true, eq-eqb, ne_eqb}
use Rattle.std.specs.Prelude.{Ok}
use Rattle.base.specs.Choice.{within}
use Rattle.base.specs.Range.{fold, sum_below}
use Rattle.base.proofs.Folds.{fold_same}
use Rattle.base.proofs.Tests.{and_left, and_right, is_false, tests_differ, within_both}
use Rattle.plan.specs.declared.Plan.{Plan}
use Rattle.plan.specs.declared.TaskId.{TaskId}
use Rattle.plan.specs.declared.ChannelId.{ChannelId}
use Rattle.plan.specs.declared.Word.{Word}
use Rattle.plan.specs.Numbers.{task_id}
use Rattle.plan.specs.Programs.{Programs, programs}
use Rattle.plan.specs.Layout.{count_of}
use Rattle.plan.specs.Refusals.{plan_answer}
use Rattle.plan.proofs.Parts.{tasks_of_lem}
use Rattle.rules.specs.declared.task.Task.{Task}
use Rattle.rules.specs.declared.step.Step.{Step}
use Rattle.rules.specs.declared.system.System.{System}
use Rattle.rules.specs.Systems.{task_at}
use Rattle.rules.specs.Starts.{started}
use Rattle.rules.specs.Steps.{is_run, step_answer, step, steps_by, steps, received_on}
use Rattle.rules_laws.proofs.Steps.{step_accepted, step_passed}
use Rattle.rules_laws.proofs.StepKinds.{answer_run, performed_run}
use Rattle.rules_sound.proofs.Answers.{run_passed}
use Rattle.rules_sound.proofs.Born.{place_few}
use Rattle.transitions.specs.Readings.{reading}
use Rattle.transitions.specs.Progress.{flag, program_of, unexecuted_of, unexecuted}
use Rattle.invariant.proofs.Rest.{place_some}
use Rattle.invariant.proofs.Work.{Went, one_goes, nobody}
use Rattle.invariant.proofs.Next.{Kept, next}
use Rattle.claim.specs.Statement.{accepted_of, from}
use Rattle.claim.specs.Finish.{RestsOn}
use Rattle.claim.specs.Work.{is_run_of, SameWorkEverywhere, AllWorkIsPlaces}
use Rattle.claim.proofs.Lists.{step_either, left, counted, uncounted, kept_step}
use Rattle.claim.proofs.Whole.{start_kept, list_kept, first_place}
use Rattle.claim.proofs.Demand3.{counted as work-counted, same_task_lem}
use Rattle.claim.proofs.Places.{ran_place}

-- one task has gone on, and that is the task whose place has
module _ {m : Programs} {x y : TaskId → Task} where
  went_on_lem : {n : ℕ} → Went m x y n → n ≡ 1 → (t : TaskId) → within 1 (length m) t.0 ≡ true → (y t).pc ≡ suc (x t).pc
      → (u : TaskId) → within 1 (length m) u.0 ≡ true → u.0 ≢ t.0 → (y u).pc ≡ (x u).pc
  went_on_lem (one_goes v is more goes same) e t there on u here other =
      by_cases (ℕ_discrete t.0 v.0)
      (λ (q : t.0 ≡ v.0). same u here (λ z. other (z ∙ sym q)))
      (λ ne. absurd (omega (arith, same t there ne, on)))
  went_on_lem (nobody same) e t there on u here other = same u here

  stayed : {n : ℕ} → Went m x y n → n ≡ 0 → (u : TaskId) → within 1 (length m) u.0 ≡ true → (y u).pc ≡ (x u).pc
  stayed (one_goes v is more goes same) e u here = absurd (omega arith)
  stayed (nobody same) e u here = same u here

module _ (p : Plan) (a : plan_answer (programs p) ≡ Ok tt) where
  abbrev m : Programs
  m = programs p

  -- an accepted step
  module _ {r : System} {w : ChannelId → List Word} (k : Kept p r w) (s : Step) (yes : step_answer r s ≡ Ok tt) (u : TaskId) (here : within 1 (length m) u.0 ≡ true) where
    -- a run, of this task or of another
    after_run_lem : is_run s ≡ true → (task_at (step r s).system u).pc ≡ flag (eqb s.task u.0) + (task_at r u).pc
    unfolding reading
    after_run_lem kind =
        let t = task_id s.task in
        let passed = sym (answer_run r s kind) ∙ (step_passed r s yes).rule in
        let task = (run_passed r t passed).task in
        let there : within 1 (length m) t.0 ≡ true = rw (tasks_of_lem p, ap (λ (z : Plan). z.tasks) (sym k.plan)) task in
        let on : (task_at (step r s).system t).pc ≡ suc (task_at r t).pc = rw (step_accepted r s yes, performed_run r s kind) (ran_place k t passed) in
        let places = (next p a k s yes).places in
        let one : flag (is_run s) ≡ 1 = rw kind refl in
        by_cases (ℕ_discrete s.task u.0)
        (λ (e : s.task ≡ u.0). let same : t ≡ u = ap task_id e in rw (eq-eqb s.task u.0 e) (let here = rw same at on in omega arith))
        (λ ne. rw (ne_eqb s.task u.0 ne) (let same = went_on_lem places one t there on u here (λ e. ne (sym e)) in omega arith))

    after_step : (task_at (step r s).system u).pc ≡ flag (is_run_of u s) + (task_at r u).pc
    unfolding reading
    after_step = go (is_run s) refl
      where
        go : (b : Bool) → is_run s ≡ b → (task_at (step r s).system u).pc ≡ flag (is_run_of u s) + (task_at r u).pc
        go true e = rw e (after_run_lem e)
        go false e = rw e (let same = stayed (next p a k s yes).places (rw e refl) u here in omega arith)

  -- a list of steps
  steps_places : {r : System} {w : ChannelId → List Word} → Kept p r w → (ss : List Step) (u : TaskId) → within 1 (length m) u.0 ≡ true
      → (task_at (steps r ss).system u).pc ≡ accepted_of (is_run_of u) r ss + (task_at r u).pc
  unfolding steps_by accepted_of
  steps_places {r} k [] u here = omega arith
  steps_places {r} k (s ∷ ss) u here =
      let later = steps_places {r = (step r s).system} (kept_step p a k s) ss u here in
      step_either r s
      (λ e.
      let none = uncounted r s (is_run_of u) ss e in
      let rest = ap (λ (q : System). accepted_of (is_run_of u) q ss) (left r s e) in
      let same = ap (λ (q : System). (task_at q u).pc) (left r s e) in
      omega (arith, later, none, rest, same))
      (λ e. omega (arith, later, counted r s (is_run_of u) ss e, after_step k s e u here))

  -- who is no task of the plan has no accepted run
  nobody_runs : {r : System} {w : ChannelId → List Word} → Kept p r w → (ss : List Step) (u : TaskId) → within 1 p.tasks u.0 ≡ false
      → accepted_of (is_run_of u) r ss ≡ 0
  unfolding accepted_of
  nobody_runs {r} k [] u none = refl
  nobody_runs {r} k (s ∷ ss) u none =
      let later = nobody_runs {r = (step r s).system} (kept_step p a k s) ss u none in
      step_either r s
      (λ e. uncounted r s (is_run_of u) ss e ∙ nobody_runs k ss u none)
      (λ e.
      let not-it : is_run_of u s ≡ false =
      is_false (is_run_of u s) (λ is.
      let kind = and_left (is_run s) _ is in
      let same = eqb-true s.task u.0 (and_right (is_run s) _ is) in
      let task = (run_passed r (task_id s.task) (sym (answer_run r s kind) ∙ (step_passed r s e).rule)).task in
      tests_differ (rw (same, k.plan) at task) none) in
      let one : flag (is_run_of u s) ≡ 0 = rw not-it refl in
      omega (arith, counted r s (is_run_of u) ss e, later, one))

-- two sums together
sum_both : (n : ℕ) (f g h : ℕ → ℕ) → ((k : ℕ) → k < n → f k + g k ≡ h k) → sum_below n f + sum_below n g ≡ sum_below n h
unfolding fold
sum_both zero f g h e = refl
sum_both (suc n) f g h e = omega (arith, sum_both n f g h (λ k l. e k (omega arith)), e n (omega arith))

module _ (n : ℕ) (p : Plan) (ss : List Step) (some : 1 ≤ n) (few : n ≤ 6) (a : plan_answer (programs p) ≡ Ok tt) where
  abbrev rig : System
  rig = (from n p ss).system

  here : Kept p rig (λ c. received_on c (from n p ss).reports)
  here = list_kept n p some few a ss

  task_work : (t : TaskId) → within 1 (length (programs p)) t.0 ≡ true → accepted_of (is_run_of t) (started n p) ss ≡ (task_at rig t).pc - 1
  unfolding reading
  task_work t is = omega (arith, steps_places p a (start_kept n p some few a) ss t is, first_place n p some few a t is)

  -- executed and not executed are all
  all_work : accepted_of is_run (started n p) ss ≡ sum_below (length (programs p)) (λ k. (task_at rig (task_id (suc k))).pc - 1)
  unfolding unexecuted reading
  all_work =
      let m = programs p in
      let both =
      sum_both (length m) (λ k. (task_at rig (task_id (suc k))).pc - 1) (λ k. unexecuted_of m (task_at rig) (task_id (suc k))) (count_of m)
      (λ k l.
      let t = task_id (suc k) in
      let ok = here.running.tasks t (within_both 1 (length m) (suc k) (omega arith) (omega arith)) in
      let e : suc k - 1 ≡ k = omega arith in
      let long : length (program_of m t) ≡ count_of m k = ap (count_of m) e in
      omega (
        arith,
        long,
        place_some rig.processors (length m) (program_of m t) (task_at rig t) ok,
        place_few rig.processors (length m) (program_of m t) (task_at rig t) ok,
      )) in
      omega (arith, both, work-counted n p ss some few a)

pub work_is_places : AllWorkIsPlaces
work_is_places n p ss some few a =
    let same : (from n p ss).system.plan.tasks ≡ length (programs p) = ap (λ (z : Plan). z.tasks) (here n p ss some few a).plan ∙ sym (tasks_of_lem p) in
    record {
      all = rw same (all_work n p ss some few a);
      each = λ t low high. task_work n p ss some few a t (within_both 1 (length (programs p)) t.0 low (omega (arith, tasks_of_lem p)));
    }

module _ (n k : ℕ) (p : Plan) (ss ts : List Step) (some : 1 ≤ n) (few : n ≤ 6) (some' : 1 ≤ k) (few' : k ≤ 6) (a : plan_answer (programs p) ≡ Ok tt)
    (quiet : RestsOn n p ss) (rests : RestsOn k p ts) where
  same_place : (t : TaskId) → within 1 p.tasks t.0 ≡ true → (task_at (from n p ss).system t).pc ≡ (task_at (from k p ts).system t).pc
  same_place t is = (same_task_lem p a (here n p ss some few a) (here k p ts some' few' a) rests quiet t is).place

  same_all : accepted_of is_run (started n p) ss ≡ accepted_of is_run (started k p) ts
  same_all =
      let m = programs p in
      all_work n p ss some few a
      ∙ fold_same ◌+◌ 0 (length m) (λ i. (task_at (from n p ss).system (task_id (suc i))).pc - 1) (λ i. (task_at (from k p ts).system (task_id (suc i))).pc - 1)
      (λ i l. rw (same_place (task_id (suc i)) (rw (tasks_of_lem p) at (within_both 1 (length m) (suc i) (omega arith) (omega arith)))) refl)
      ∙ sym (all_work k p ts some' few' a)

  same_each : (t : TaskId) → accepted_of (is_run_of t) (started n p) ss ≡ accepted_of (is_run_of t) (started k p) ts
  same_each t = go (within 1 p.tasks t.0) refl
    where
      go : (b : Bool) → within 1 p.tasks t.0 ≡ b → accepted_of (is_run_of t) (started n p) ss ≡ accepted_of (is_run_of t) (started k p) ts
      go true e =
          let is : within 1 (length (programs p)) t.0 ≡ true = rw (tasks_of_lem p) e in
          task_work n p ss some few a t is ∙ ap (λ (i : ℕ). i - 1) (same_place t e) ∙ sym (task_work k p ts some' few' a t is)
      go false e = nobody_runs p a (start_kept n p some few a) ss t e ∙ sym (nobody_runs p a (start_kept k p some' few' a) ts t e)

pub same_work_everywhere : SameWorkEverywhere
same_work_everywhere n k p ss ts some few some' few' a quiet rests =
    record { all = same_all n k p ss ts some few some' few' a quiet rests; each = same_each n k p ss ts some few some' few' a quiet rests }
