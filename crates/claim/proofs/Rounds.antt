-- Rounds of calls bring the rig to rest.
use mathlib.Core.Path.{◌≡◌, refl, sym, ◌∙◌, ap}
use mathlib.Core.Bool.{Bool, true, false}
use mathlib.Core.Logic.{◌⊎◌, inl, inr, by_cases}
use mathlib.Core.List.{List, [], ◌∷◌, ◌++◌}
use Prim.Native.Nat.{ℕ, zero, suc, ◌+◌, ◌-◌, ◌*◌, ◌≤◌}
use native.Mathlib.Nat.{mul-suc}
use native.Mathlib.Omega.{arith}
use native.Mathlib.Decide.{ℕ_discrete}
use lib.ListN.{take}
use borrow.Author.Tests.{eq-eqb}
use Rattle.std.specs.Prelude.{Ok}
use Rattle.base.specs.Lists.{every, count}
use Rattle.base.proofs.Choices.{pick_either}
use Rattle.base.proofs.Tests.{and_both, is_true, every_append, within_low, within_high, within_both, up_to_at}
use Rattle.plan.specs.declared.Plan.{Plan}
use Rattle.rules.specs.declared.task.TaskState.TheVariants.{Ready}
use Rattle.rules.specs.declared.system.System.{System}
use Rattle.rules.specs.Numbers.{task_id}
use Rattle.rules.specs.Tasks.{is_in, is_at}
use Rattle.rules.specs.Networks.{message_at}
use Rattle.rules.specs.Systems.{task_at, task_program}
use Rattle.rules.specs.Steps.{step_answer, run_step, quiescent}
use Rattle.rules.specs.Dispatch.{addressee}
use Rattle.rules_laws.proofs.ButChosen.{but_itself, but_quiescent}
use Rattle.rules_laws.proofs.Sound.{task_ok_in, system_passed}
use Rattle.rules_laws.proofs.Steps.{step_passed}
use Rattle.rules_laws.proofs.StepKinds.{answer_run}
use Rattle.rules_sound.specs.Sound.{Startable}
use Rattle.rules_sound.proofs.Answers.{run_passed}
use Rattle.rules_sound.proofs.Frames.{tasks_some}
use Rattle.rules_sound.proofs.Settled.{settled}
use Rattle.claim.specs.Statement.{not_executed}
use Rattle.claim.specs.Events.{Event, happened, mixed}
use Rattle.claim.specs.Rounds.{rounds, RoundsRest}
use Rattle.claim.proofs.Lists.{either}
use Rattle.claim.proofs.Quiet.{busy_cases}
use Rattle.claim.proofs.Dispatch.{mixed_demand_3}
use Rattle.claim.proofs.Live.{Live, live_events, live_mixed}
use Rattle.claim.proofs.Calls.{is_call, rounds_calls, rounds_call, rounds_add, calls_make, no_moves, rest_idle}
use Rattle.claim.proofs.Earliest.{is_for}
use Rattle.claim.proofs.Followed.{mail, length_mail}
use Rattle.claim.proofs.Letters.{desk_there, own_desk, letter_leaves}
use Rattle.claim.proofs.Idle.{idle_followed, done, idle_events, happened_then, done_then}
use Rattle.claim.proofs.Waiting.{chooses}

-- one letter counts at most once
count_one : {A : Type 0} (test : A → Bool) (xs : List A) → count test (take 1 xs) ≤ 1
unfolding count
count_one test [] = omega arith
count_one test (x ∷ xs) = pick_either (λ k. k + 0 ≤ 1) (test x) 1 0 (omega arith) (omega arith)

module _ (n : ℕ) (p : Plan) (start : Startable n p) where
  abbrev turns : List Event
  turns = rounds n p.tasks

  module _ (r : System) (l : Live n p r) where
    -- T rounds deliver the first letter
    letter_goes : 1 ≤ r.network.used → 1 ≤ done r turns
    letter_goes some =
        let d = addressee (message_at r.network 1) in
        let own = own_desk n p turns r l 1 (omega arith) some in
        let at = desk_there n p d r l 1 (omega arith) (omega (arith, some, length_mail l)) own in
        let calls = rounds_call n p.tasks d (within_low 1 n d.0 at) (within_high 1 n d.0 at) in
        let one = count_one (is_for d) (mail r) in
        let tasks = tasks_some n p start in
        let gone = (letter_leaves n p turns r l 1 (omega arith) some).leaves (omega (arith, one, calls, tasks)) in
        by_cases
        (ℕ_discrete (done r turns) 0)
        (λ idle. absurd (omega (arith, idle_followed r (happened r turns).steps 1 idle, gone)))
        (λ ne. omega arith)

    -- and run a task that can run
    task_goes : (t : ℕ) → 1 ≤ t → t ≤ r.plan.tasks → step_answer r (run_step t) ≡ Ok tt → 1 ≤ done r turns
    task_goes t low high accepted =
        let x = task_at r (task_id t) in
        let d = x.processor in
        let passed = run_passed r (task_id t) (sym (answer_run r (run_step t) refl) ∙ (step_passed r (run_step t) accepted).rule) in
        let ok = up_to_at (task_ok_in r) r.plan.tasks t low high (system_passed r l.ok).tasks in
        let at = settled r.processors r.plan.tasks (task_program r (task_id t)) x Ready refl passed.ready ok in
        let here : d.0 ≤ n = omega (arith, at.processor_few, l.processors) in
        let ready = and_both (is_in Ready x) (is_at d x) passed.ready (eq-eqb d.0 d.0 refl) in
        let tasks : r.plan.tasks ≡ p.tasks = ap (λ (z : Plan). z.tasks) l.plan in
        chooses n p d (within_both 1 n d.0 at.processor here) r t ready low accepted start.few (omega arith) turns r l (but_itself r)
        (rounds_call n p.tasks d at.processor here)

    -- so in a rig that is not at rest some step is accepted, and one at rest stays
    progress : quiescent r ≡ false → 1 ≤ done r turns
    progress busy = busy_cases r busy letter_goes task_goes

    rest_stays : quiescent r ≡ true → (k : ℕ) → quiescent (happened r (rounds n k)).system ≡ true
    rest_stays quiet k =
        let idle = rest_idle r l.ok quiet (happened r (rounds n k)).steps (calls_make (rounds n k) r (rounds_calls n k)) in
        but_quiescent (idle_events r (rounds n k) idle) ∙ quiet

  -- T rounds b times, at rest or with b accepted steps
  abbrev Climbs : ℕ → System → Type 0
  Climbs b r = (quiescent (happened r (rounds n (p.tasks * b))).system ≡ true) ⊎ (b ≤ done r (rounds n (p.tasks * b)))

  -- T rounds more
  module _ (b : ℕ) (r : System) where
    abbrev q : System
    q = (happened r turns).system

    more : rounds n (p.tasks * suc b) ≡ turns ++ rounds n (p.tasks * b)
    more = let e : p.tasks * suc b ≡ p.tasks + p.tasks * b = omega (arith, mul-suc p.tasks b) in ap (rounds n) e ∙ rounds_add n p.tasks (p.tasks * b)

    climbs_on : 1 ≤ done r turns → Climbs b q → Climbs (suc b) r
    climbs_on one (inl quiet) = inl (rw (more, happened_then r turns (rounds n (p.tasks * b))) quiet)
    climbs_on one (inr all) = inr (rw more (omega (arith, done_then r turns (rounds n (p.tasks * b)), one, all)))

  climbs : (b : ℕ) (r : System) → Live n p r → Climbs b r
  climbs zero r l = inr (omega arith)
  climbs (suc b) r l =
      either (quiescent r)
      (λ quiet. inl (rest_stays r l quiet (p.tasks * suc b)))
      (λ busy. climbs_on b r (progress r l busy) (climbs b (happened r turns).system (live_events l turns)))

  -- all of it, where no more than `bound` steps of calls are accepted
  module _ (r : System) (l : Live n p r) (bound : ℕ) (most : (us : List Event) → every is_call us ≡ true → done r us ≤ bound) where
    abbrev so_many : ℕ
    so_many = p.tasks * bound

    abbrev then : System
    then = (happened r (rounds n so_many)).system

    -- at rest after so many rounds, and so after k
    stays : quiescent then ≡ true → (k : ℕ) → so_many ≤ k → quiescent (happened r (rounds n k)).system ≡ true
    stays quiet k enough =
        let e : k ≡ so_many + (k - so_many) = omega arith in
        let all = ap (rounds n) e ∙ rounds_add n so_many (k - so_many) in
        rw (all, happened_then r (rounds n so_many) (rounds n (k - so_many)))
        (rest_stays then (live_events l (rounds n so_many)) quiet (k - so_many))

    rests : Climbs bound r → quiescent then ≡ true
    rests (inl quiet) = quiet
    rests (inr all) =
        is_true (quiescent then) (λ busy.
        let us = rounds n so_many in
        let one = progress then (live_events l us) busy in
        let calls = every_append is_call us turns ∙ and_both (every is_call us) _ (rounds_calls n so_many) (rounds_calls n p.tasks) in
        omega (arith, most (us ++ turns) calls, done_then r us turns, one, all))

pub rounds_rest : RoundsRest
rounds_rest n p es some few a k enough =
    let start : Startable n p = record { some = some; few = few; plan = a } in
    let r = (mixed n p es).system in
    let l = live_mixed n p es some few a in
    let bound = 10 * (not_executed n p (mixed n p es).steps + r.network.used) in
    let most : (us : List Event) → every is_call us ≡ true → done r us ≤ bound =
    λ us calls. (mixed_demand_3 n p es some few a).few_steps us (no_moves r (happened r us).steps (calls_make us r calls)) in
    stays n p start r l bound most (rests n p start r l bound most (climbs n p start bound r l)) k enough
