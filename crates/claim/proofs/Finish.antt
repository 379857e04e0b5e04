-- Two rigs of a plan at rest have the same verdict and the same list of stuck tasks.
use mathlib.Core.Path.{◌≡◌, refl, sym, ap, ◌∙◌}
use mathlib.Core.Bool.{Bool, true, false, not, ◌&&◌}
use mathlib.Core.List.{List, [], ◌++◌}
use Prim.Native.Nat.{ℕ, suc, ◌≤◌}
use native.Mathlib.Omega.{arith}
use lib.ListN.{length}
use Rattle.std.specs.Prelude.{Ok}
use Rattle.base.specs.Choice.{within}
use Rattle.base.specs.Range.{joined}
use Rattle.base.specs.Sets.{member}
use Rattle.base.proofs.Folds.{fold_same}
use Rattle.base.proofs.Tests.{within_low, within_high, within_both}
use Rattle.plan.specs.declared.Plan.{Plan}
use Rattle.plan.specs.declared.TaskId.{TaskId}
use Rattle.plan.specs.declared.ChannelId.{ChannelId}
use Rattle.plan.specs.declared.Word.{Word}
use Rattle.plan.specs.Numbers.{task_id}
use Rattle.plan.specs.Programs.{Programs, programs}
use Rattle.plan.specs.Refusals.{plan_answer}
use Rattle.plan.proofs.Parts.{tasks_of_lem}
use Rattle.rules.specs.declared.system.System.{System}
use Rattle.rules.specs.Places.{last_in}
use Rattle.rules.specs.Systems.{task_at}
use Rattle.rules.specs.Steps.{quiescent}
use Rattle.rules.specs.Finish.{is_stuck, verdict, depends_on, Stuck, stuck_at, stuck_list}
use Rattle.net.proofs.Children.{child_within}
use Rattle.transitions.specs.Readings.{reading}
use Rattle.transitions.specs.Progress.{flag}
use Rattle.invariant.proofs.Families.{living_flag}
use Rattle.invariant.proofs.Next.{Kept}
use Rattle.claim.specs.Statement.{SameTask}
use Rattle.claim.specs.Finish.{FinishEverywhere}
use Rattle.claim.proofs.Whole.{list_kept}
use Rattle.claim.proofs.Demand3.{no_messages_lem, same_task_lem}
use Rattle.claim.proofs.Lowest.{lowest_same}

-- two tests that follow from each other
same_test_lem : (b c : Bool) → (b ≡ true → c ≡ true) → (c ≡ true → b ≡ true) → b ≡ c
same_test_lem true c f g = sym (f refl)
same_test_lem false true f g = g refl
same_test_lem false false f g = refl

flag_true : (b : Bool) → 1 ≤ flag b → b ≡ true
flag_true true l = refl
flag_true false l = absurd (omega arith)

-- what a list says of a task is about its state, its place and the members of its set
module _ (p : Plan) (r q : System) (here : r.plan ≡ p) (there : q.plan ≡ p) (t : TaskId) (same : SameTask r q t)
    (members : (u : ℕ) → 1 ≤ u → u ≤ 64 → member u (task_at r t).children ≡ member u (task_at q t).children) where
  same_depends : depends_on r t ≡ depends_on q t
  unfolding depends_on last_in
  same_depends =
      rw (here, there, same.state, same.place, lowest_same 64 (task_at r t).children (task_at q t).children members) refl

  same_stuck : stuck_at r t ≡ stuck_at q t
  unfolding stuck_at
  same_stuck = rw (same.state, same_depends) refl

module _ (p : Plan) (a : plan_answer (programs p) ≡ Ok tt) where
  abbrev m : Programs
  m = programs p

  -- at rest a child that is in one set is in the other
  module _ {r q : System} {w v : ChannelId → List Word} (k : Kept p r w) (l : Kept p q v) (quiet : quiescent r ≡ true) (rests : quiescent q ≡ true) where
    still_living : (t : TaskId) (u : ℕ) → within 1 (length m) t.0 ≡ true → 1 ≤ u
        → member u (task_at r t).children ≡ true → member u (task_at q t).children ≡ true
    unfolding reading
    still_living t u is some e =
        let c = task_id u in
        let parent = k.running.kin t c some e in
        let two = child_within m a t c (within_low 1 (length m) t.0 is) parent in
        let one = within_both 1 (length m) u (omega (arith, within_low 2 (length m) u two)) (within_high 2 (length m) u two) in
        let state = (same_task_lem p a k l rests quiet c (rw (tasks_of_lem p) at one)).state in
        let first = rw (e, state) at (living_flag m a k.running (no_messages_lem p a k quiet) t c is two parent) in
        let second = living_flag m a l.running (no_messages_lem p a l rests) t c is two parent in
        flag_true (member u (task_at q t).children) (omega (arith, first, second))

  module _ {r q : System} {w v : ChannelId → List Word} (k : Kept p r w) (l : Kept p q v) (quiet : quiescent r ≡ true) (rests : quiescent q ≡ true) where
    task_stuck : (t : TaskId) → within 1 p.tasks t.0 ≡ true → stuck_at r t ≡ stuck_at q t
    task_stuck t is =
        let number : within 1 (length m) t.0 ≡ true = rw (tasks_of_lem p) is in
        same_stuck p r q k.plan l.plan t (same_task_lem p a k l rests quiet t is)
        (λ u some few.
        same_test_lem (member u (task_at r t).children) (member u (task_at q t).children)
        (still_living k l quiet rests t u number some)
        (still_living l k rests quiet t u number some))

    same_verdict : verdict r ≡ verdict q
    unfolding verdict
    same_verdict =
        rw (k.plan, l.plan)
        (fold_same ◌&&◌ true p.tasks (λ k. not (is_stuck (task_at r (task_id (suc k))))) (λ k. not (is_stuck (task_at q (task_id (suc k)))))
        (λ i few. rw (same_task_lem p a k l rests quiet (task_id (suc i)) (within_both 1 p.tasks (suc i) (omega arith) (omega arith))).state refl))

    same_list : stuck_list r ≡ stuck_list q
    unfolding stuck_list
    same_list =
        let listed : System → ℕ → List Stuck = λ z n. joined n (λ i. stuck_at z (task_id (suc i))) in
        ap (λ (z : Plan). listed r z.tasks) k.plan
        ∙ fold_same ◌++◌ [] p.tasks (λ i. stuck_at r (task_id (suc i))) (λ i. stuck_at q (task_id (suc i)))
        (λ i few. task_stuck (task_id (suc i)) (within_both 1 p.tasks (suc i) (omega arith) (omega arith)))
        ∙ sym (ap (λ (z : Plan). listed q z.tasks) l.plan)

pub finish_everywhere : FinishEverywhere
finish_everywhere n k p ss ts some few some' few' a quiet rests =
    let here = list_kept n p some few a ss in
    let there = list_kept k p some' few' a ts in
    record { finishes = same_verdict p a here there quiet rests; list = same_list p a here there quiet rests }
