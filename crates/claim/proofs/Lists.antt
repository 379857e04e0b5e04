-- A list of steps: what holds is kept, each run executes one instruction, and without moves only so many steps are accepted.
use mathlib.Core.Path.{◌≡◌, refl, sym, ap, subst, fun_ext, ◌∙◌}
use mathlib.Core.Bool.{Bool, true, false}
use mathlib.Core.List.{List, [], ◌∷◌, ◌++◌, append_assoc}
use Prim.Native.Nat.{◌+◌, ◌≤◌}
use native.Mathlib.Omega.{arith}
use Rattle.std.specs.Prelude.{Ok}
use Rattle.base.proofs.Tests.{is_false, and_true, and_false}
use Rattle.plan.specs.declared.Plan.{Plan}
use Rattle.plan.specs.declared.ChannelId.{ChannelId}
use Rattle.plan.specs.declared.Word.{Word}
use Rattle.plan.specs.Programs.{programs}
use Rattle.plan.specs.Refusals.{plan_answer}
use Rattle.rules.specs.declared.step.Step.{Step}
use Rattle.rules.specs.declared.step.Stepped.{Stepped}
use Rattle.rules.specs.declared.system.System.{System}
use Rattle.rules.specs.Answers.{is_accepted}
use Rattle.rules.specs.Steps.{is_run, is_move, step_answer, refused, step, steps_by, steps, word_on, received_on}
use Rattle.rules_laws.proofs.Steps.{accepted_is, step_refused}
use Rattle.transitions.specs.Readings.{reading}
use Rattle.transitions.specs.Progress.{flag, unexecuted}
use Rattle.invariant.specs.Weights.{weight_of}
use Rattle.claim.specs.Statement.{accepted_of, any_step}
use Rattle.invariant.proofs.Next.{Kept, next, no_more}

-- a test holds, or it fails
pub either : {C : Type 0} (b : Bool) → (b ≡ true → C) → (b ≡ false → C) → C
either true f g = f refl
either false f g = g refl

-- a step is refused, or accepted
pub step_either : {C : Type 0} (r : System) (s : Step) → (is_accepted (step_answer r s) ≡ false → C) → (step_answer r s ≡ Ok tt → C) → C
step_either r s refusal acceptance =
    either (is_accepted (step_answer r s)) (λ e. acceptance (accepted_is (step_answer r s) e)) refusal

-- a refused one leaves the rig, and counts for nothing; an accepted one counts if it passes the test
module _ (r : System) (s : Step) where
  stays : is_accepted (step_answer r s) ≡ false → step r s ≡ refused r (step_answer r s)
  stays e = step_refused r s (step_answer r s) refl e

  pub left : is_accepted (step_answer r s) ≡ false → (step r s).system ≡ r
  left e = ap (λ (o : Stepped). o.system) (stays e)

  module _ (test : Step → Bool) (ss : List Step) where
    pub counted : step_answer r s ≡ Ok tt → accepted_of test r (s ∷ ss) ≡ flag (test s) + accepted_of test (step r s).system ss
    unfolding accepted_of
    counted e = let all : is_accepted (step_answer r s) ≡ true = ap is_accepted e in rw (all, and_true (test s)) refl

    pub uncounted : is_accepted (step_answer r s) ≡ false → accepted_of test r (s ∷ ss) ≡ accepted_of test r ss
    unfolding accepted_of
    uncounted e = rw (e, and_false (test s), left e) (omega arith)

module _ (p : Plan) (a : plan_answer (programs p) ≡ Ok tt) where
  pub kept_step : {r : System} {w : ChannelId → List Word} → Kept p r w → (s : Step)
      → Kept p (step r s).system (λ c. w c ++ word_on c (step r s).report.received)
  unfolding word_on
  kept_step {r} {w} k s =
      step_either r s (λ e. rw (stays r s e, no_more w) k) (λ e. (next p a k s e).kept)

  pub kept_steps : {r : System} {w : ChannelId → List Word} → Kept p r w → (ss : List Step)
      → Kept p (steps r ss).system (λ c. w c ++ received_on c (steps r ss).reports)
  unfolding steps_by received_on
  kept_steps {r} {w} k [] = rw (no_more w) k
  kept_steps {r} {w} k (s ∷ ss) =
      subst (Kept p (steps (step r s).system ss).system)
      (fun_ext (λ c. append_assoc (w c) (word_on c (step r s).report.received) (received_on c (steps (step r s).system ss).reports)))
      (kept_steps {r = (step r s).system} (kept_step k s) ss)

  -- each accepted run executes one instruction
  pub runs_counted : {r : System} {w : ChannelId → List Word} → Kept p r w → (ss : List Step)
      → unexecuted (programs p) (reading r).tasks ≡ accepted_of is_run r ss + unexecuted (programs p) (reading (steps r ss).system).tasks
  unfolding steps_by accepted_of
  runs_counted {r} k [] = omega arith
  runs_counted {r} k (s ∷ ss) =
      let later = runs_counted {r = (step r s).system} (kept_step k s) ss in
      step_either r s
      (λ e. let same = ap (λ (q : System). unexecuted (programs p) (reading q).tasks) (left r s e) in
      let none = uncounted r s is_run ss e in
      let rest = ap (λ (q : System). accepted_of is_run q ss) (left r s e) in
      omega (arith, later, same, none, rest))
      (λ e. omega (arith, later, counted r s is_run ss e, (next p a k s e).work))

  -- without an accepted move each accepted step makes the measure smaller
  pub few_accepted : {r : System} {w : ChannelId → List Word} (k : Kept p r w) (ss : List Step) → accepted_of is_move r ss ≡ 0
      → accepted_of any_step r ss ≤ weight_of (programs p) k.histories (reading r)
  unfolding accepted_of
  few_accepted {r} k [] none = omega arith
  few_accepted {r} k (s ∷ ss) none =
      step_either r s
      (λ e. omega (arith, few_accepted k ss (sym (uncounted r s is_move ss e) ∙ none), uncounted r s any_step ss e))
      (λ e.
      let then = next p a k s e in
      let moves = counted r s is_move ss e in
      let still : is_move s ≡ false = is_false (is_move s) (λ m. let one : flag (is_move s) ≡ 1 = rw m refl in omega (arith, moves, none, one)) in
      let less = then.falls still in
      let rest = few_accepted {r = (step r s).system} then.kept ss (omega (arith, moves, none)) in
      let all = counted r s any_step ss e in
      omega (arith, less, rest, all))
