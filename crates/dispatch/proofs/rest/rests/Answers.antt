use mathlib.Core.Path.{◌≡◌, refl, sym, ap, ◌∙◌}
use mathlib.Core.Bool.{Bool, true, false, not}
use Prim.Native.Nat.{ℕ, ◌+◌, ◌-◌}
use native.Mathlib.Omega.{arith}
use native.Mathlib.Numerals.{add-one}
use borrow.Author.Tests.{eq-eqb, ne_eqb}
use Rattle.base.specs.Range.{below}
use Rattle.base.proofs.Tests.{below_none, below_more, below_fails}
use Rattle.rules.specs.declared.system.System.{System}
use Rattle.rules.specs.Answers.{is_accepted}
use Rattle.rules.specs.Steps.{step_answer, run_step, quiescent}
use Rattle.dispatch.proofs.rest.rests.Invariants.{stuck}
use Rattle.dispatch.proofs.rest.rests.Goals as goal

-- a letter, none of the tasks can run, or one can
module _ (r : System) where
  a_letter : (r.network.used ≡ 0 → ⊥) → quiescent r ≡ false
  unfolding quiescent
  a_letter ne = rw (ne_eqb r.network.used 0 ne) refl

  all_stuck : r.network.used ≡ 0 → quiescent r ≡ below r.plan.tasks (stuck r)
  unfolding quiescent
  all_stuck e = rw (eq-eqb r.network.used 0 e) refl

  run_of : (t : ℕ) {b : Bool} → b ≡ is_accepted (step_answer r (run_step (t + 1))) → stuck r t ≡ not b
  run_of t e = rw (e, add-one t) refl

pub returns-then-r-ne0 : goal.returns-then-r-ne0
returns-then-r-ne0 c = sym (a_letter _ c.if-r-ne0.true)

pub loop-k-init : goal.loop-k-init
loop-k-init c = below_none _

pub returns-then-can_run : goal.returns-then-can_run
returns-then-can_run c =
    let r = c.args.r in
    let q = run_of r c.loop-k.k c.can_run.ensures ∙ ap not c.if-can_run.true in
    sym (all_stuck r c.if-r-ne0.false ∙ below_fails (stuck r) r.plan.tasks c.loop-k.k (omega arith) q)

pub loop-k-preserved : goal.loop-k-preserved
loop-k-preserved c =
    let r = c.args.r in
    below_more _ c.loop-k.k c.loop-k.invariant (run_of r c.loop-k.k c.can_run.ensures ∙ ap not c.if-can_run.false)

pub returns : goal.returns
returns c =
    let r = c.args.r in
    let e : c.loop-k.k ≡ r.plan.tasks = omega arith in
    sym (all_stuck r c.if-r-ne0.false ∙ (rw e at c.loop-k.invariant))
