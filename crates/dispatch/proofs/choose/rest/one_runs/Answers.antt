use mathlib.Core.Path.{◌≡◌, refl, sym, ap, ◌∙◌, subst}
use mathlib.Core.Bool.{true}
use Prim.Native.Nat.{ℕ, ◌+◌, ◌-◌}
use native.Mathlib.Omega.{arith}
use Rattle.base.proofs.Tests.{tests_differ, within_low, within_high}
use Rattle.rules.specs.Numbers.{task_id}
use Rattle.rules.specs.Answers.{is_accepted}
use Rattle.rig_parts.specs.RunVerdicts.{run_refusal}
use Rattle.rig_parts.proofs.Passed.{run_passed}
use Rattle.rig.proofs.rest.Quiet.{quiet_fails}
use Rattle.board.specs.Lent.{tasks_on}
use Rattle.dispatch.proofs.choose.rest.one_runs.Goals as goal

pub next_ready-t-requires : goal.next_ready-t-requires
next_ready-t-requires c = let few = c.requires.few in (few, omega (arith, c.loop-last-test.true, few))

pub returns-then-t-last : goal.returns-then-t-last
returns-then-t-last c e = absurd (tests_differ e refl)

pub returns-then-is_accepted : goal.returns-then-is_accepted
returns-then-is_accepted c e =
    let a = c.args in
    let t = c.next_ready-t.result in
    let ts = tasks_on a.board.now in
    let runs : is_accepted (run_refusal a.codes.now a.count ts (task_id t)) ≡ true = sym (c.is_accepted.ensures ∙ ap is_accepted c.run_refusal-q.ensures) ∙ c.if-is_accepted.true in
    let within = (run_passed a.codes.now a.count ts (task_id t) runs).0 in
    let low = within_low 1 a.count t within in
    let high = within_high 1 a.count t within in
    let back : t ≡ t - 1 + 1 = omega (arith, low) in
    quiet_fails a.count a.codes.now ts 0 (t - 1) refl (omega (arith, low, high))
    (subst (λ (i : ℕ). is_accepted (run_refusal a.codes.now a.count ts (task_id i)) ≡ true) back runs)

pub returns : goal.returns
returns c e = absurd (tests_differ e refl)
