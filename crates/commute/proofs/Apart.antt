-- The footprints of two runs at different desks have nothing in common.
use mathlib.Core.Path.{◌≡◌, sym, ◌∙◌, ap}
use mathlib.Core.Bool.{true, ◌&&◌}
use mathlib.Core.Logic.{◌≢◌}
use Prim.Native.Nat.{◌≤◌}
use native.Mathlib.Omega.{arith}
use borrow.Author.Tests.{eqb-true}
use Rattle.base.proofs.Tests.{and_left, and_right, or_cases, is_false}
use Rattle.plan.specs.declared.TaskId.{TaskId}
use Rattle.plan.specs.declared.ProcessorId.{ProcessorId}
use Rattle.plan.specs.Users.{sender_of, receiver_of, parent_of}
use Rattle.rules.specs.Numbers.{task_id}
use Rattle.rules.specs.declared.system.System.{System}
use Rattle.rules.specs.Tasks.{is_at}
use Rattle.rules.specs.Systems.{task_at, meaning}
use Rattle.rules.specs.Effects.{receives_on, sends_on}
use Rattle.commute.specs.Footprints.{footprint, creates}
use Rattle.commute.specs.Pairs.{Apart}

module _ (r : System) (t u : TaskId) (apart : (task_at r t).processor.0 ≢ (task_at r u).processor.0)
    (t-low : 1 ≤ (task_at r t).processor.0) (u-low : 1 ≤ (task_at r u).processor.0)
    (t-new : (v : TaskId) → creates r t v ≡ true → (task_at r v).processor.0 ≡ 0)
    (u-new : (v : TaskId) → creates r u v ≡ true → (task_at r v).processor.0 ≡ 0)
    (t-parent : (v : TaskId) → creates r t v ≡ true → parent_of (meaning r) v ≡ t)
    (u-parent : (v : TaskId) → creates r u v ≡ true → parent_of (meaning r) v ≡ u) where
  -- they are two
  two : t.0 ≢ u.0
  two e = apart (ap (λ (x : TaskId). (task_at r x).processor.0) (ap task_id e))

  abbrev d : ProcessorId
  d = (task_at r t).processor

  abbrev e : ProcessorId
  e = (task_at r u).processor

  -- a task at both desks, or at one and at none
  both_at : (v : TaskId) → is_at d (task_at r v) ≡ true → is_at e (task_at r v) ≡ true → ⊥
  both_at v p q = apart (sym (eqb-true (task_at r v).processor.0 d.0 p) ∙ eqb-true (task_at r v).processor.0 e.0 q)

  pub footprints_apart : Apart (footprint r t) (footprint r u)
  unfolding footprint
  footprints_apart =
      let m = meaning r in
      record {
        task =
            λ v p.
            is_false _
            (λ q.
            or_cases (is_at d (task_at r v)) (creates r t v) p
            (λ p. or_cases (is_at e (task_at r v)) (creates r u v) q (both_at v p) (λ q. omega (arith, u-new v q, eqb-true (task_at r v).processor.0 d.0 p)))
            (λ p.
            or_cases (is_at e (task_at r v)) (creates r u v) q (λ q. omega (arith, t-new v p, eqb-true (task_at r v).processor.0 e.0 q))
            (λ q. two (ap (λ (x : TaskId). x.0) (sym (t-parent v p) ∙ u-parent v q)))));
        processor = λ x p. is_false _ (λ q. apart (sym (eqb-true x.0 d.0 p) ∙ eqb-true x.0 e.0 q));
        channel =
            λ c p.
            is_false _
            (λ q.
            let x = receiver_of m c in
            let t-there = is_at d (task_at r x) in
            let u-there = is_at e (task_at r x) in
            or_cases (receives_on m t c) (sends_on m t c && t-there) p
            (λ p.
            let is : x ≡ t = ap task_id (eqb-true x.0 t.0 p) in
            or_cases (receives_on m u c) (sends_on m u c && u-there) q
            (λ q. two (sym (eqb-true x.0 t.0 p) ∙ eqb-true x.0 u.0 q))
            (λ q. apart (rw is at (eqb-true (task_at r x).processor.0 e.0 (and_right (sends_on m u c) u-there q)))))
            (λ p.
            or_cases (receives_on m u c) (sends_on m u c && u-there) q
            (λ q.
            let is : x ≡ u = ap task_id (eqb-true x.0 u.0 q) in
            apart (sym (rw is at (eqb-true (task_at r x).processor.0 d.0 (and_right (sends_on m t c) t-there p)))))
            (λ q.
            two
            (sym (eqb-true (sender_of m c).0 t.0 (and_left (sends_on m t c) t-there p))
            ∙ eqb-true (sender_of m c).0 u.0 (and_left (sends_on m u c) u-there q)))));
      }
