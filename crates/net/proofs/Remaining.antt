-- Each label leaves fewer instructions, so every run of the net ends: it is no longer than the instructions left, and a normal form is reached.
use mathlib.Core.Path.{◌≡◌, refl, ap}
use mathlib.Core.Bool.{Bool, true, false, not, ◌&&◌}
use mathlib.Core.List.{List, []}
use mathlib.Core.Logic.{◌⊎◌, inl, inr, ⊎_elim, by_cases}
use Prim.Native.Nat.{ℕ, suc, ◌+◌, ◌-◌, ◌<◌, ◌≤◌}
use native.Mathlib.Decide.{ℕ_discrete, dec_le}
use native.Mathlib.Omega.{arith}
use lib.ListN.{length, get_or-eq_default}
use borrow.Author.Tests.{ltb-true, eq-eqb, ne_eqb, not-true, not-false}
use Rattle.base.specs.Range.{below}
use Rattle.base.proofs.Tests.{and_right, and_both, tests_differ, is_false, below_at, below_cases}
use Rattle.base.proofs.Sums.{sum_less}
use Rattle.net.specs.Machines.{Run, Normal}
use Rattle.net.proofs.Halting.{Next, Halts, run_bounded, halts}
use Rattle.plan.specs.declared.TaskId.{TaskId}
use Rattle.plan.specs.Numbers.{task_id}
use Rattle.plan.specs.Programs.{Programs}
use Rattle.plan.specs.Users.{sender_of}
use Rattle.net.specs.States.{Net}
use Rattle.net.specs.Labels.{Label, own, pass, takes_part}
use Rattle.net.specs.Guards.{program_for, is_complete, is_active, next_of, enabled}
use Rattle.net.specs.Effects.{effect}
use Rattle.net.specs.Nets.{net, remaining}
use Rattle.net.proofs.Parts.{own_part, sender_part, label_of, acting}
use Rattle.net.proofs.Stays.{completed_grows, completed_stays}

module _ (m : Programs) (s : Net) (t : TaskId) (active : is_active m s t ≡ true) where
  pub active_short : s.completed t < length (program_for m t)
  unfolding is_active is_complete
  active_short = ltb-true _ _ (not-false _ (not-true _ (and_right (s.born t) _ active)))

  -- it is one of the plan's
  pub active_task : (1 ≤ t.0) × (t.0 ≤ length m)
  unfolding program_for
  active_task =
      by_cases (ℕ_discrete t.0 0) (λ e. absurd (none (rw (eq-eqb t.0 0 e) refl)))
      (λ ne.
      by_cases (dec_le t.0 (length m)) (λ l. (omega arith, l))
      (λ nl. absurd (none (rw (ne_eqb t.0 0 ne) (get_or-eq_default m [] (omega arith))))))
    where
      none : program_for m t ≡ [] → ⊥
      none e = let q : s.completed t < length (program_for m t) = active_short in let r : s.completed t < 0 = rw e at q in omega arith

-- somebody takes part in each label
pub somebody : (m : Programs) (l : Label) → (t : TaskId) × (takes_part m t l ≡ true)
somebody m (own t) = (t, own_part m t)
somebody m (pass c) = (sender_of m c, sender_part m c)

module _ (m : Programs) where
  pub label_less : (s : Net) (l : Label) → enabled m s l ≡ true → remaining m (effect m s l) < remaining m s
  unfolding remaining
  label_less s l h =
      let (t, p) = somebody m l in
      let a = (acting m s l t h p).active in
      let (low, high) = active_task m s t a in
      let e : t ≡ task_id (suc (t.0 - 1)) = ap task_id (omega arith) in
      sum_less (length m) _ _ (λ k q. at_most s l h (task_id (suc k))) (t.0 - 1) (omega arith)
      (rw (← e) (omega (arith, active_short m s t a, completed_grows m s l t h p)))
    where
      at_most : (s : Net) (l : Label) → enabled m s l ≡ true → (t : TaskId)
          → length (program_for m t) - (effect m s l).completed t ≤ length (program_for m t) - s.completed t
      at_most s l h t = go (takes_part m t l) refl
        where
          go : (b : Bool) → takes_part m t l ≡ b → length (program_for m t) - (effect m s l).completed t ≤ length (program_for m t) - s.completed t
          go true e = omega (arith, completed_grows m s l t h e)
          go false e = omega (arith, completed_stays m s l t e)

  -- a task may do its next instruction
  abbrev can : Net → ℕ → Bool
  can s k = is_active m s (task_id (suc k)) && enabled m s (label_of (task_id (suc k)) (next_of m s (task_id (suc k))))

  -- some label may be taken, or none
  next : (s : Net) → Next (net m) s ⊎ Normal (net m) s
  next s =
      ⊎_elim (λ none. inr (λ l. is_false (enabled m s l) (none_enabled none l)))
      (λ x. let (k, q, e) = x in inl (record { label = label_of (task_id (suc k)) (next_of m s (task_id (suc k))); may = and_right (is_active m s (task_id (suc k))) _ (not-false (can s k) e) }))
      (below_cases (λ k. not (can s k)) (length m))
    where
      none_enabled : below (length m) (λ k. not (can s k)) ≡ true → (l : Label) → enabled m s l ≡ true → ⊥
      none_enabled none l e =
          let (t, p) = somebody m l in
          let x = acting m s l t e p in
          let (low, high) = active_task m s t x.active in
          let f : t ≡ task_id (suc (t.0 - 1)) = ap task_id (omega arith) in
          let y : can s (t.0 - 1) ≡ true = rw (← f) (and_both _ _ x.active (rw x.label e)) in
          tests_differ y (not-true _ (below_at (λ k. not (can s k)) (length m) (t.0 - 1) (omega arith) none))

  -- no run is longer than the instructions left
  pub run_ends : {s z : Net} {ls : List Label} → Run (net m) s ls z → length ls + remaining m z ≤ remaining m s
  run_ends r = run_bounded (net m) (remaining m) label_less r

  -- from each state a normal form is reached
  pub reaches_normal : (s : Net) → Halts (net m) s
  reaches_normal s = halts (net m) (remaining m) label_less next s
