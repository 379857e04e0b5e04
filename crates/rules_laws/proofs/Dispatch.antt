-- The search of a dispatcher, and that a call is a run of ordinary steps.
use mathlib.Core.Path.{◌≡◌, refl, sym, ◌∙◌, ap}
use mathlib.Core.Bool.{true, false}
use mathlib.Core.Logic.{◌⊎◌, inl, inr, by_cases}
use mathlib.Core.List.{List, [], ◌∷◌}
use Prim.Native.Nat.{ℕ, zero, suc, ◌+◌, ◌-◌, ◌<◌, ◌≤◌}
use native.Mathlib.Omega.{arith}
use native.Mathlib.Decide.{ℕ_discrete}
use lib.Dec.{eqb, leb}
use lib.ListN.{set}
use lib.Seq.{set-get_or}
use borrow.Author.Tests.{leb-true, le-leb}
use Rattle.base.specs.Sets.{member}
use Rattle.base.proofs.Choices.{pick_cases}
use Rattle.base.proofs.Pairs.{every_set, every_any}
use Rattle.plan.specs.declared.ProcessorId.{ProcessorId}
use Rattle.rules.specs.declared.step.Stepped.{Stepped}
use Rattle.rules.specs.declared.system.System.{System}
use Rattle.rules.specs.Networks.{messages}
use Rattle.rules.specs.Systems.{with_chosen, chosen_at, ready_at}
use Rattle.rules.specs.Sound.{chosen_ok}
use Rattle.rules.specs.Steps.{step, steps_by, steps, run_step}
use Rattle.rules.specs.Dispatch.{Turned, skipped, made, deliver_step, earliest, first_from, next_ready, delivery_turn, choice, choosing, run_turn, step_of, report_of}
use Rattle.rules_laws.proofs.Shapes.{step_chosen}
use Rattle.rules_laws.proofs.Blind.{step_blind}

-- the first of the n numbers from a on that is in s
pub record First (n a s u : ℕ) : Type 0 where
  pub low : a ≤ u
  pub high : u < a + n
  pub in_set : member u s ≡ true
  pub before : (v : ℕ) → a ≤ v → v < u → member v s ≡ false

-- or none of them is
pub record NoFirst (n a s u : ℕ) : Type 0 where
  pub zero : u ≡ 0
  pub none : (v : ℕ) → a ≤ v → v < a + n → member v s ≡ false

pub first_from_lem : (n a s : ℕ) → First n a s (first_from n a s) ⊎ NoFirst n a s (first_from n a s)
unfolding first_from
first_from_lem zero a s = inr (record { zero = refl; none = λ v l h. absurd (omega arith) })
first_from_lem (suc n) a s =
    pick_cases (λ u. First (suc n) a s u ⊎ NoFirst (suc n) a s u) (member a s) a (first_from n (suc a) s)
    (λ e. inl (record { low = omega arith; high = omega arith; in_set = e; before = λ v l h. absurd (omega arith) }))
    (λ e. later e (first_from_lem n (suc a) s))
  where
    out : member a s ≡ false → (v : ℕ) → a ≤ v → (suc a ≤ v → member v s ≡ false) → member v s ≡ false
    out e v l f = by_cases (ℕ_discrete a v) (λ (z : a ≡ v). rw (← z) e) (λ ne. f (omega arith))

    later : {u : ℕ} → member a s ≡ false → First n (suc a) s u ⊎ NoFirst n (suc a) s u → First (suc n) a s u ⊎ NoFirst (suc n) a s u
    later e (inl f) =
        inl (record { low = omega (arith, f.low); high = omega (arith, f.high); in_set = f.in_set; before = λ v l h. out e v l (λ k. f.before v k h) })
    later e (inr f) = inr (record { zero = f.zero; none = λ v l h. out e v l (λ k. f.none v k (omega arith)) })

-- a choice is a task of the rig, or none
pub next_few : (m last s : ℕ) → last ≤ m → next_ready m last s ≤ m
unfolding next_ready
next_few m last s l =
    pick_cases (λ u. u ≤ m) (eqb (first_from (m - last) (suc last) s) 0) (first_from last 1 s) (first_from (m - last) (suc last) s)
    (λ e. few last 1 (omega arith) (first_from_lem last 1 s))
    (λ e. few (m - last) (suc last) (omega arith) (first_from_lem (m - last) (suc last) s))
  where
    few : {u : ℕ} (n a : ℕ) → a + n ≤ suc m → First n a s u ⊎ NoFirst n a s u → u ≤ m
    few n a h (inl f) = omega (arith, f.high)
    few n a h (inr f) = omega (arith, f.zero)

module _ (r : System) (d : ProcessorId) where
  -- a last choice is at most T, and so is the next one
  pub last_few : chosen_ok r.plan.tasks r.chosen ≡ true → chosen_at r d ≤ r.plan.tasks
  unfolding chosen_ok
  last_few h = leb-true _ _ (every_any (λ t. leb t r.plan.tasks) r.chosen (d.0 - 1) 0 (le-leb 0 r.plan.tasks (omega arith)) h)

  pub choice_few : chosen_ok r.plan.tasks r.chosen ≡ true → choice r d ≤ r.plan.tasks
  unfolding choice
  choice_few h = next_few r.plan.tasks (chosen_at r d) (ready_at r d) (last_few h)

  pub choosing_ok : chosen_ok r.plan.tasks r.chosen ≡ true → chosen_ok r.plan.tasks (choosing r d (choice r d)).chosen ≡ true
  unfolding chosen_ok
  choosing_ok h = every_set (λ t. leb t r.plan.tasks) r.chosen (d.0 - 1) (choice r d) h (le-leb _ _ (choice_few h))

-- what a turn leaves is what its step leaves, but for desk d's last choice
pub record TurnRuns (r : System) (d : ProcessorId) (o : Turned) : Type 0 where
  pub last : ℕ
  pub system : o.system ≡ choosing (steps r (step_of o.turn)).system d last
  pub reports : report_of o.turn ≡ (steps r (step_of o.turn)).reports
  pub ok : chosen_ok r.plan.tasks o.system.chosen ≡ true

pub same_choice : (r : System) (d : ProcessorId) → choosing r d (chosen_at r d) ≡ r
same_choice r d = ap (with_chosen r) (set-get_or r.chosen (d.0 - 1) 0)

-- that of a delivery leaves just that
pub record DeliveryRuns (r : System) (o : Turned) : Type 0 where
  pub system : o.system ≡ (steps r (step_of o.turn)).system
  pub reports : report_of o.turn ≡ (steps r (step_of o.turn)).reports

module _ (r : System) (d : ProcessorId) where
  pub delivery_runs : DeliveryRuns r (delivery_turn r d)
  unfolding delivery_turn steps_by step_of report_of
  delivery_runs =
      let p = earliest d (messages r.network) in
      pick_cases (DeliveryRuns r) (eqb p 0) (skipped r) (made r (deliver_step p))
      (λ e. record { system = refl; reports = refl })
      (λ e. record { system = refl; reports = refl })

  pub run_runs : chosen_ok r.plan.tasks r.chosen ≡ true → TurnRuns r d (run_turn r d)
  unfolding run_turn steps_by step_of report_of
  run_runs ok =
      let t = choice r d in
      let b = step_blind r (choosing r d t).chosen (choosing_ok r d ok ∙ sym ok) (run_step t) in
      pick_cases (TurnRuns r d) (eqb t 0) (skipped r) (made (choosing r d t) (run_step t))
      (λ e. record { last = chosen_at r d; system = sym (same_choice r d); reports = refl; ok = ok })
      (λ e.
      record {
        last = t;
        system = ap (λ (o : Stepped). o.system) b ∙ ap (λ (x : List ℕ). with_chosen (step r (run_step t)).system (set x (d.0 - 1) t)) (sym (step_chosen r (run_step t)));
        reports = ap (λ (o : Stepped). o.report ∷ []) b;
        ok = rw (step_chosen (choosing r d t) (run_step t)) (choosing_ok r d ok);
      })
