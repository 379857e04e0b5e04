-- A task that stays ready at the desk is chosen in its turn.
use mathlib.Core.Path.{◌≡◌, refl, sym, ◌∙◌, ap, subst}
use mathlib.Core.Bool.{Bool, true, false, ◌||◌}
use mathlib.Core.Logic.{◌⊎◌, inl, inr}
use mathlib.Core.List.{List, [], ◌∷◌}
use Prim.Native.Nat.{ℕ, suc, ◌-◌, ◌<◌, ◌≤◌}
use native.Mathlib.Omega.{arith}
use lib.Dec.{eqb}
use lib.ListN.{length, get_or}
use lib.Seq.{get_or-set_same, get_or-set_other}
use borrow.Author.Tests.{eqb-true, eqb-false, eq-eqb, ne_eqb}
use Rattle.base.specs.Lists.{every, any}
use Rattle.base.specs.Sets.{member}
use Rattle.base.proofs.Tests.{and_left, and_right, within_low, within_high}
use Rattle.plan.specs.declared.Plan.{Plan}
use Rattle.plan.specs.declared.TaskId.{TaskId}
use Rattle.plan.specs.declared.ProcessorId.{ProcessorId}
use Rattle.rules.specs.declared.dispatch.Dispatched.{Dispatched}
use Rattle.rules.specs.declared.system.System.{System}
use Rattle.rules.specs.Numbers.{processor_id, same_processor, processor_ok}
use Rattle.rules.specs.Systems.{task_at, is_ready_at, ready_at, chosen_at}
use Rattle.rules.specs.Steps.{step, steps, run_step}
use Rattle.rules.specs.Dispatch.{choosing, delivery_turn, choice, run_turn, ruled_dispatch, dispatched, step_of}
use Rattle.rules_laws.proofs.Ready.{ready_member}
use Rattle.rules_laws.proofs.Shapes.{step_chosen, steps_chosen}
use Rattle.rules_laws.proofs.Sound.{system_passed}
use Rattle.rules_laws.proofs.Dispatch.{last_few, delivery_runs}
use Rattle.claim.specs.Events.{Event, ordinary, call, returned, mixed}
use Rattle.claim.specs.Turns.{choosing_rigs, place_after, ChosenInTurn, ChosenWithinT}
use Rattle.claim.proofs.Lists.{either}
use Rattle.claim.proofs.Events.{dispatched_cases, call_is_a_run}
use Rattle.claim.proofs.Live.{Live, live_step_lem, live_steps, live_call, ruled, last_bound, live_mixed}
use Rattle.claim.proofs.Searches.{place_some, place_few, Nearer, next_nearer}

or_second : (a b : Bool) → b ≡ true → a || b ≡ true
or_second true b h = refl
or_second false b h = h

module _ (n : ℕ) (p : Plan) (d : ProcessorId) (six : n ≤ 6) (at : processor_ok n d ≡ true) where
  low : 1 ≤ d.0
  low = within_low 1 n d.0 at

  high : d.0 ≤ n
  high = within_high 1 n d.0 at

  -- another desk's call leaves d's last choice
  elsewhere : (r : System) (e : ProcessorId) → same_processor e d ≡ false → chosen_at (dispatched r e).system d ≡ chosen_at r d
  elsewhere r e other =
      go (dispatched_cases (λ o. (o.system ≡ r) ⊎ (1 ≤ e.0)) r e (λ a. inl refl) (λ ok there. inr (within_low 1 r.processors e.0 there)))
    where
      go : ((dispatched r e).system ≡ r) ⊎ (1 ≤ e.0) → chosen_at (dispatched r e).system d ≡ chosen_at r d
      go (inl z) = ap (λ (q : System). chosen_at q d) z
      go (inr some) =
          let c = call_is_a_run r e in
          let ss = (returned (dispatched r e)).steps in
          let ne = eqb-false e.0 d.0 other in
          ap (λ (q : System). chosen_at q d) c.system
          ∙ get_or-set_other (steps r ss).system.chosen (e.0 - 1) (d.0 - 1) c.last 0 (λ z. ne (omega (arith, low)))
          ∙ ap (λ (x : List ℕ). get_or x (d.0 - 1) 0) (steps_chosen r ss)

  -- a call at d is ruled, and makes its choice the last
  module _ (r : System) (l : Live n p r) where
    abbrev q : System
    q = (delivery_turn r d).system

    live_choosing : Live n p q
    live_choosing = subst (Live n p) (sym (delivery_runs r d).system) (live_steps l (step_of (delivery_turn r d).turn))

    last_before : chosen_at q d ≡ chosen_at r d
    last_before =
        ap (λ (z : System). chosen_at z d) (delivery_runs r d).system
        ∙ ap (λ (x : List ℕ). get_or x (d.0 - 1) 0) (steps_chosen r (step_of (delivery_turn r d).turn))

    last_then : 1 ≤ choice q d → chosen_at (dispatched r d).system d ≡ choice q d
    unfolding ruled_dispatch run_turn
    last_then some =
        let t = choice q d in
        let is : eqb t 0 ≡ false = ne_eqb t 0 (λ e. omega arith) in
        let then : (run_turn q d).system ≡ (step (choosing q d t) (run_step t)).system = rw is refl in
        ap (λ (o : Dispatched). chosen_at o.system d) (ruled l d at)
        ∙ ap (λ (z : System). chosen_at z d) then
        ∙ ap (λ (x : List ℕ). get_or x (d.0 - 1) 0) (step_chosen (choosing q d t) (run_step t))
        ∙ get_or-set_same q.chosen (d.0 - 1) t 0 (omega (arith, live_choosing.shaped.chosen, high))

    -- t is chosen, or stands nearer then
    turn : (t : TaskId) → 1 ≤ t.0 → t.0 ≤ p.tasks → is_ready_at d (task_at q t) ≡ true
        → (choice q d ≡ t.0) ⊎ (place_after p.tasks (chosen_at (dispatched r d).system d) t.0 < place_after p.tasks (chosen_at r d) t.0)
    unfolding choice
    turn t some few ready =
        let v = live_choosing in
        let tasks : q.plan.tasks ≡ p.tasks = ap (λ (z : Plan). z.tasks) v.plan in
        let passed = system_passed q v.ok in
        let desk : processor_id (suc (d.0 - 1)) ≡ d = ap processor_id (omega (arith, low)) in
        let at_desk = ready_member q.plan.tasks q.tasks passed.ready (d.0 - 1) t.0 (omega (arith, low, high)) some (omega arith) in
        let here : member t.0 (ready_at q d) ≡ true = at_desk ∙ ap (λ (e : ProcessorId). is_ready_at e (task_at q t)) desk ∙ ready in
        go tasks (next_nearer q.plan.tasks (chosen_at q d) t.0 (last_few q d passed.chosen) some (omega arith) (ready_at q d) here)
      where
        go : q.plan.tasks ≡ p.tasks → (choice q d ≡ t.0) ⊎ Nearer q.plan.tasks (chosen_at q d) t.0 (choice q d)
            → (choice q d ≡ t.0) ⊎ (place_after p.tasks (chosen_at (dispatched r d).system d) t.0 < place_after p.tasks (chosen_at r d) t.0)
        go tasks (inl e) = inl e
        go tasks (inr f) = inr (rw (last_then f.low, ← last_before, ← tasks) f.near)

  module _ (t : TaskId) (some : 1 ≤ t.0) (few : t.0 ≤ p.tasks) where
    -- the statement of the rigs in which calls choose, from r on
    abbrev pub InTurn : System → List System → Type 0
    InTurn r qs =
        every (λ q. is_ready_at d (task_at q t)) qs ≡ true → place_after p.tasks (chosen_at r d) t.0 ≤ length qs
        → any (λ q. eqb (choice q d) t.0) qs ≡ true

    own_call : (r : System) → Live n p r → (qs : List System) → InTurn (dispatched r d).system qs → InTurn r ((delivery_turn r d).system ∷ qs)
    unfolding every any
    own_call r l qs later all enough =
        let q = (delivery_turn r d).system in
        let ready = and_left (is_ready_at d (task_at q t)) _ all in
        go (turn r l t some few ready)
      where
        go : (choice (delivery_turn r d).system d ≡ t.0)
            ⊎ (place_after p.tasks (chosen_at (dispatched r d).system d) t.0 < place_after p.tasks (chosen_at r d) t.0)
            → any (λ q. eqb (choice q d) t.0) ((delivery_turn r d).system ∷ qs) ≡ true
        go (inl e) = rw (eq-eqb (choice (delivery_turn r d).system d) t.0 e) refl
        go (inr near) =
            or_second (eqb (choice (delivery_turn r d).system d) t.0) _
            (later (and_right (is_ready_at d (task_at (delivery_turn r d).system t)) _ all) (omega (arith, near, enough)))

    pub in_turn : (us : List Event) (r : System) → Live n p r → InTurn r (choosing_rigs d r us)
    unfolding choosing_rigs
    in_turn [] r l = λ all enough.
        absurd (omega (arith, place_some p.tasks (chosen_at r d) t.0 (last_bound l d) some few, enough))
    in_turn (ordinary s ∷ us) r l = λ all enough. in_turn us (step r s).system (live_step_lem l s) all (rw (step_chosen r s) enough)
    in_turn (call e ∷ us) r l =
        either (same_processor e d)
        (λ same.
        let is : d ≡ e = ap processor_id (sym (eqb-true e.0 d.0 same)) in
        rw same
        (subst (λ (z : ProcessorId). InTurn r ((delivery_turn r z).system ∷ choosing_rigs d (dispatched r z).system us)) is
        (own_call r l (choosing_rigs d (dispatched r d).system us) (in_turn us (dispatched r d).system (live_call l d)))))
        (λ other. rw other (λ all enough. in_turn us (dispatched r e).system (live_call l e) all (rw (elsewhere r e other) enough)))

pub chosen_in_turn : ChosenInTurn
chosen_in_turn n p es us some few a d at t task all enough =
    in_turn n p d few at t (within_low 1 p.tasks t.0 task) (within_high 1 p.tasks t.0 task) us (mixed n p es).system (live_mixed n p es some few a)
    all enough

pub chosen_within_T : ChosenWithinT
chosen_within_T n p es us some few a d at t task all enough =
    let r = (mixed n p es).system in
    let bound = last_bound (live_mixed n p es some few a) d in
    let place = place_few p.tasks (chosen_at r d) t.0 bound (within_low 1 p.tasks t.0 task) (within_high 1 p.tasks t.0 task) in
    chosen_in_turn n p es us some few a d at t task all (omega (arith, place, enough))
