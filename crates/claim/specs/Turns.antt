-- "A task that stays ready at the desk is chosen within T calls there.". Said of the definitions of `rules` and of lists of events alone.
use Rattle.std.specs.Prelude.{◌≡◌, true, List, [], ◌∷◌, ◌++◌, ℕ, ◌+◌, ◌-◌, ◌≤◌, eqb, ltb, length, Ok}
use Rattle.base.specs.Choice.{pick, within}
use Rattle.base.specs.Lists.{every, any}
use Rattle.plan.specs.declared.Plan.{Plan}
use Rattle.plan.specs.declared.TaskId.{TaskId}
use Rattle.plan.specs.declared.ProcessorId.{ProcessorId}
use Rattle.plan.specs.Programs.{programs}
use Rattle.plan.specs.Refusals.{plan_answer}
use Rattle.rules.specs.declared.system.System.{System}
use Rattle.rules.specs.Numbers.{same_processor}
use Rattle.rules.specs.Systems.{task_at, is_ready_at, chosen_at}
use Rattle.rules.specs.Steps.{step}
use Rattle.rules.specs.Dispatch.{delivery_turn, choice, dispatched}
use Rattle.claim.specs.Events.{Event, ordinary, call, mixed}

-- the rigs in which the calls at desk d choose, in their order: each after its delivery, and whatever happens between
unfoldable pub choosing_rigs : ProcessorId → System → List Event → List System
choosing_rigs d r [] = []
choosing_rigs d r (ordinary s ∷ es) = choosing_rigs d (step r s).system es
choosing_rigs d r (call e ∷ es) = pick (same_processor e d) ((delivery_turn r e).system ∷ []) [] ++ choosing_rigs d (dispatched r e).system es

-- the place of task t "after the last one chosen, by number and round again": in the order last + 1 .. m, 1 .. last
abbrev pub place_after : ℕ → ℕ → ℕ → ℕ
place_after m last t = pick (ltb last t) (t - last) (m + t - last)

-- `chosen_in_turn`: after any events, in a further list with that many calls at d, each of which finds t ready there when it chooses, one of them
-- chooses t
abbrev pub ChosenInTurn : Type 0
ChosenInTurn =
    (n : ℕ) (p : Plan) (es us : List Event) → 1 ≤ n → n ≤ 6 → plan_answer (programs p) ≡ Ok tt
    → (d : ProcessorId) → within 1 n d.0 ≡ true → (t : TaskId) → within 1 p.tasks t.0 ≡ true
    → let r = (mixed n p es).system in
    every (λ q. is_ready_at d (task_at q t)) (choosing_rigs d r us) ≡ true
    → place_after p.tasks (chosen_at r d) t.0 ≤ length (choosing_rigs d r us)
    → any (λ q. eqb (choice q d) t.0) (choosing_rigs d r us) ≡ true

-- `chosen_within_T`: so within T calls
abbrev pub ChosenWithinT : Type 0
ChosenWithinT =
    (n : ℕ) (p : Plan) (es us : List Event) → 1 ≤ n → n ≤ 6 → plan_answer (programs p) ≡ Ok tt
    → (d : ProcessorId) → within 1 n d.0 ≡ true → (t : TaskId) → within 1 p.tasks t.0 ≡ true
    → let r = (mixed n p es).system in
    every (λ q. is_ready_at d (task_at q t)) (choosing_rigs d r us) ≡ true
    → p.tasks ≤ length (choosing_rigs d r us)
    → any (λ q. eqb (choice q d) t.0) (choosing_rigs d r us) ≡ true
