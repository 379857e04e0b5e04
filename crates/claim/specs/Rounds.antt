-- Calls at the desks in turn bring the rig to rest. Said of the definitions of `rules`, of the statement and of lists of events alone.
use Rattle.std.specs.Prelude.{◌≡◌, true, List, [], ◌∷◌, ◌++◌, ℕ, zero, suc, ◌+◌, ◌*◌, ◌≤◌, Ok}
use Rattle.plan.specs.declared.Plan.{Plan}
use Rattle.plan.specs.Programs.{programs}
use Rattle.plan.specs.Refusals.{plan_answer}
use Rattle.rules.specs.Numbers.{processor_id}
use Rattle.rules.specs.Steps.{quiescent}
use Rattle.claim.specs.Statement.{not_executed}
use Rattle.claim.specs.Events.{Event, call, happened, mixed}

-- a call at each of the desks 1 .. n, and k rounds of them
unfoldable pub round : ℕ → List Event
round zero = []
round (suc n) = round n ++ (call (processor_id (suc n)) ∷ [])

unfoldable pub rounds : ℕ → ℕ → List Event
rounds n zero = []
rounds n (suc k) = round n ++ rounds n k

-- `rounds_rest`: for every accepted plan, 1 to 6 desks and all events before. T rounds in which no step is accepted have run every ready task, so
-- that the rig is at rest; and of accepted steps, none of them a move, there are at most 10 × (instructions not yet executed + letters under way)
abbrev pub RoundsRest : Type 0
RoundsRest =
    (n : ℕ) (p : Plan) (es : List Event) → 1 ≤ n → n ≤ 6 → plan_answer (programs p) ≡ Ok tt
    → (k : ℕ)
    → let r = (mixed n p es).system in
    p.tasks * (10 * (not_executed n p (mixed n p es).steps + r.network.used)) ≤ k
    → quiescent (happened r (rounds n k)).system ≡ true
