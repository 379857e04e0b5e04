-- Rounds of calls: the desks that are called, and what steps calls make.
use mathlib.Core.Path.{◌≡◌, refl, sym, ◌∙◌, ap}
use mathlib.Core.Bool.{Bool, true, false, ◌||◌}
use mathlib.Core.Logic.{by_cases}
use mathlib.Core.List.{List, [], ◌∷◌, ◌++◌, append_assoc}
use Prim.Native.Nat.{ℕ, zero, suc, ◌+◌, ◌≤◌}
use native.Mathlib.Omega.{arith}
use native.Mathlib.Decide.{ℕ_discrete}
use lib.Dec.{eqb}
use borrow.Author.Tests.{eqb-true, eq-eqb, ne_eqb}
use Rattle.base.specs.Lists.{every, count}
use Rattle.base.proofs.Choices.{pick_either}
use Rattle.base.proofs.Counts.{count_append}
use Rattle.base.proofs.Tests.{and_both, and_left, and_right, or_cases, every_append, tests_differ}
use Rattle.plan.specs.declared.ProcessorId.{ProcessorId}
use Rattle.rules.specs.declared.step.Step.{Step}
use Rattle.rules.specs.declared.system.System.{System}
use Rattle.rules.specs.Numbers.{processor_id}
use Rattle.rules.specs.Networks.{messages}
use Rattle.rules.specs.Sound.{system_ok}
use Rattle.rules.specs.Steps.{is_run, is_deliver, is_move, step, run_step, quiescent}
use Rattle.rules.specs.Dispatch.{Turned, skipped, made, choosing, deliver_step, earliest, delivery_turn, choice, run_turn, ruled_dispatch, dispatched, step_of}
use Rattle.claim.specs.Statement.{accepted_of, any_step}
use Rattle.claim.specs.Events.{Event, ordinary, call, is_call_at, returned, happens, happened}
use Rattle.claim.specs.Rounds.{round, rounds}
use Rattle.claim.proofs.Lists.{left}
use Rattle.claim.proofs.Quiet.{rest_refuses}
use Rattle.claim.proofs.Events.{dispatched_cases}

-- an event that is a call
unfoldable pub is_call : Event → Bool
is_call (ordinary s) = false
is_call (call d) = true

round_calls : (n : ℕ) → every is_call (round n) ≡ true
unfolding round every is_call
round_calls zero = refl
round_calls (suc n) = every_append is_call (round n) _ ∙ and_both (every is_call (round n)) _ (round_calls n) refl

pub rounds_calls : (n k : ℕ) → every is_call (rounds n k) ≡ true
unfolding rounds every
rounds_calls n zero = refl
rounds_calls n (suc k) = every_append is_call (round n) (rounds n k) ∙ and_both (every is_call (round n)) _ (round_calls n) (rounds_calls n k)

-- calls at desk d
round_call : (n : ℕ) (d : ProcessorId) → 1 ≤ d.0 → d.0 ≤ n → 1 ≤ count (is_call_at d) (round n)
unfolding round count is_call_at
round_call zero d low high = absurd (omega arith)
round_call (suc n) d low high =
    let e = count_append (is_call_at d) (round n) (call (processor_id (suc n)) ∷ []) in
    by_cases
    (ℕ_discrete (suc n) d.0)
    (λ (z : suc n ≡ d.0).
    let last : count (is_call_at d) (call (processor_id (suc n)) ∷ []) ≡ 1 = rw (eq-eqb (suc n) d.0 z) refl in
    omega (arith, e, last))
    (λ ne. omega (arith, e, round_call n d low (omega arith)))

pub rounds_call : (n k : ℕ) (d : ProcessorId) → 1 ≤ d.0 → d.0 ≤ n → k ≤ count (is_call_at d) (rounds n k)
unfolding rounds
rounds_call n zero d low high = omega arith
rounds_call n (suc k) d low high =
    omega (arith, count_append (is_call_at d) (round n) (rounds n k), round_call n d low high, rounds_call n k d low high)

pub rounds_add : (n a b : ℕ) → rounds n (a + b) ≡ rounds n a ++ rounds n b
unfolding rounds
rounds_add n zero b = let e : 0 + b ≡ b = omega arith in ap (rounds n) e
rounds_add n (suc a) b =
    let e : suc a + b ≡ suc (a + b) = omega arith in
    ap (rounds n) e ∙ ap (◌++◌ (round n)) (rounds_add n a b) ∙ sym (append_assoc (round n) (rounds n a) (rounds n b))

-- a step that a call may make
abbrev pub by_call : Step → Bool
by_call s = is_run s || is_deliver s

module _ (r : System) (d : ProcessorId) where
  delivery_made : every by_call (step_of (delivery_turn r d).turn) ≡ true
  unfolding delivery_turn step_of every
  delivery_made =
      let p = earliest d (messages r.network) in
      pick_either (λ (o : Turned). every by_call (step_of o.turn) ≡ true) (eqb p 0) (skipped r) (made r (deliver_step p)) refl refl

  run_made : every by_call (step_of (run_turn r d).turn) ≡ true
  unfolding run_turn step_of every
  run_made =
      let t = choice r d in
      pick_either (λ (o : Turned). every by_call (step_of o.turn) ≡ true) (eqb t 0) (skipped r) (made (choosing r d t) (run_step t)) refl refl

call_makes : (r : System) (d : ProcessorId) → every by_call (returned (dispatched r d)).steps ≡ true
unfolding ruled_dispatch step_of every
call_makes r d =
    dispatched_cases (λ o. every by_call (returned o).steps ≡ true) r d (λ a. refl)
    (λ ok at.
    every_append by_call (step_of (delivery_turn r d).turn) _
    ∙ and_both (every by_call (step_of (delivery_turn r d).turn)) _ (delivery_made r d) (run_made (delivery_turn r d).system d))

pub calls_make : (us : List Event) (r : System) → every is_call us ≡ true → every by_call (happened r us).steps ≡ true
unfolding happened happens every is_call
calls_make [] r all = refl
calls_make (ordinary s ∷ us) r all = absurd (tests_differ all refl)
calls_make (call d ∷ us) r all =
    let o = dispatched r d in
    every_append by_call (returned o).steps _
    ∙ and_both (every by_call (returned o).steps) _ (call_makes r d) (calls_make us o.system all)

-- none of them is a move, and at rest none is accepted
no_move : (s : Step) → by_call s ≡ true → is_move s ≡ false
no_move s e =
    or_cases (is_run s) (is_deliver s) e
    (λ run. ne_eqb s.kind 3 (λ z. omega (arith, eqb-true s.kind 1 run)))
    (λ deliver. ne_eqb s.kind 3 (λ z. omega (arith, eqb-true s.kind 2 deliver)))

pub no_moves : (r : System) (ss : List Step) → every by_call ss ≡ true → accepted_of is_move r ss ≡ 0
unfolding accepted_of every
no_moves r [] all = refl
no_moves r (s ∷ ss) all =
    rw (no_move s (and_left (by_call s) _ all)) (omega (arith, no_moves (step r s).system ss (and_right (by_call s) _ all)))

pub rest_idle : (r : System) → system_ok r ≡ true → quiescent r ≡ true → (ss : List Step) → every by_call ss ≡ true → accepted_of any_step r ss ≡ 0
unfolding accepted_of every
rest_idle r ok quiet [] all = refl
rest_idle r ok quiet (s ∷ ss) all =
    let refusal = rest_refuses r ok quiet s (and_left (by_call s) _ all) in
    rw (refusal, left r s refusal) (omega (arith, rest_idle r ok quiet ss (and_right (by_call s) _ all)))
