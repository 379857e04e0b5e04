-- On one desk no move is accepted; no step is answered 17; and a count is at most one more than the accepted moves.
use mathlib.Core.Path.{◌≡◌, refl, sym, ap, ◌∙◌}
use mathlib.Core.Bool.{Bool, true, false, not, ◌&&◌}
use mathlib.Core.Logic.{by_cases}
use mathlib.Core.List.{List, [], ◌∷◌}
use Prim.Native.Nat.{ℕ, ◌+◌, ◌≤◌}
use native.Mathlib.Decide.{ℕ_discrete}
use native.Mathlib.Omega.{arith}
use lib.Dec.{eqb}
use lib.ListN.{length}
use borrow.Author.Tests.{eqb-false}
use Rattle.std.specs.Prelude.{Ok}
use Rattle.base.specs.Lists.{every}
use Rattle.base.proofs.Choices.{pick_either}
use Rattle.base.proofs.Tests.{within_low, within_high, up_to_at, is_false, and_true}
use Rattle.plan.specs.declared.Plan.{Plan}
use Rattle.plan.specs.declared.TaskId.{TaskId}
use Rattle.plan.specs.declared.ChannelId.{ChannelId}
use Rattle.plan.specs.declared.Word.{Word}
use Rattle.plan.specs.Numbers.{task_id, processor_id}
use Rattle.plan.specs.Programs.{programs}
use Rattle.plan.specs.Refusals.{plan_answer}
use Rattle.rules.specs.declared.task.Task.{Task}
use Rattle.rules.specs.declared.task.TaskState.TheVariants.{Ready}
use Rattle.rules.specs.declared.step.Step.{Step}
use Rattle.rules.specs.declared.system.System.{System}
use Rattle.rules.specs.Answers.{is_accepted, step_number}
use Rattle.rules.specs.Systems.{task_at, task_program}
use Rattle.rules.specs.Starts.{started}
use Rattle.rules.specs.Steps.{is_move, step_answer, step, steps_by, steps}
use Rattle.rules_laws.proofs.Shapes.{started_processors, step_processors}
use Rattle.rules_laws.proofs.Sound.{task_ok_in, system_passed}
use Rattle.rules_laws.proofs.Steps.{accepted_is, step_answer_lem, step_passed}
use Rattle.rules_laws.proofs.StepKinds.{answer_move}
use Rattle.rules_sound.proofs.Answers.{move_passed, number_not_18, number_not_17}
use Rattle.rules_sound.proofs.Settled.{settled}
use Rattle.transitions.specs.Readings.{reading}
use Rattle.transitions.specs.Progress.{flag}
use Rattle.invariant.proofs.StartViews.{read_started, start_cases}
use Rattle.invariant.proofs.Next.{Kept, next}
use Rattle.claim.specs.Statement.{accepted_of, from}
use Rattle.claim.specs.Moves.{NoMoveOnOneProcessor, NothingMoves, FewMoves, NeverSeventeen}
use Rattle.claim.proofs.Lists.{step_either, left, kept_step}
use Rattle.claim.proofs.Whole.{start_kept, list_kept}
use Rattle.rules.specs.Sound.{system_ok}

-- an accepted move goes to a desk of the rig where its task is not, and the task is at one
pub no_move_on_one_processor : NoMoveOnOneProcessor
no_move_on_one_processor r s one kind =
    is_false (is_accepted (step_answer r s)) (λ e.
    let t = task_id s.task in
    let d = processor_id s.number in
    let passed = step_passed r s (accepted_is (step_answer r s) e) in
    let m = move_passed r t d (sym (answer_move r s kind) ∙ passed.rule) in
    let ok =
    up_to_at (task_ok_in r) r.plan.tasks t.0 (within_low 1 r.plan.tasks t.0 m.task) (within_high 1 r.plan.tasks t.0 m.task)
    (system_passed r passed.system).tasks in
    let at = settled r.processors r.plan.tasks (task_program r t) (task_at r t) Ready refl m.ready ok in
    let to_low = within_low 1 r.processors d.0 m.processor in
    let to_high = within_high 1 r.processors d.0 m.processor in
    eqb-false (task_at r t).processor.0 d.0 m.elsewhere (omega (arith, one, at.processor, at.processor_few, to_low, to_high)))

nothing_moves_from : (r : System) (ss : List Step) → r.processors ≡ 1 → accepted_of is_move r ss ≡ 0
unfolding accepted_of
nothing_moves_from r [] one = refl
nothing_moves_from r (s ∷ ss) one =
    let rest = nothing_moves_from (step r s).system ss (step_processors r s ∙ one) in
    rw (no_move (is_move s) refl) (omega (arith, rest))
  where
    no_move : (b : Bool) → is_move s ≡ b → is_move s && is_accepted (step_answer r s) ≡ false
    no_move true e = rw (e, no_move_on_one_processor r s one e) refl
    no_move false e = rw e refl

pub nothing_moves : NothingMoves
nothing_moves p ss = nothing_moves_from (started 1 p) ss (started_processors 1 p)

-- a rig that 9 refuses answers every step by it, and another rig by anything but 17
pub never_seventeen : NeverSeventeen
unfolding step_answer
never_seventeen r s e = go (system_ok r) refl
  where
    go : (b : Bool) → system_ok r ≡ b → ⊥
    go true ok = eqb-false (step_number (step_answer r s)) 17 (number_not_17 r s ok) (ap step_number e)
    go false bad = let nine : step_number (step_answer r s) ≡ 9 = rw bad refl in omega (arith, nine, ap step_number e)

-- no count is above k
abbrev CountsTo : ℕ → System → Type 0
CountsTo k r = (t : TaskId) → (task_at r t).moves ≤ k

module _ (p : Plan) (a : plan_answer (programs p) ≡ Ok tt) where
  -- after a step of a rig that a run reaches, accepted or not
  step_counts : {r : System} {w : ChannelId → List Word} → Kept p r w → (s : Step) (k : ℕ) → 1 ≤ k → CountsTo k r
      → CountsTo (flag (is_move s && is_accepted (step_answer r s)) + k) (step r s).system
  unfolding reading
  step_counts {r} h s k low all t =
      step_either r s
      (λ e. rw (left r s e) (omega (arith, all t)))
      (λ e. rw (ap is_accepted e, and_true (is_move s)) ((next p a h s e).counts.rise k low all t))

  -- after a list of them
  steps_counts : {r : System} {w : ChannelId → List Word} → Kept p r w → (ss : List Step) (k : ℕ) → 1 ≤ k → CountsTo k r
      → CountsTo (accepted_of is_move r ss + k) (steps r ss).system
  unfolding accepted_of steps_by
  steps_counts {r} h [] k low all t = omega (arith, all t)
  steps_counts {r} h (s ∷ ss) k low all t =
      let one = flag (is_move s && is_accepted (step_answer r s)) in
      let later = steps_counts {r = (step r s).system} (kept_step p a h s) ss (one + k) (omega arith) (step_counts h s k low all) t in
      omega (arith, later)

  -- no step is answered 18 while the counts cannot be 9,999
  none_spent : {r : System} {w : ChannelId → List Word} → Kept p r w → (ss : List Step) (k : ℕ) → 1 ≤ k → CountsTo k r → k + length ss ≤ 9999
      → every (λ q. not (eqb (step_number q.answer) 18)) (steps r ss).reports ≡ true
  unfolding steps_by every
  none_spent {r} h [] k low all few = refl
  none_spent {r} h (s ∷ ss) k low all few =
      let other = number_not_18 r s h.ok (λ e. omega (arith, all (task_id s.task), e)) in
      let at_most : flag (is_move s && is_accepted (step_answer r s)) ≤ 1 =
      pick_either (λ (n : ℕ). n ≤ 1) (is_move s && is_accepted (step_answer r s)) 1 0 (omega arith) (omega arith) in
      let later = none_spent {r = (step r s).system} (kept_step p a h s) ss (k + 1) (omega arith) (λ t. omega (arith, step_counts h s k low all t, at_most)) (omega arith) in
      rw (step_answer_lem r s, other) later

-- at the start no count is above one
start_read : (n : ℕ) (p : Plan) (t : TaskId) → ((reading (started n p)).tasks t).moves ≤ 1
start_read n p t =
    rw (read_started n p) (start_cases n p (λ (x : Task). x.moves ≤ 1) t (λ e. omega arith) (λ e. omega arith) (λ e. omega arith))

start_counts : (n : ℕ) (p : Plan) → CountsTo 1 (started n p)
unfolding reading
start_counts n p t = start_read n p t

pub moves_few : FewMoves
moves_few n p ss some few a =
    let start = start_kept n p some few a in
    let counts = steps_counts p a start ss 1 (omega arith) (start_counts n p) in
    record {
      count = counts;
      spent =
          λ s e.
          by_cases (ℕ_discrete (task_at (from n p ss).system (task_id s.task)).moves 9999)
          (λ (m : (task_at (from n p ss).system (task_id s.task)).moves ≡ 9999). omega (arith, counts (task_id s.task), m))
          (λ ne.
          absurd
          (eqb-false (step_number (step_answer (from n p ss).system s)) 18
          (number_not_18 (from n p ss).system s (list_kept n p some few a ss).ok ne)
          (ap step_number e)));
      none = λ short. none_spent p a start ss 1 (omega arith) (start_counts n p) (omega arith);
    }
