-- A step by its kind: whose answer it gets, and what it does. An accepted delivery finds its letter.
use mathlib.Core.Path.{◌≡◌, refl}
use mathlib.Core.Bool.{true, false}
use Prim.Native.Nat.{ℕ, ◌≤◌}
use native.Mathlib.Omega.{arith}
use borrow.Author.Tests.{eqb-true, ne_eqb}
use Rattle.std.specs.Prelude.{Ok, Err}
use Rattle.base.specs.Choice.{within}
use Rattle.base.proofs.Tests.{within_low, within_high}
use Rattle.base.proofs.Answers.{err_not_ok}
use Rattle.base.proofs.Choices.{unless_not_refused}
use Rattle.rules.specs.declared.step.Step.{Step}
use Rattle.rules.specs.declared.step.StepRefusal.TheVariants.{NoMessage}
use Rattle.rules.specs.declared.system.System.{System}
use Rattle.rules.specs.Numbers.{task_id, processor_id}
use Rattle.rules.specs.Runs.{ran, run_answer}
use Rattle.rules.specs.Deliver.{delivered, deliver_answer}
use Rattle.rules.specs.Moves.{moved, move_answer}
use Rattle.rules.specs.Steps.{is_run, is_deliver, is_move, kind_answer, performed}

module _ (r : System) (s : Step) where
  -- a run
  module _ (kind : is_run s ≡ true) where
    pub answer_run : kind_answer r s ≡ run_answer r (task_id s.task)
    unfolding kind_answer
    answer_run = rw kind refl

    pub performed_run : performed r s ≡ ran r (task_id s.task)
    unfolding performed
    performed_run = rw kind refl

  -- a delivery
  module _ (kind : is_deliver s ≡ true) where
    no_run : is_run s ≡ false
    no_run = ne_eqb s.kind 1 (λ e. omega (arith, eqb-true s.kind 2 kind))

    pub answer_deliver : kind_answer r s ≡ deliver_answer r s.number
    unfolding kind_answer
    answer_deliver = rw (no_run, kind) refl

    pub performed_deliver : performed r s ≡ delivered r s.number
    unfolding performed
    performed_deliver = rw (no_run, kind) refl

  -- a move
  module _ (kind : is_move s ≡ true) where
    neither_run : is_run s ≡ false
    neither_run = ne_eqb s.kind 1 (λ e. omega (arith, eqb-true s.kind 3 kind))

    nor_deliver : is_deliver s ≡ false
    nor_deliver = ne_eqb s.kind 2 (λ e. omega (arith, eqb-true s.kind 3 kind))

    pub answer_move : kind_answer r s ≡ move_answer r (task_id s.task) (processor_id s.number)
    unfolding kind_answer
    answer_move = rw (neither_run, nor_deliver) refl

    pub performed_move : performed r s ≡ moved r (task_id s.task) (processor_id s.number)
    unfolding performed
    performed_move = rw (neither_run, nor_deliver) refl

-- a letter is there
pub deliver_passed : (r : System) (p : ℕ) → deliver_answer r p ≡ Ok tt → (1 ≤ p) × (p ≤ r.network.used)
unfolding deliver_answer
deliver_passed r p h =
    let (w, _) = unless_not_refused (within 1 r.network.used p) (Err NoMessage) (Ok tt) (Ok tt) (err_not_ok _ _) h in
    (within_low 1 r.network.used p w, within_high 1 r.network.used p w)
