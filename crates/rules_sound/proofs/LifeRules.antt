-- Birth, move, arrival and end: what they make of a task's record, and of its parent's, is not refused by 9.
use mathlib.Core.Path.{◌≡◌, refl}
use mathlib.Core.Bool.{true, ◌&&◌}
use Prim.Native.Nat.{ℕ, ◌+◌, ◌≤◌, ◌<◌, ◌^◌}
use native.Mathlib.Omega.{arith}
use lib.Dec.{ltb}
use lib.ListN.{length}
use borrow.Author.Tests.{eqb-true, lt-ltb}
use Rattle.base.specs.Choice.{pick}
use Rattle.base.specs.Lists.{every}
use Rattle.base.specs.Sets.{removed, removed_all}
use Rattle.base.proofs.Choices.{pick_cases}
use Rattle.base.proofs.Sets.{removed_at_most, removed_all_at_most}
use Rattle.base.proofs.Tests.{and_left, and_right, and_both, within_low, within_high, within_both}
use Rattle.plan.specs.declared.TaskId.{TaskId}
use Rattle.plan.specs.declared.ProcessorId.{ProcessorId}
use Rattle.plan.specs.Programs.{Program}
use Rattle.rules.specs.Numbers.{processor_ok}
use Rattle.rules.specs.declared.task.Task.{Task}
use Rattle.rules.specs.declared.task.TaskState.TheVariants.{Unborn, Waiting, Moving, Done}
use Rattle.rules.specs.Tasks.{state_number, is_in, with_state, with_children, unborn, born, departed, arrived, advanced, readied, is_childless, woken, without_child, without_children}
use Rattle.rules.specs.Places.{last_in}
use Rattle.rules.specs.Sound.{moves_ok, unborn_ok, born_ok, task_ok}
use Rattle.rules_sound.specs.Settled.{Settled}
use Rattle.rules_sound.proofs.Born.{born_passed, born_ok_lem, children_few}
use Rattle.rules_sound.proofs.Settled.{settled, settled_ok}
use Rattle.rules_sound.proofs.TaskRules.{readied_ok}
use Rattle.rules.specs.declared.channel.Hint.{Hint}

module _ (n m : ℕ) (g : Program) where
  pub unborn_ok_lem : 0 < 2 ^ m → task_ok n m g unborn ≡ true
  unfolding task_ok unborn_ok every
  unborn_ok_lem p = rw (lt-ltb 0 (2 ^ m) p) refl

  pub birth_ok : (d : ProcessorId) (own : Hint) → processor_ok n d ≡ true → 0 < 2 ^ m → 1 ≤ length g → task_ok n m g (born d own) ≡ true
  birth_ok d own k p q = settled_ok n m g (born d own) (omega (arith, within_low 1 n d.0 k, within_high 1 n d.0 k)) refl

  module _ (x : Task) where
    -- the end of a ready task
    pub done_ok : Settled n m (length g) x → task_ok n m g (advanced (with_state x Done)) ≡ true
    done_ok s =
        born_ok_lem n m g (advanced (with_state x Done))
        (record {
          children = lt-ltb _ _ s.children;
          moves = within_both 1 9999 x.moves s.moves s.moves_few;
          processor = within_both 1 n x.processor.0 s.processor s.processor_few;
          place = within_both 1 (length g + 1) (x.pc + 1) (omega arith) (omega arith);
          last = refl;
        })
        refl

    pub departed_ok : Settled n m (length g) x → x.moves < 9999 → task_ok n m g (departed x) ≡ true
    departed_ok s k =
        born_ok_lem n m g (departed x)
        (record {
          children = lt-ltb _ _ s.children;
          moves = within_both 1 9999 (x.moves + 1) (omega arith) (omega arith);
          processor = refl;
          place = within_both 1 (length g) x.pc s.place s.place_few;
          last = refl;
        })
        refl

    pub arrived_ok : task_ok n m g x ≡ true → is_in Moving x ≡ true → (d : ProcessorId) → processor_ok n d ≡ true → task_ok n m g (arrived x d) ≡ true
    arrived_ok h e d k =
        let b = born_passed n m g x h (rw (eqb-true (state_number x.state) 5 e) refl) in
        born_ok_lem n m g (arrived x d)
        (record {
          children = b.children;
          moves = b.moves;
          processor = k;
          place = rw (eqb-true (state_number x.state) 5 e) at b.place;
          last = refl;
        })
        refl

    -- a moving task has a count
    pub moving_count : task_ok n m g x ≡ true → is_in Moving x ≡ true → moves_ok x.moves ≡ true
    moving_count h e = (born_passed n m g x h (rw (eqb-true (state_number x.state) 5 e) refl)).moves

    -- another set of living children
    with_children_ok : (c : ℕ) → c < 2 ^ m → task_ok n m g x ≡ true → task_ok n m g (with_children x c) ≡ true
    unfolding task_ok unborn_ok born_ok last_in
    with_children_ok c l h =
        and_both (ltb c (2 ^ m)) (pick (is_in Unborn x) (unborn_ok x) (born_ok n g x)) (lt-ltb c (2 ^ m) l)
        (and_right (ltb x.children (2 ^ m)) (pick (is_in Unborn x) (unborn_ok x) (born_ok n g x)) h)

  woken_ok : (x : Task) → task_ok n m g x ≡ true → task_ok n m g (woken x) ≡ true
  unfolding woken
  woken_ok x h =
      pick_cases (λ y. task_ok n m g y ≡ true) (is_in Waiting x && is_childless x) (readied x) x
      (λ e. readied_ok n m g x (settled n m g x Waiting refl (and_left (is_in Waiting x) (is_childless x) e) h))
      (λ e. h)

  module _ (x : Task) (h : task_ok n m g x ≡ true) where
    pub without_child_ok : (t : TaskId) → task_ok n m g (without_child x t) ≡ true
    without_child_ok t =
        let y = with_children x (removed t.0 x.children) in
        woken_ok y (with_children_ok x (removed t.0 x.children) (omega (arith, removed_at_most t.0 x.children, children_few n m g x h)) h)

    pub without_children_ok : (held : ℕ) → task_ok n m g (without_children x held) ≡ true
    without_children_ok held =
        let s : ℕ = removed_all 64 held x.children in
        with_children_ok x s (omega (arith, removed_all_at_most 64 held x.children, children_few n m g x h)) h
