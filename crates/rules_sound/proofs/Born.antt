-- What it says of a task that 9 does not refuse it: part by part where it is born, and what holds in any state.
use mathlib.Core.Path.{◌≡◌, refl}
use mathlib.Core.Bool.{Bool, true, false}
use Prim.Native.Nat.{ℕ, ◌+◌, ◌≤◌, ◌<◌, ◌^◌}
use native.Mathlib.Omega.{arith}
use lib.Dec.{eqb, ltb}
use lib.ListN.{length}
use borrow.Author.Tests.{eqb-true, ltb-true}
use Rattle.base.specs.Choice.{pick}
use Rattle.base.proofs.Choices.{pick_either}
use Rattle.base.proofs.Tests.{and_left, and_right, and_both, within_high}
use Rattle.plan.specs.Programs.{Program}
use Rattle.plan_laws.proofs.Answers.{and_parts}
use Rattle.rules.specs.declared.task.Task.{Task}
use Rattle.rules.specs.declared.task.TaskState.TheVariants.{Unborn, Moving, Done}
use Rattle.rules.specs.Numbers.{is_none, processor_ok}
use Rattle.rules.specs.Tasks.{is_in}
use Rattle.rules.specs.Cells.{hint}
use Rattle.rules.specs.Sound.{moves_ok, known_ok, unborn_ok, where_ok, place_ok, last_ok, born_ok, task_ok}

module _ (n m : ℕ) (g : Program) (x : Task) where
  pub record BornPassed : Type 0 where
    pub children : ltb x.children (2 ^ m) ≡ true
    pub moves : moves_ok x.moves ≡ true
    pub processor : where_ok n x ≡ true
    pub place : place_ok (length g) x ≡ true
    pub last : last_ok g x ≡ true

  pub born_passed : task_ok n m g x ≡ true → is_in Unborn x ≡ false → BornPassed
  unfolding task_ok born_ok
  born_passed h u =
      let (c, b) = and_parts (ltb x.children (2 ^ m)) (pick (is_in Unborn x) (unborn_ok x) (born_ok n g x)) h in
      let (k, b₂) = and_parts (moves_ok x.moves) _ (rw u at b) in
      let (d, b₃) = and_parts (where_ok n x) _ b₂ in
      let (p, l) = and_parts (place_ok (length g) x) (last_ok g x) b₃ in
      record { children = c; moves = k; processor = d; place = p; last = l }

  pub born_ok_lem : BornPassed → is_in Unborn x ≡ false → task_ok n m g x ≡ true
  unfolding task_ok born_ok
  born_ok_lem b u = simp (u, b.children, b.moves, b.processor, b.place, b.last)

  module _ (h : task_ok n m g x ≡ true) where
    unborn_passed : is_in Unborn x ≡ true → unborn_ok x ≡ true
    unfolding task_ok
    unborn_passed e = rw e at (and_right (ltb x.children (2 ^ m)) (pick (is_in Unborn x) (unborn_ok x) (born_ok n g x)) h)

    pub children_few : x.children < 2 ^ m
    unfolding task_ok
    children_few = ltb-true x.children (2 ^ m) (and_left (ltb x.children (2 ^ m)) _ h)

    -- its place is at most one behind its last instruction
    pub place_few : x.pc ≤ length g + 1
    unfolding unborn_ok
    place_few = go (is_in Unborn x) refl
      where
        go : (b : Bool) → is_in Unborn x ≡ b → x.pc ≤ length g + 1
        go true e = omega (arith, eqb-true x.pc 1 (and_left (eqb x.pc 1) _ (and_right (is_none x.processor) _ (unborn_passed e))))
        go false e =
            let high = within_high 1 (pick (is_in Done x) (length g + 1) (length g)) x.pc (born_passed h e).place in
            let most = pick_either (λ k. k ≤ length g + 1) (is_in Done x) (length g + 1) (length g) (omega arith) (omega arith) in
            omega arith

    -- one that stands at a desk is born and not moving: it stands at a desk of the rig, and its count is a count
    module _ (p : 1 ≤ x.processor.0) where
      here_born : is_in Unborn x ≡ false
      unfolding unborn_ok
      here_born = go (is_in Unborn x) refl
        where
          go : (b : Bool) → is_in Unborn x ≡ b → is_in Unborn x ≡ false
          go false e = e
          go true e = absurd (omega (arith, eqb-true x.processor.0 0 (and_left (is_none x.processor) _ (unborn_passed e))))

      here_processor : processor_ok n x.processor ≡ true
      here_processor = go (is_in Moving x) (born_passed h here_born).processor
        where
          go : (b : Bool) → pick b (is_none x.processor) (processor_ok n x.processor) ≡ true → processor_ok n x.processor ≡ true
          go true e = absurd (omega (arith, eqb-true x.processor.0 0 e))
          go false e = e

      pub here_known : known_ok n (hint x.processor x.moves) ≡ true
      here_known = and_both (processor_ok n x.processor) (moves_ok x.moves) here_processor (born_passed h here_born).moves
