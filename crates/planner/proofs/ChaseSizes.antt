-- The steps of a chase are no longer than the longest.
use mathlib.Core.Path.{◌≡◌, refl}
use mathlib.Core.Bool.{Bool, true, false, ◌&&◌}
use Prim.Native.Nat.{ℕ, ◌≤◌}
use native.Mathlib.Omega.{arith}
use lib.Dec.{leb}
use lib.ListN.{length}
use borrow.Author.Tests.{leb-true}
use Rattle.std.specs.Prelude.{Ok, Err}
use Rattle.base.specs.Choice.{unless}
use Rattle.chase.specs.declared.ChaseRefusal.TheVariants.{TooMany, OutputShort}
use Rattle.chase.specs.Construction.{chase_plan, chase_file}
use Rattle.chase.specs.Outcomes.{ChaseAnswer, chase_answer}
use Rattle.chase.proofs.Files.{length_chase_file}
use Rattle.planner.specs.Chases.{chase_size, longest_chase}

after_tests : (a b : Bool) (n : ℕ) → (a ≡ true → n ≤ longest_chase) → chase_size (unless a (Err TooMany) (unless b (Err OutputShort) (Ok n))) ≤ longest_chase
after_tests true true n h = h refl
after_tests true false n h = omega arith
after_tests false b n h = omega arith

pub chase_few : (m plan steps : ℕ) (a : ChaseAnswer) → a ≡ chase_answer m plan steps → chase_size a ≤ longest_chase
unfolding chase_answer
chase_few m plan steps a e =
    rw e
    (after_tests (leb m 500) (leb (length chase_plan) plan && leb (length (chase_file m)) steps) (length (chase_file m))
    (λ h. omega (arith, leb-true m 500 h, length_chase_file m)))
