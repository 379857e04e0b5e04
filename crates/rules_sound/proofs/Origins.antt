-- A task's own pointer stays as it is, and 9 asks no more of it: whoever changes was born, or stays as it was.
use mathlib.Core.Path.{◌≡◌, refl, sym, ◌∙◌}
use mathlib.Core.Bool.{true, false}
use Prim.Native.Nat.{ℕ}
use lib.Dec.{eqb}
use borrow.Author.Tests.{eqb-true}
use Rattle.base.specs.Sets.{removed}
use Rattle.base.proofs.Choices.{pick_cases}
use Rattle.base.proofs.Tests.{and_left}
use Rattle.plan.specs.declared.TaskId.{TaskId}
use Rattle.rules.specs.declared.task.Task.{Task}
use Rattle.rules.specs.declared.task.TaskState.{TaskState}
use Rattle.rules.specs.declared.task.TaskState.TheVariants.{Unborn, Waiting}
use Rattle.rules.specs.Tasks.{state_number, is_in, readied, is_childless, with_children, woken, without_child}
use Rattle.rules.specs.Sound.{origin_ok}
use Rattle.rules_sound.specs.Sites.{SameOrigin}

pub same_origin : (x : Task) → SameOrigin x x
same_origin x = record { origin = refl; unborn = refl }

pub origin_kept : (n t : ℕ) (x y : Task) → SameOrigin x y → origin_ok n t x ≡ true → origin_ok n t y ≡ true
unfolding origin_ok
origin_kept n t x y s h = rw (s.origin, s.unborn) h

-- a task in a state other than unborn, that is born afterwards
pub born_origin : (s : TaskState) (x y : Task) → is_in s x ≡ true → eqb (state_number s) 0 ≡ false → y.origin ≡ x.origin → is_in Unborn y ≡ false → SameOrigin x y
born_origin s x y i z e u =
    let was : is_in Unborn x ≡ false = rw (eqb-true (state_number x.state) (state_number s) i) z in
    record { origin = e; unborn = u ∙ sym was }

pub woken_origin : (x : Task) → SameOrigin x (woken x)
unfolding woken
woken_origin x =
    pick_cases (SameOrigin x) _ (readied x) x
    (λ e. born_origin Waiting x (readied x) (and_left (is_in Waiting x) (is_childless x) e) refl refl refl)
    (λ e. same_origin x)

pub lost_origin : (x : Task) (t : TaskId) → SameOrigin x (without_child x t)
lost_origin x t =
    let s = woken_origin (with_children x (removed t.0 x.children)) in
    record { origin = s.origin; unborn = s.unborn }
