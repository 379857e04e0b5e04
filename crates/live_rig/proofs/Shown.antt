-- What is answered of bytes that were opened.
use mathlib.Core.Path.{◌≡◌, refl, ap, ◌∙◌}
use mathlib.Core.Bool.{Bool, true, false}
use mathlib.Core.List.{List}
use Prim.Native.Nat.{ℕ, ◌+◌, ◌*◌}
use native.Mathlib.Omega.{arith}
use Rattle.plan.specs.declared.TaskId.{TaskId}
use Rattle.rules.specs.Numbers.{task_number_ok}
use Rattle.rules.specs.Steps.{quiescent}
use Rattle.rules.specs.Systems.{task_at}
use Rattle.board.specs.packing.Packed.{bit}
use Rattle.image.specs.Image.{rig_of}
use Rattle.live_rig.specs.declared.found.Found.{Found}
use Rattle.live_rig.specs.Open.{sound}
use Rattle.live_rig.specs.Shows.{rest_on, Finds}

module _ (b : List ℕ) where
  -- rest: 9, or both numbers
  pub rest_nine : sound b ≡ false → 9 ≡ rest_on b
  unfolding rest_on
  rest_nine h = rw h refl

  pub rest_shown : sound b ≡ true → {rest : Bool} {used r : ℕ} → rest ≡ quiescent (rig_of b) → used ≡ (rig_of b).network.used → r ≡ 256 * bit rest + 65536 * used → r ≡ rest_on b
  unfolding rest_on
  rest_shown h {rest} {used} e u q = rw h (q ∙ ap (λ (x : Bool). 256 * bit x + 65536 * used) e ∙ ap (λ (n : ℕ). 256 * bit (quiescent (rig_of b)) + 65536 * n) u)

  -- a task: 9, 10, or its record
  module _ (t : TaskId) {f : Found} where
    pub found_nine : sound b ≡ false → f.number ≡ 9 → Finds b t f
    found_nine h e = record { number_is = rw h e; task_is = rw h (λ z. absurd (omega (arith, z))) }

    pub found_ten : sound b ≡ true → task_number_ok (rig_of b).plan.tasks t ≡ false → f.number ≡ 10 → Finds b t f
    found_ten h k e = record { number_is = rw (h, k) e; task_is = rw (h, k) (λ z. absurd (omega (arith, z))) }

    pub found : sound b ≡ true → task_number_ok (rig_of b).plan.tasks t ≡ true → f.number ≡ 0 → f.task ≡ task_at (rig_of b) t → Finds b t f
    found h k e x = record { number_is = rw (h, k) e; task_is = λ z. x }
