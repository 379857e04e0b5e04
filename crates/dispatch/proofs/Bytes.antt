-- Four bytes put behind what is filled.
use mathlib.Core.Path.{refl}
use mathlib.Core.List.{List, [], ◌∷◌}
use Prim.Native.Nat.{ℕ, ◌+◌, ◌-◌, ◌/◌, ◌%◌, ◌≤◌, ◌<◌}
use native.Mathlib.Omega.{arith}
use lib.ListN.{length, set, length-set}
use Rattle.rules.specs.declared.step.Step.{Step}
use Rattle.trace.specs.Output.{Put, Emitted}
use Rattle.trace.proofs.Emitting.{fits, fits_not}
use Rattle.trace.proofs.Putting.{put_byte, put_more}
use Rattle.dispatch.specs.Calls.{step_bytes}

pub put_four : (o : List ℕ) (at a b c d : ℕ) → at + 4 ≤ length o → Put o at (a ∷ b ∷ c ∷ d ∷ []) (set (set (set (set o at a) (at + 1) b) (at + 2) c) (at + 3) d)
put_four o at a b c d h =
    let one = set o at a in
    let two = set one (at + 1) b in
    let three = set two (at + 2) c in
    put_more
    (put_more
    (put_more (put_byte o at a (omega arith)) (put_byte one (at + 1) b (simp length-set (omega arith))))
    (put_byte two (at + 2) c (simp length-set (omega arith))))
    (put_byte three (at + 3) d (simp length-set (omega arith)))

-- a step's bytes, where they do not fit, and where they do
module _ (o : List ℕ) (f : ℕ) (s : Step) where
  pub no_bytes : length o - f < 4 → f ≤ length o → Emitted o f (step_bytes s) 0 o
  no_bytes h l = let short : length o < f + 4 = omega arith in fits_not short refl refl

  pub four_bytes : f + 4 ≤ length o
      → Emitted o f (step_bytes s) 4 (set (set (set (set o f s.kind) (f + 1) s.task) (f + 2) (s.number % 256)) (f + 3) (s.number / 256))
  four_bytes h = fits h refl (put_four o f s.kind s.task (s.number % 256) (s.number / 256) h).bytes
