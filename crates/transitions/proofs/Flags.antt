-- A test counted: 1 where it holds, else 0.
use mathlib.Core.Path.{◌≡◌, refl}
use mathlib.Core.Logic.{◌≢◌}
use mathlib.Core.Bool.{Bool, true, false, not, ◌&&◌}
use native.Mathlib.Omega.{arith}
use Rattle.base.proofs.Tests.{tests_differ}
use Rattle.transitions.specs.Progress.{flag}

pub flag_on : (b : Bool) → b ≡ true → flag b ≡ 1
flag_on b e = rw e refl

pub flag_off : (b : Bool) → b ≡ false → flag b ≡ 0
flag_off b e = rw e refl

pub flag_is : (b : Bool) → flag b ≡ 1 → b ≡ true
flag_is true e = refl
flag_is false e = absurd (omega arith)

-- of two tests not the first alone holds
pub flag_not : (a b : Bool) → a && not b ≡ false → flag a ≡ 1 → flag b ≢ 0
flag_not true true e on off = absurd (omega arith)
flag_not true false e on off = tests_differ refl e
flag_not false b e on off = absurd (omega arith)
