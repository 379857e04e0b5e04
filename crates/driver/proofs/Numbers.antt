-- A refusal's number is at most 23.
use Prim.Native.Nat.{◌≤◌}
use native.Mathlib.Omega.{arith}
use Rattle.plan.specs.declared.Refusal.{Refusal}
use Rattle.plan.specs.declared.Refusal.TheVariants.{BadProcessors, BadLayout, BadInstruction, BadFinish, BadCreate, BadChannel, OutputShort, BadRepeat, RepeatedCreate, TooLong}
use Rattle.plan.specs.Answers.{refusal_number}

pub refusal_few : (r : Refusal) → refusal_number r ≤ 23
refusal_few BadProcessors = omega arith
refusal_few BadLayout = omega arith
refusal_few BadInstruction = omega arith
refusal_few BadFinish = omega arith
refusal_few BadCreate = omega arith
refusal_few BadChannel = omega arith
refusal_few OutputShort = omega arith
refusal_few BadRepeat = omega arith
refusal_few RepeatedCreate = omega arith
refusal_few TooLong = omega arith
