-- What the converter writes is no longer than a plan file, and an output of so many bytes is not refused by 20.
use mathlib.Core.Path.{◌≡◌, sym}
use mathlib.Core.Logic.{◌≢◌}
use mathlib.Core.List.{List}
use Prim.Native.Nat.{ℕ, ◌≤◌}
use native.Mathlib.Omega.{arith}
use lib.ListN.{length}
use Rattle.std.specs.Prelude.{Ok, Err}
use Rattle.plan.specs.declared.Refusal.TheVariants.{OutputShort}
use Rattle.plan.specs.Answers.{WriteAnswer}
use Rattle.plan.specs.Answers.{write_size}
use Rattle.plan.specs.Conversions.{convert_answer}
use Rattle.repeat_laws.proofs.Converted.{converted_few, never_short}
use Rattle.planner.specs.Converts.{longest_plan}

pub written_few : (b out : List ℕ) (a : WriteAnswer) → a ≡ convert_answer b out → write_size a ≤ longest_plan
written_few b out (Ok n) e = omega (arith, converted_few b out n (sym e))
written_few b out (Err r) e = omega arith

pub room_for_all : (b out : List ℕ) → longest_plan ≤ length out → convert_answer b out ≢ Err OutputShort
room_for_all b out l = never_short b out (omega (arith, l))
