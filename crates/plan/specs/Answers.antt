-- The number that the paper gives to each answer.
use Rattle.std.specs.Prelude.{ℕ, Bool, true, false, ⊤, Result, Ok, Err}
use Rattle.plan.specs.declared.Refusal.{Refusal}
use Rattle.plan.specs.declared.Refusal.TheVariants.{BadProcessors, BadLayout, BadInstruction, BadFinish, BadCreate, BadChannel, OutputShort, BadRepeat, RepeatedCreate, TooLong}

-- "Start: 1, desks ..; 2, under 4 bytes ..; 3, kind unknown ..; 4, finish ..; 5, a task 2..T not created ..; 6, a channel ..";
-- "20, the lent output is too short"; "by 21 a repeat or end nested or unpaired in its task, by 22 a create within a repeat, by 23 a task over 64
-- instructions when written out"
abbrev pub refusal_number : Refusal → ℕ
refusal_number BadProcessors = 1
refusal_number BadLayout = 2
refusal_number BadInstruction = 3
refusal_number BadFinish = 4
refusal_number BadCreate = 5
refusal_number BadChannel = 6
refusal_number OutputShort = 20
refusal_number BadRepeat = 21
refusal_number RepeatedCreate = 22
refusal_number TooLong = 23

-- what is answered about a plan: accepted, or a refusal
abbrev pub PlanAnswer : Type 0
PlanAnswer = Result ⊤ Refusal

-- what is answered where a plan is written: how many bytes it took, or why none was written
abbrev pub WriteAnswer : Type 0
WriteAnswer = Result ℕ Refusal

-- "0 accepted"
abbrev pub answer_number : PlanAnswer → ℕ
answer_number (Ok tt) = 0
answer_number (Err r) = refusal_number r

abbrev pub is_accepted : PlanAnswer → Bool
is_accepted (Ok tt) = true
is_accepted (Err r) = false

-- of writing: the number, and how many bytes were written
abbrev pub write_number : WriteAnswer → ℕ
write_number (Ok n) = 0
write_number (Err r) = refusal_number r

abbrev pub write_size : WriteAnswer → ℕ
write_size (Ok n) = n
write_size (Err r) = 0
