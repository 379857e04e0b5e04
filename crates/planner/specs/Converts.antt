-- The exported converter: its answer, the output then, that what is written is accepted by plan check, and that it gives the same words.
use Rattle.std.specs.Prelude.{◌≡◌, ◌≢◌, List, ◌++◌, ℕ, ◌+◌, ◌*◌, ◌≤◌, length, take, drop, Ok, Err}
use Rattle.plan.specs.Answers.{WriteAnswer}
use Rattle.plan.specs.declared.Refusal.TheVariants.{OutputShort}
use Rattle.plan.specs.Answers.{write_number, write_size}
use Rattle.plan.specs.Files.{file_answer}
use Rattle.plan.specs.RepeatRefusals.{repeats_answer}
use Rattle.plan.specs.Conversions.{convert_answer, convert_output}
use Rattle.claim.specs.Repeats.{RepeatsWritten}
use Rattle.driver.specs.Runs.{packed}

-- a plan file has at most so many bytes: 4, and 4 for each of 64 tasks and for each of their 64 instructions
abbrev pub longest_plan : ℕ
longest_plan = 4 + 64 * 4 + 64 * 64 * 4

-- 0 or the refusal's number, and 256 times the number of bytes that are written
abbrev pub write_packed : WriteAnswer → ℕ
write_packed a = packed (write_number a) (write_size a)

unfoldable pub convert_outcome : List ℕ → List ℕ → ℕ
convert_outcome b out = write_packed (convert_answer b out)

-- a conversion answered and wrote so: `result` and `bytes` hold of every call, and `room` says that an output of `longest_plan` bytes is not refused
-- by 20. `accepted` is what plan check says of the written bytes; a file that it accepts itself is written as it is. Where the file is not refused
-- by 2 to 6 or 21 to 23, `same` is the claim about it
pub record ConvertMeets (b before : List ℕ) (r : ℕ) (after : List ℕ) : Type 0 where
  pub result : r ≡ convert_outcome b before
  pub bytes : after ≡ convert_output b before
  pub room : longest_plan ≤ length before → convert_answer b before ≢ Err OutputShort
  pub accepted : (n : ℕ) → convert_answer b before ≡ Ok n → file_answer (take n after) ≡ Ok tt
  pub as_it_is : file_answer b ≡ Ok tt → length b ≤ length before → after ≡ b ++ drop (length b) before
  -- what is claimed of plans with repeats, of this file
  pub same : repeats_answer b ≡ Ok tt → RepeatsWritten b
