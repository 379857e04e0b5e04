-- What converting the instructions behind a header gives.
use Rattle.std.specs.Prelude.{◌≡◌, List, ℕ, length, Err}
use Rattle.base.specs.Choice.{unless}
use Rattle.plan.specs.Answers.{PlanAnswer}
use Rattle.plan.specs.declared.Refusal.TheVariants.{BadInstruction, BadRepeat, RepeatedCreate, TooLong}
use Rattle.plan.specs.Answers.{WriteAnswer}
use Rattle.plan.specs.Programs.{Programs, canonical}
use Rattle.plan.specs.Layout.{layout}
use Rattle.plan.specs.Refusals.{structure_answer}
use Rattle.plan.specs.Outcomes.{write_answer_after, output_after}
use Rattle.plan.specs.Repeats.{written_out_plan}
use Rattle.plan.specs.RepeatRefusals.{new_instructions_ok, paired_ok, repeated_ok, lengths_ok}

-- 3, 21 to 23 and 4 to 6 of some programs
unfoldable pub code_answer : Programs → PlanAnswer
code_answer m =
    unless (new_instructions_ok m) (Err BadInstruction)
    (unless (paired_ok m) (Err BadRepeat)
    (unless (repeated_ok m) (Err RepeatedCreate)
    (unless (lengths_ok m) (Err TooLong)
    (structure_answer (written_out_plan m)))))

-- they were answered so and written, into an output
unfoldable pub code_written : Programs → List ℕ → WriteAnswer
code_written m out = write_answer_after (code_answer m) (length (layout (written_out_plan m))) (length out)

pub record CodeConverted (m : Programs) (before : List ℕ) (r : WriteAnswer) (after : List ℕ) : Type 0 where
  pub answer : r ≡ code_written m before
  pub bytes : after ≡ output_after (code_written m before) (layout (written_out_plan m)) before

-- the slots and the counts of a plan value are those of a plan, with nothing in the unused ones
pub record Filled (m : Programs) (lengths slots : List ℕ) : Type 0 where
  pub counts : lengths ≡ (canonical m).lengths
  pub codes : slots ≡ (canonical m).codes
