-- What converting a file of the new edition answers and leaves behind.
use Rattle.std.specs.Prelude.{◌≡◌, ℕ, List, length, take, Ok}
use Rattle.plan.specs.Answers.{WriteAnswer}
use Rattle.plan.specs.Layout.{layout}
use Rattle.plan.specs.Files.{file_programs, file_answer}
use Rattle.plan.specs.Outcomes.{write_answer_after, output_after}
use Rattle.plan.specs.Repeats.{written_out_plan}
use Rattle.plan.specs.RepeatRefusals.{repeats_answer}

-- "a converter that writes the present edition with every repeat written out": the file that it writes
abbrev pub converted_file : List ℕ → List ℕ
converted_file b = layout (written_out_plan (file_programs b))

-- "a short output is refused by 20, last"
unfoldable pub convert_answer : List ℕ → List ℕ → WriteAnswer
convert_answer b out = write_answer_after (repeats_answer b) (length (converted_file b)) (length out)

-- "and stays as it was"; "Bytes behind a written plan are unchanged."
unfoldable pub convert_output : List ℕ → List ℕ → List ℕ
convert_output b out = output_after (convert_answer b out) (converted_file b) out

-- a file was converted or refused so: the answer, the output then, and that what is written is accepted as a plan file
pub record Converted (b before : List ℕ) (r : WriteAnswer) (after : List ℕ) : Type 0 where
  pub answer : r ≡ convert_answer b before
  pub bytes : after ≡ convert_output b before
  pub accepted : (n : ℕ) → r ≡ Ok n → file_answer (take n after) ≡ Ok tt
