-- What an accepted file of the new edition has passed, and whether a written-out plan has a task left empty.
use Rattle.std.specs.Prelude.{◌≡◌, Bool, true, List, ℕ, leb, length, Ok}
use Rattle.base.specs.Lists.{every}
use Rattle.plan.specs.Programs.{Programs}
use Rattle.plan.specs.Refusals.{structure_answer}
use Rattle.plan.specs.Files.{layout_ok, file_programs}
use Rattle.plan.specs.Repeats.{written_out_plan}
use Rattle.plan.specs.RepeatRefusals.{new_instructions_ok, paired_ok, repeated_ok, lengths_ok}

-- no task is empty
unfoldable pub none_empty : Programs → Bool
none_empty m = every (λ g. leb 1 (length g)) m

pub record RepeatsPassed (b : List ℕ) : Type 0 where
  pub layout : layout_ok b ≡ true
  pub instructions : new_instructions_ok (file_programs b) ≡ true
  pub paired : paired_ok (file_programs b) ≡ true
  pub creates : repeated_ok (file_programs b) ≡ true
  pub lengths : lengths_ok (file_programs b) ≡ true
  pub structure : structure_answer (written_out_plan (file_programs b)) ≡ Ok tt
