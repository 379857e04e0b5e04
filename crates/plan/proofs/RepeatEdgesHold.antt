-- Each of them holds: one test of the whole list, by computation.
use Rattle.std.proofs.Common.{◌≡◌, ℕ, ◌<◌, true, [], length, get_or, refl}
use Rattle.base.specs.Range.{fold}
use Rattle.base.specs.Lists.{every, any, table, table_before}
use Rattle.base.proofs.Tests.{every_at}
use Rattle.plan.specs.Users.{users}
use Rattle.plan.specs.Refusals.{operand_ok, finish_ok, finishes_ok, creates_ok, channels_ok, structure_answer}
use Rattle.plan.specs.Layout.{layout}
use Rattle.plan.specs.Files.{layout_ok, file_programs}
use Rattle.plan.specs.Repeats.{times, body_of, written_from}
use Rattle.plan.specs.RepeatRefusals.{new_instruction_ok, new_instructions_ok, paired_from, creates_from, paired_ok, repeated_ok, lengths_ok, repeats_answer}
use Rattle.plan.specs.Conversions.{convert_answer, convert_output}
use Rattle.plan.proofs.WriteEdges.{same_bytes}
use Rattle.plan.proofs.RepeatEdges.{RepeatEdge, repeat_holds, repeat_edges}

all_repeats : every repeat_holds repeat_edges ≡ true
unfolding repeat_edges convert_answer convert_output repeats_answer new_instruction_ok new_instructions_ok paired_from creates_from paired_ok repeated_ok lengths_ok times body_of written_from layout_ok file_programs structure_answer operand_ok finishes_ok finish_ok creates_ok channels_ok users layout same_bytes fold every any table table_before
all_repeats = refl

abbrev unread : RepeatEdge
unread = record { file = []; room = 0; number = 2; written = [] }

pub repeat_edge : (k : ℕ) → k < length repeat_edges → repeat_holds (get_or repeat_edges k unread) ≡ true
repeat_edge k h = every_at repeat_holds repeat_edges k unread h all_repeats
