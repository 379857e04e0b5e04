-- Each edge holds: one test of the whole list, by computation, and one lemma, `every_at`, that takes it to each entry.
use Rattle.std.proofs.Common.{◌≡◌, ℕ, ◌<◌, true, [], length, get_or, refl, eqb-true}
use Rattle.base.specs.Range.{fold}
use Rattle.base.specs.Lists.{every, any, table, table_before}
use Rattle.base.proofs.Tests.{every_at}
use Rattle.plan.specs.Users.{users}
use Rattle.plan.specs.Refusals.{sizes_ok, operand_ok, instructions_ok, finish_ok, finishes_ok, creates_ok, channels_ok, structure_answer, plan_answer}
use Rattle.plan.specs.Layout.{layout}
use Rattle.plan.specs.Files.{layout_ok, file_programs, file_answer, start_answer}
use Rattle.plan.specs.Outcomes.{write_answer, write_output, start_number}
use Rattle.plan.proofs.Edges.{Edge, edge_holds, starred, others, edges}
use Rattle.plan.proofs.WriteEdges.{WriteEdge, same_bytes, write_holds, write_edges}

all_start : every edge_holds edges ≡ true
unfolding starred others start_number start_answer file_answer layout_ok file_programs structure_answer instructions_ok operand_ok finishes_ok finish_ok creates_ok channels_ok users layout fold every any table table_before
all_start = refl

all_write : every write_holds write_edges ≡ true
unfolding write_edges write_answer write_output same_bytes plan_answer sizes_ok structure_answer instructions_ok operand_ok finishes_ok finish_ok creates_ok channels_ok users layout fold every any
all_write = refl

abbrev none : Edge
none = record { processors = 0; file = []; number = 1 }

-- the answer about edge k is the one that the list gives
pub edge : (k : ℕ) → k < length edges → start_number (get_or edges k none).processors (get_or edges k none).file ≡ (get_or edges k none).number
edge k h =
    eqb-true (start_number (get_or edges k none).processors (get_or edges k none).file) (get_or edges k none).number (every_at edge_holds edges k none h all_start)

abbrev unwritten : WriteEdge
unwritten = record { plan = []; before = []; number = 2; size = 0; after = [] }

pub write_edge : (k : ℕ) → k < length write_edges → write_holds (get_or write_edges k unwritten) ≡ true
write_edge k h = every_at write_holds write_edges k unwritten h all_write
