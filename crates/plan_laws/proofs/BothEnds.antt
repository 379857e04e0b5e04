-- A channel that is used has both ends; the paper's worked plan as an example.
use mathlib.Core.Path.{◌≡◌, refl, ap}
use Prim.Native.Nat.{◌<◌}
use native.Mathlib.Omega.{arith}
use Rattle.std.specs.Prelude.{Ok}
use Rattle.base.specs.Range.{fold}
use Rattle.base.specs.Lists.{every, any, table, table_before}
use Rattle.base.proofs.Tests.{or_cases}
use Rattle.plan.specs.declared.TaskId.{TaskId}
use Rattle.plan.specs.Numbers.{channel_id}
use Rattle.plan.specs.Kinds.{op_send, op_receive, is_use}
use Rattle.plan.specs.Programs.{program_at, instruction_at}
use Rattle.plan.specs.Users.{users}
use Rattle.plan.specs.Files.{file_programs}
use Rattle.plan.specs.Refusals.{sizes_ok, operand_ok, instructions_ok, finish_ok, finishes_ok, creates_ok, channels_ok, structure_answer, plan_answer}
use Rattle.plan.proofs.Edges.{worked}
use Rattle.plan_laws.specs.BothEnds.{BothEnds, UsedHasBothEnds}
use Rattle.plan_laws.proofs.Ends.{sends_on_lem, receives_on_lem, sender_both, receiver_both}

pub used_has_both_ends : UsedHasBothEnds
used_has_both_ends m a c k i l q used =
    let x = instruction_at (program_at m k) i in
    or_cases (is_use op_send c x) (is_use op_receive c x) used
    (λ e. sender_both m a (channel_id c) (omega (arith, ap (λ (t : TaskId). t.0) (sends_on_lem m a c k i l q e))))
    (λ e. receiver_both m a (channel_id c) (omega (arith, ap (λ (t : TaskId). t.0) (receives_on_lem m a c k i l q e))))

worked_accepted : plan_answer (file_programs worked) ≡ Ok tt
unfolding file_programs plan_answer sizes_ok instructions_ok operand_ok finishes_ok finish_ok creates_ok channels_ok structure_answer users fold every any table table_before
worked_accepted = refl

-- task 1's third instruction is a send on channel 3
pub worked_both_ends : BothEnds (file_programs worked) (channel_id 3)
unfolding file_programs table table_before
worked_both_ends = used_has_both_ends (file_programs worked) worked_accepted 3 0 2 (omega arith) (omega arith) refl
