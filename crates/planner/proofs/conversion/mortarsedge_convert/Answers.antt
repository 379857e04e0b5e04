-- `mortarsedge_convert`.
use mathlib.Core.Path.{◌∙◌, ap}
use native.Mathlib.Omega.{arith}
use Rattle.repeat_laws.proofs.Plain.{present_output}
use Rattle.claim.proofs.Repeats.{repeats_written}
use Rattle.planner.specs.Converts.{write_packed, convert_outcome}
use Rattle.planner.proofs.Conversions.{written_few, room_for_all}
use Rattle.planner.proofs.conversion.mortarsedge_convert.Goals as goal

pub write_packed-requires : goal.write_packed-requires
write_packed-requires c = written_few _ _ _ c.convert.ensures.answer

pub returns : goal.returns
unfolding convert_outcome
returns c =
    let r = c.convert.ensures in
    let a = c.args in
    record {
      result = c.write_packed.ensures ∙ ap write_packed r.answer;
      bytes = r.bytes;
      room = room_for_all a.plan.now a.out.now;
      accepted = λ n e. r.accepted n (r.answer ∙ e);
      as_it_is = λ h l. r.bytes ∙ present_output a.plan.now a.out.now (λ i. omega (arith, c.type_inv.plan i)) h l;
      same = λ h. repeats_written _ h;
    }
