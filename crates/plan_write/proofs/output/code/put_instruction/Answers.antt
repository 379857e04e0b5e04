-- `code::put_instruction` puts the four bytes of an instruction.
use native.Mathlib.Omega.{arith}
use lib.ListN.{length-set}
use Rattle.plan_write.proofs.output.Slot.{instruction_put}
use Rattle.plan_write.proofs.output.code.put_instruction.Goals as goal

pub bounds-out-at-2 : goal.bounds-out-at-2
bounds-out-at-2 c = simp length-set (omega arith)

pub put_word-requires : goal.put_word-requires
put_word-requires c = simp length-set (omega arith)

pub shape_of-out : goal.shape_of-out
shape_of-out c = simp length-set at c.out-1.given

pub returns : goal.returns
returns c = instruction_put c.args.out.now c.args.at c.args.i _ c.requires c.put_word.ensures
