-- `put_field` writes a space and a number.
use native.Mathlib.Omega.{arith}
use lib.ListN.{length-set}
use Rattle.trace.proofs.Putting.{put_length, put_space}
use borrow.Author.Rules.{rules}
use Rattle.trace.proofs.direct.put_field.Goals as goal

pub put_number-requires : goal.put_number-requires
put_number-requires c = (search rules, simp length-set (omega arith))

pub shape_of-out : goal.shape_of-out
shape_of-out c =
    let o = c.args.out.now in
    put_length {o = o} (put_space (search rules) c.put_number.ensures).put

pub returns : goal.returns
returns c = put_space (search rules) c.put_number.ensures
