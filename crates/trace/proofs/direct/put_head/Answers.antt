-- `put_head` writes two numbers at the front, a space between.
use native.Mathlib.Omega.{arith}
use Rattle.trace.proofs.Putting.{put_length, put_to_more, head_length}
use borrow.Author.Rules.{rules}
use Rattle.trace.proofs.direct.put_head.Goals as goal

pub put_number-end-requires : goal.put_number-end-requires
put_number-end-requires c =
    let a = c.args in
    (search rules, omega (arith, head_length a.k a.a))

pub put_field-requires : goal.put_field-requires
put_field-requires c =
    let b = c.before.before.before in
    let a = b.args in
    (search rules, omega (arith, head_length a.k a.a, b.put_number-end.ensures.end, put_length b.put_number-end.ensures.put))

pub returns : goal.returns
returns c = put_to_more c.put_number-end.ensures c.put_field.ensures
