-- `put_levels` writes the four levels of a word one behind another.
use native.Mathlib.Omega.{arith}
use Rattle.trace.specs.Lines.{level_fields}
use Rattle.trace.proofs.Putting.{put_length, put_to_more, levels_length}
use borrow.Author.Rules.{rules}
use Rattle.trace.proofs.direct.put_levels.Goals as goal

pub put_field-first-requires : goal.put_field-first-requires
put_field-first-requires c = (search rules, omega (arith, levels_length c.args.w))

pub put_field-second-requires : goal.put_field-second-requires
put_field-second-requires c =
    let p = c.put_field-first.ensures in
    (search rules, omega (arith, levels_length c.args.w, p.end, put_length p.put))

pub put_field-third-requires : goal.put_field-third-requires
put_field-third-requires c =
    let p = c.put_field-first.ensures in
    let q = c.put_field-second.ensures in
    (search rules, omega (arith, levels_length c.args.w, p.end, q.end, put_length (put_to_more p q).put))

pub put_field-requires : goal.put_field-requires
put_field-requires c =
    let p = c.put_field-first.ensures in
    let q = c.put_field-second.ensures in
    let r = c.put_field-third.ensures in
    (search rules, omega (arith, levels_length c.args.w, p.end, q.end, r.end, put_length (put_to_more (put_to_more p q) r).put))

pub returns : goal.returns
unfolding level_fields
returns c =
    put_to_more (put_to_more (put_to_more c.put_field-first.ensures c.put_field-second.ensures) c.put_field-third.ensures) c.put_field.ensures
