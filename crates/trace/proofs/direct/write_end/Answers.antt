-- `write_end` writes the last line at the front, if it fits.
use mathlib.Core.Path.{refl}
use native.Mathlib.Omega.{arith}
use lib.ListN.{length-set}
use Rattle.trace.proofs.Emitting.{fits_not}
use Rattle.trace.proofs.Putting.{put_length, put_to_more, line_end}
use Rattle.trace.proofs.Lines.{end_text_lem, end_length, flag_length}
use Rattle.trace.proofs.direct.write_end.Goals as goal

pub returns-then-rest-digits : goal.returns-then-rest-digits
returns-then-rest-digits c =
    let a = c.args in
    fits_not (omega (arith, c.digits.ensures, end_length a.quiet a.messages)) refl refl

pub put_field-answer-requires : goal.put_field-answer-requires
put_field-answer-requires c =
    let w = c.put_word-word.ensures in
    (omega (arith, c.flag.ensures.1), omega (arith, c.digits.ensures, flag_length c.args.quiet c.flag.ensures.0, w.end, put_length w.put))

pub put_field-end-requires : goal.put_field-end-requires
put_field-end-requires c =
    let w = c.put_word-word.ensures in
    let f = c.put_field-answer.ensures in
    (c.requires, omega (arith, c.digits.ensures, flag_length c.args.quiet c.flag.ensures.0, w.end, f.end, put_length (put_to_more w f).put))

pub bounds-rest-end : goal.bounds-rest-end
bounds-rest-end c =
    let w = c.put_word-word.ensures in
    let f = c.put_field-answer.ensures in
    let e = c.put_field-end.ensures in
    omega (arith, c.digits.ensures, flag_length c.args.quiet c.flag.ensures.0, w.end, f.end, e.end, put_length (put_to_more (put_to_more w f) e).put)

pub shape_of-rest : goal.shape_of-rest
shape_of-rest c =
    simp length-set (put_length (put_to_more (put_to_more c.put_word-word.ensures c.put_field-answer.ensures) c.put_field-end.ensures).put)

pub returns : goal.returns
returns c =
    let a = c.args in
    let w = c.put_word-word.ensures in
    let f = c.put_field-answer.ensures in
    let e = c.put_field-end.ensures in
    let one = flag_length a.quiet c.flag.ensures.0 in
    line_end (put_to_more (put_to_more w f) e) _ _ (end_text_lem a.quiet a.messages c.flag.ensures.0)
    (omega (arith, c.digits.ensures, one, w.end, f.end, e.end))
    (omega (arith, one, w.end, f.end, e.end, end_length a.quiet a.messages))
