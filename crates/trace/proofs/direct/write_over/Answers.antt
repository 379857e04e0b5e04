-- `write_over` writes the line of a marked task at the front, if it fits.
use mathlib.Core.Path.{refl}
use native.Mathlib.Omega.{arith}
use lib.ListN.{length-set}
use Rattle.trace.proofs.Emitting.{fits_not}
use Rattle.trace.proofs.Putting.{put_length, put_to_more, line_end}
use Rattle.trace.proofs.Lines.{over_text_lem, over_length}
use Rattle.trace.proofs.direct.write_over.Goals as goal

pub returns-then-rest-digits : goal.returns-then-rest-digits
returns-then-rest-digits c = fits_not (omega (arith, c.digits.ensures, over_length c.args.t)) refl refl

pub put_field-end-requires : goal.put_field-end-requires
put_field-end-requires c =
    let w = c.put_word-word.ensures in
    (c.requires, omega (arith, c.digits.ensures, w.end, put_length w.put))

pub bounds-rest-end : goal.bounds-rest-end
bounds-rest-end c =
    let w = put_to_more c.put_word-word.ensures c.put_field-end.ensures in
    omega (arith, c.digits.ensures, c.put_word-word.ensures.end, c.put_field-end.ensures.end, put_length w.put)

pub shape_of-rest : goal.shape_of-rest
shape_of-rest c = simp length-set (put_length (put_to_more c.put_word-word.ensures c.put_field-end.ensures).put)

pub returns : goal.returns
returns c =
    let t = c.args.t in
    let w = c.put_word-word.ensures in
    let f = c.put_field-end.ensures in
    line_end (put_to_more w f) _ _ (over_text_lem t) (omega (arith, c.digits.ensures, w.end, f.end)) (omega (arith, w.end, f.end, over_length t))
