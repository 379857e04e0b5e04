-- `write_verdict` writes the verdict and a number at the front, if they fit.
use mathlib.Core.Path.{refl, ap}
use native.Mathlib.Omega.{arith}
use lib.ListN.{length, length-set}
use Rattle.trace.proofs.Emitting.{fits_not}
use Rattle.trace.proofs.Putting.{put_length, put_to_more, line_end}
use Rattle.trace.proofs.Lines.{verdict_text, verdict_length}
use Rattle.trace.proofs.direct.finish.write_verdict.Goals as goal

pub returns-then-rest-word : goal.returns-then-rest-word
returns-then-rest-word c =
    let a = c.args in
    fits_not (omega (arith, c.digits.ensures, ap length c.verdict_word-word.ensures, verdict_length a.finishes a.n)) refl refl

pub put_word-word-requires : goal.put_word-word-requires
put_word-word-requires c = omega (arith, c.digits.ensures)

pub put_field-end-requires : goal.put_field-end-requires
put_field-end-requires c =
    let w = c.put_word-word.ensures in
    (c.requires, omega (arith, c.digits.ensures, w.end, put_length w.put))

pub bounds-rest-end : goal.bounds-rest-end
bounds-rest-end c =
    let w = c.put_word-word.ensures in
    let f = c.put_field-end.ensures in
    omega (arith, c.digits.ensures, w.end, f.end, put_length (put_to_more w f).put)

pub shape_of-rest : goal.shape_of-rest
shape_of-rest c = simp length-set (put_length (put_to_more c.put_word-word.ensures c.put_field-end.ensures).put)

pub returns : goal.returns
returns c =
    let a = c.args in
    let w = c.put_word-word.ensures in
    let f = c.put_field-end.ensures in
    let said = c.verdict_word-word.ensures in
    line_end (put_to_more w f) _ _ (rw said (verdict_text a.finishes a.n))
    (omega (arith, c.digits.ensures, w.end, f.end))
    (omega (arith, w.end, f.end, ap length said, verdict_length a.finishes a.n))
