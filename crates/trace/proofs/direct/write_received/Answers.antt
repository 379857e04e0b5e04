-- `write_received` writes a line of two numbers, a channel and a word at the front, if it fits.
use mathlib.Core.Path.{◌≡◌, refl, sym, ◌∙◌}
use mathlib.Core.List.{◌∷◌, ◌++◌}
use Prim.Native.Nat.{ℕ, ◌+◌, ◌≤◌}
use mathlib.Core.Bool.{Bool, false, not}
use Rattle.std.specs.Prelude.{leb}
use Rattle.plan.specs.declared.Word.{Word}
use native.Mathlib.Omega.{arith}
use lib.ListN.{length, length-set}
use borrow.Author.Tests.{not-true, not-false, leb-true, leb-false}
use Rattle.plan.specs.Words.{word_numbers}
use Rattle.rules.specs.Trace.{decimal, fields}
use Rattle.trace.specs.Lines.{level_fields}
use Rattle.trace.proofs.Emitting.{fits_not}
use Rattle.trace.proofs.Putting.{put_length, put_to_more, line_end, head_length, word_text, word_length}
use borrow.Author.Rules.{rules}
use Rattle.trace.proofs.direct.write_received.Goals as goal

pub returns-then-not-received_fits : goal.returns-then-not-received_fits
returns-then-not-received_fits c =
    let a = c.args in
    let short = sym c.received_fits.ensures ∙ not-true c.received_fits.result c.if-not-received_fits.true-raw in
    fits_not (omega (arith, leb-false (length (decimal a.k ++ fields (a.a ∷ a.c ∷ word_numbers a.w))) (length a.rest.now) short)) refl refl

-- the line fits
module _ (l k a c : ℕ) (w : Word) {r : Bool} (e : r ≡ leb (length (decimal k ++ fields (a ∷ c ∷ word_numbers w))) l) (t : not r ≡ false) where
  room : length (decimal k) + length (decimal a) + length (decimal c) + length (level_fields w) + 3 ≤ l
  room = omega (arith, leb-true (length (decimal k ++ fields (a ∷ c ∷ word_numbers w))) l (sym e ∙ not-false r t), word_length k a c w)

pub put_head-head-requires : goal.put_head-head-requires
put_head-head-requires c =
    let a = c.args in
    let r = room (length a.rest.now) a.k a.a a.c a.w c.received_fits.ensures c.if-not-received_fits.false-raw in
    (search rules, search rules, omega (arith, r, head_length a.k a.a))

pub put_field-channel-requires : goal.put_field-channel-requires
put_field-channel-requires c =
    let a = c.args in
    let r = room (length a.rest.now) a.k a.a a.c a.w c.received_fits.ensures c.if-not-received_fits.false-raw in
    let h = c.put_head-head.ensures in
    (search rules, omega (arith, r, h.end, head_length a.k a.a, put_length h.put))

pub put_levels-word-requires : goal.put_levels-word-requires
put_levels-word-requires c =
    let a = c.args in
    let r = room (length a.rest.now) a.k a.a a.c a.w c.received_fits.ensures c.if-not-received_fits.false-raw in
    let h = c.put_head-head.ensures in
    let f = c.put_field-channel.ensures in
    omega (arith, r, h.end, f.end, head_length a.k a.a, put_length (put_to_more h f).put)

pub bounds-rest-word : goal.bounds-rest-word
bounds-rest-word c =
    let a = c.args in
    let r = room (length a.rest.now) a.k a.a a.c a.w c.received_fits.ensures c.if-not-received_fits.false-raw in
    let h = c.put_head-head.ensures in
    let f = c.put_field-channel.ensures in
    let l = c.put_levels-word.ensures in
    omega (arith, r, h.end, f.end, l.end, head_length a.k a.a, put_length (put_to_more (put_to_more h f) l).put)

pub shape_of-rest : goal.shape_of-rest
shape_of-rest c =
    simp length-set (put_length (put_to_more (put_to_more c.put_head-head.ensures c.put_field-channel.ensures) c.put_levels-word.ensures).put)

pub returns : goal.returns
returns c =
    let a = c.args in
    let r = room (length a.rest.now) a.k a.a a.c a.w c.received_fits.ensures c.if-not-received_fits.false-raw in
    let h = c.put_head-head.ensures in
    let f = c.put_field-channel.ensures in
    let l = c.put_levels-word.ensures in
    line_end (put_to_more (put_to_more h f) l) _ _ (word_text a.k a.a a.c a.w)
    (omega (arith, r, h.end, f.end, l.end, head_length a.k a.a))
    (omega (arith, h.end, f.end, l.end, head_length a.k a.a, word_length a.k a.a a.c a.w))
