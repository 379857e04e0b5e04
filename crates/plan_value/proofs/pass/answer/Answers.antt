-- `pass::answer` asks the pass and the table of parents in the paper's order.
use mathlib.Core.Path.{◌≡◌, sym, ◌∙◌}
use mathlib.Core.Bool.{true}
use borrow.Author.Tests.{not-true, not-false}
use Rattle.plan_value.specs.declared.pass.Pass.{Pass}
use Rattle.plan_value.proofs.pass.answer.Goals as goal
use Rattle.plan_value.proofs.pass.answer.Goals.{Else-not-p, Else-not-p-2, Else-not-p-3}

-- the pass, where each test of it has been passed
abbrev pass1 : Else-not-p → Pass
pass1 c = c.args.p

abbrev pass2 : Else-not-p-2 → Pass
pass2 c = pass1 c.before.before

abbrev pass3 : Else-not-p-3 → Pass
pass3 c = pass2 c.before.before

instructions : (c : Else-not-p) → (pass1 c).instructions ≡ true
instructions c = not-false (pass1 c).instructions c.if-not-p.false

finishes : (c : Else-not-p-2) → (pass2 c).finishes ≡ true
finishes c = not-false (pass2 c).finishes c.if-not-p-2.false

creates : (c : Else-not-p-3) → (pass3 c).creates ≡ true
creates c = not-false (pass3 c).creates c.if-not-p-3.false

pub returns-then-not-p : goal.returns-then-not-p
returns-then-not-p c = simp (not-true c.args.p.instructions c.if-not-p.true)

pub returns-then-not-p-2 : goal.returns-then-not-p-2
returns-then-not-p-2 c = let d = c.before.before in simp (instructions d, not-true (pass1 d).finishes c.if-not-p-2.true)

pub returns-then-not-p-3 : goal.returns-then-not-p-3
returns-then-not-p-3 c = let d = c.before.before in simp (instructions d.before.before, finishes d, not-true (pass2 d).creates c.if-not-p-3.true)

pub returns-then-not-all_created : goal.returns-then-not-all_created
returns-then-not-all_created c =
    let a = c.before in
    let d = a.before in
    let e = d.before.before in
    simp (instructions e.before.before, finishes e, creates d, sym a.all_created.ensures ∙ not-true a.all_created.result c.if-not-all_created.true-raw)

pub returns-then-not-both : goal.returns-then-not-both
returns-then-not-both c =
    let b = c.before in
    let f = b.before.before in
    let a = f.before in
    let d = a.before in
    let e = d.before.before in
    simp (
      instructions e.before.before,
      finishes e,
      creates d,
      sym a.all_created.ensures ∙ not-false a.all_created.result f.if-not-all_created.false-raw,
      sym b.both.ensures ∙ not-true b.both.result c.if-not-both.true-raw,
    )

pub returns : goal.returns
returns c =
    let b = c.before in
    let f = b.before.before in
    let a = f.before in
    let d = a.before in
    let e = d.before.before in
    simp (
      instructions e.before.before,
      finishes e,
      creates d,
      sym a.all_created.ensures ∙ not-false a.all_created.result f.if-not-all_created.false-raw,
      sym b.both.ensures ∙ not-false b.both.result c.if-not-both.false-raw,
    )
