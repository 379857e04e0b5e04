-- `pass::enter_end` is the test of one more at an end of a channel, the table with it, and the number of channels with one end then.
use mathlib.Core.Path.{refl, sym, ◌∙◌, ap}
use Prim.Native.Nat.{ℕ}
use lib.ListN.{get_or}
use lib.Seq.{set-get_or}
use borrow.Author.Tests.{eq-eqb, ne_eqb}
use Rattle.plan_value.specs.Ends.{unpaired_then}
use Rattle.plan_value.proofs.Unpaired.{unpaired_few, unpaired_part, unpaired_more}
use Rattle.plan_value.proofs.pass.enter_end.Goals as goal

pub returns-then-old-ne0 : goal.returns-then-old-ne0
returns-then-old-ne0 c =
    let s = c.before.before.before.before in
    let a = s.args in
    record {
      entered = record { answer = c.end_fits.ensures; table = rw (ne_eqb (get_or a.ends.now a.a 0) 0 c.if-old-ne0.true) (sym (set-get_or a.ends.now a.a 0)) };
      unpaired = s.requires.3.count;
    }

pub unpaired_then-requires : goal.unpaired_then-requires
unpaired_then-requires c =
    let d = c.before in
    let s = d.before.before.before in
    let a = s.args in
    let part = rw d.if-old-ne0.false at (unpaired_part a.ends.now a.others.now a.a s.requires.1 s.requires.2) in
    rw s.requires.3.count (part, unpaired_few a.ends.now a.others.now)

pub returns : goal.returns
returns c =
    let f = c.before in
    let d = f.before in
    let s = d.before.before.before in
    let a = s.args in
    record {
      entered = record { answer = f.end_fits-2.ensures; table = rw (eq-eqb (get_or a.ends.now a.a 0) 0 d.if-old-ne0.false) refl };
      unpaired =
          c.unpaired_then.ensures
          ∙ ap (λ (n : ℕ). unpaired_then n (get_or a.others.now a.a 0)) s.requires.3.count
          ∙ unpaired_more a.ends.now a.others.now a.a s.requires.1 s.requires.2 a.t s.requires.0 s.requires.3.size d.if-old-ne0.false;
    }
