use mathlib.Core.Path.{◌≡◌, refl, sym, ◌∙◌}
use mathlib.Core.Bool.{Bool}
use Prim.Native.Nat.{ℕ}
use native.Mathlib.Omega.{arith}
use lib.Dec.{leb}
use lib.ListN.{get_or}
use Rattle.rig_read.proofs.Zeros.{tests_none, tests_more}
use Rattle.rig_read.proofs.Passing.{every_entry}
use Rattle.rig_read.proofs.check.tables.notes_ok.Goals as goal

pub loop-k-init : goal.loop-k-init
loop-k-init c = tests_none (λ i. leb (get_or c.args.notes.now i 0) c.args.n)

pub loop-k-preserved : goal.loop-k-preserved
loop-k-preserved c =
    let l = c.loop-k in
    let a = c.args in
    let p : ℕ → Bool = λ i. leb (get_or a.notes.now i 0) a.n in
    tests_more p l.k l.invariant refl

pub returns : goal.returns
returns c =
    let l = c.loop-k in
    let e : l.k ≡ 768 = omega arith in
    (rw e at l.invariant) ∙ sym (every_entry (λ d. leb d c.args.n) 768 c.args.notes.now 0 c.requires)
