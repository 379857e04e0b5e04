use mathlib.Core.Path.{◌≡◌, sym, ◌∙◌}
use mathlib.Core.Bool.{Bool}
use Prim.Native.Nat.{ℕ}
use native.Mathlib.Omega.{arith}
use lib.ListN.{get_or}
use Rattle.rig_read.proofs.Zeros.{tests_none, tests_more}
use Rattle.rules.specs.Numbers.{processor_id}
use Rattle.rules.specs.Cells.{offer}
use Rattle.rules.specs.Sound.{offer_ok}
use Rattle.rig_read.proofs.Passing.{every_entries}
use Rattle.rig_read.proofs.check.tables.offers_ok.Goals as goal

pub loop-k-init : goal.loop-k-init
loop-k-init c =
    let a = c.args in
    tests_none (λ i. offer_ok a.n (offer (processor_id (get_or a.processors.now i 0)) (get_or a.numbers.now i 0)))

pub loop-k-preserved : goal.loop-k-preserved
loop-k-preserved c =
    let l = c.loop-k in
    let a = c.args in
    let p : ℕ → Bool = λ i. offer_ok a.n (offer (processor_id (get_or a.processors.now i 0)) (get_or a.numbers.now i 0)) in
    tests_more p l.k l.invariant c.entry_ok-all.ensures

pub returns : goal.returns
returns c =
    let l = c.loop-k in
    let e : l.k ≡ 768 = omega arith in
    (rw e at l.invariant)
    ∙ sym (every_entries (λ d k. offer_ok c.args.n (offer (processor_id d) k)) 768 c.args.processors.now c.args.numbers.now 0 0 c.requires.0 c.requires.1)
