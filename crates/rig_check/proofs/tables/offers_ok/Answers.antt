-- `offers_ok` tests each offer of a table.
use mathlib.Core.Bool.{Bool}
use mathlib.Core.Path.{◌∙◌}
use Prim.Native.Nat.{ℕ}
use borrow.Author.Rules.{rules}
use borrow.Author.Tests.{tests}
use Rattle.std.proofs.lemmas.Iterator.{YieldsList-from_slice, YieldsList-from_zip}
use Rattle.std.proofs.lemmas.Iterator.Search.{all_from_yields_List}
use Rattle.rules.specs.Numbers.{processor_id}
use Rattle.rules.specs.Cells.{offer}
use Rattle.rules.specs.Sound.{offer_ok}
use Rattle.rig_check.proofs.tables.Items.{every_zipped}
use Rattle.rig_check.proofs.tables.offers_ok.Goals as goal

pub returns : goal.returns
returns c =
    let a = c.args in
    let passes : ℕ → ℕ → Bool = λ d w. offer_ok a.n (offer (processor_id d) w) in
    all_from_yields_List (λ q. passes q.0 q.1) c.all.new.self _ _ c.all.ensures.ran
    (YieldsList-from_zip (YieldsList-from_slice a.processors.now cc) (YieldsList-from_slice a.numbers.now cc)) (λ x b q k. search (rules, tests))
    ∙ every_zipped passes a.processors.now a.numbers.now
