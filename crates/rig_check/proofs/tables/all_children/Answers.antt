-- `all_children` tests each set of a table.
use mathlib.Core.Path.{◌∙◌}
use lib.Dec.{ltb}
use Prim.Native.Nat.{◌^◌}
use borrow.Author.Rules.{rules}
use borrow.Author.Tests.{tests}
use Rattle.std.proofs.lemmas.Iterator.{YieldsList-from_slice}
use Rattle.std.proofs.lemmas.Iterator.Search.{all_from_yields_List}
use Rattle.rig_check.proofs.tables.Items.{every_item}
use Rattle.rig_check.proofs.tables.all_children.Goals as goal

pub returns : goal.returns
returns c =
    let a = c.args in
    all_from_yields_List (λ s. ltb s (2 ^ a.m)) _ _ _ c.all.ensures.ran (YieldsList-from_slice a.xs.now cc) (λ x b q k. search (rules, tests))
    ∙ every_item (λ s. ltb s (2 ^ a.m)) a.xs.now
