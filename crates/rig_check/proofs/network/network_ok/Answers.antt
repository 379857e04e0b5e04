-- `network_ok` tests each letter in the mail.
use mathlib.Core.Path.{◌∙◌, refl}
use lib.ListN.{take}
use borrow.Author.Rules.{rules}
use borrow.Author.Tests.{tests, le-leb, lt-leb}
use Rattle.std.proofs.lemmas.Iterator.{YieldsList-from_slice}
use Rattle.std.proofs.lemmas.Iterator.Search.{all_from_yields_List}
use Rattle.rules.specs.declared.message.Message.{Message}
use Rattle.rules.specs.declared.message.Slot.{Slot}
use Rattle.rules.specs.Networks.{messages}
use Rattle.rules.specs.Sound.{message_ok, network_ok}
use Rattle.rig_check.proofs.tables.Items.{every_mapped}
use Rattle.rig_check.proofs.network.network_ok.Goals as goal

pub returns-then-x-le256 : goal.returns-then-x-le256
unfolding network_ok messages
returns-then-x-le256 c =
    let a = c.args in
    let in_slot : Slot → Message = λ s. s.message in
    rw (le-leb a.x.used 256 c.if-x-le256.true)
    (all_from_yields_List (λ (s : Slot). message_ok a.n a.m s.message) _ _ _ c.all.ensures.ran (YieldsList-from_slice (take a.x.used a.x.slots) c.iter.ensures.rest) (λ x b q k. search (rules, tests))
    ∙ every_mapped in_slot (message_ok a.n a.m) (take a.x.used a.x.slots))

pub returns-else-x-le256 : goal.returns-else-x-le256
unfolding network_ok
returns-else-x-le256 c = rw (lt-leb c.args.x.used 256 c.if-x-le256.false) refl
