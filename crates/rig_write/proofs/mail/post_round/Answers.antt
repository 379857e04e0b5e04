-- `post_round`: nothing is put, or the letter of the round.
use mathlib.Core.Path.{sym, ap, ◌∙◌}
use mathlib.Core.List.{List}
use Prim.Native.Nat.{◌+◌}
use native.Mathlib.Omega.{arith}
use lib.ListN.{length}
use Rattle.rules.specs.declared.message.Message.{Message}
use Rattle.rig_write.proofs.Posts.{one_posted, round_skipped, round_posted}
use borrow.Author.Rules.{rules}
use Rattle.rig_write.proofs.mail.post_round.Goals as goal

pub returns-then-skips : goal.returns-then-skips
returns-then-skips c =
    let a = c.args in
    round_skipped a.x a.j a.mail.now a.free (sym c.skips.ensures ∙ c.if-skips.true)

pub put_letter-requires : goal.put_letter-requires
put_letter-requires c =
    let a = c.args in
    let one = one_posted a.x a.j (sym c.skips.ensures ∙ c.if-skips.false) _ c.message-slot.ensures in
    let few = ap (λ (l : List Message). a.free + length l) one in
    (search rules, omega (arith, few, c.requires.2))

pub returns : goal.returns
returns c =
    let a = c.args in
    round_posted a.x a.j a.mail.now _ a.free _ (sym c.skips.ensures ∙ c.if-skips.false) c.message-slot.ensures c.put_letter.ensures
