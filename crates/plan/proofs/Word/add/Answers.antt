use Rattle.std.proofs.Common.{refl, rules}
use Rattle.plan.specs.Words.{add_word}
use Rattle.plan.proofs.Sums.{wraps}
use Rattle.plan.proofs.Word.add.Goals as goal

-- what it returns
pub returns : goal.returns
unfolding add_word
returns c =
    let old = c.level-old.result in
    let operand = c.args.i.operand in
    rw (c.with_level.ensures, wraps old operand (search rules) (search rules), c.level-old.ensures) refl
