-- `put_one` writes a number of one digit.
use Rattle.trace.proofs.Putting.{put_one}
use borrow.Author.Rules.{rules}
use Rattle.trace.proofs.direct.put_one.Goals as goal

pub returns : goal.returns
returns c = put_one _ _ _ _ (search rules) (search rules) c.digit.ensures
