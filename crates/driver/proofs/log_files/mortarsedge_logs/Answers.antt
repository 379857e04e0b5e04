-- `mortarsedge_logs`.
use mathlib.Core.Path.{◌∙◌, ap}
use Rattle.driver.specs.Logs.{logs_packed}
use borrow.Author.Rules.{rules}
use Rattle.driver.proofs.log_files.mortarsedge_logs.Goals as goal

pub returns : goal.returns
returns c = c.logs_packed.ensures ∙ ap logs_packed c.check_logs.ensures
