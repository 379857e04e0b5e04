-- `last_number`.
use mathlib.Core.Path.{refl, sym}
use native.Mathlib.Omega.{arith}
use Rattle.board.proofs.Finding.{last_no_task, last_at_start, last_at}
use Rattle.board.proofs.fetch.last_number.Goals as goal
use Rattle.board.proofs.fetch.last_number.Goals.{then-t-eq0-via-then-t-eq0, then-t-eq0-via-else-t-eq0+then-pc-lt2}

pub returns-then-t-eq0 : goal.returns-then-t-eq0
returns-then-t-eq0 c =
    elim c.then-t-eq0.branch [
      | then-t-eq0-via-then-t-eq0 w ↦ sym (last_no_task _ _ _ w.if-t-eq0.true)
      | then-t-eq0-via-else-t-eq0+then-pc-lt2 w ↦ sym (last_at_start _ _ _ (omega arith) w.if-pc-lt2.true)
    ]

pub returns : goal.returns
returns c = last_at _ _ _ _ _ refl refl (omega arith) (omega arith)
