-- `run_turn`: the next ready task is run.
use mathlib.Core.Path.{◌≡◌, sym, ◌∙◌}
use Rattle.rules.specs.Dispatch.{choice}
use Rattle.dispatch.proofs.Turns.{no_run, some_run}
use Rattle.dispatch.proofs.run_turn.Goals as goal
use Rattle.dispatch.proofs.run_turn.Goals.{After-next_ready-t}

pub next_ready-t-requires : goal.next_ready-t-requires
next_ready-t-requires c =
    (c.requires.2, c.requires.3)

-- the task that was found
found : (c : After-next_ready-t) → let a = c.args in c.next_ready-t.result ≡ choice a.r a.d
unfolding choice
found c = c.next_ready-t.ensures

pub returns-then-t-eq0 : goal.returns-then-t-eq0
returns-then-t-eq0 c =
    no_run c.args.r c.args.d (sym (found c.before) ∙ c.if-t-eq0.true)

pub returns : goal.returns
unfolding choice
returns c =
    some_run c.args.r c.args.d c.next_ready-t.ensures c.if-t-eq0.false c.made.result (rw c.choosing.ensures at c.made.ensures)
