-- `delivery_turn`: the earliest letter for the desk is delivered.
use mathlib.Core.Path.{sym, ◌∙◌}
use Rattle.dispatch.proofs.Turns.{no_delivery, some_delivery}
use Rattle.dispatch.proofs.delivery_turn.Goals as goal

pub returns-then-p-eq0 : goal.returns-then-p-eq0
returns-then-p-eq0 c =
    no_delivery c.args.r c.args.d (sym c.earliest-p.ensures ∙ c.if-p-eq0.true)

pub returns : goal.returns
returns c =
    some_delivery c.args.r c.args.d c.earliest-p.ensures c.if-p-eq0.false c.made.result c.made.ensures
