-- `act_on` opens the letter that the step delivers, or carries out another step.
use mathlib.Core.Path.{sym, ◌∙◌}
use mathlib.Core.Logic.{◌≢◌}
use mathlib.Core.List.{List}
use Prim.Native.Nat.{ℕ}
use Rattle.network.specs.Positions.{position_of}
use Rattle.board.specs.Lent.{Lent, lent}
use Rattle.rig_step.specs.Acts.{numbers_of}
use Rattle.rig_step.proofs.Reports.{rig_on}
use Rattle.rig_step.proofs.Acting.{opens_letter, delivery_carried_out, other_carried_out}
use Rattle.rig_step.proofs.act.act_on.Goals as goal
use Rattle.rig_step.proofs.act.act_on.Goals.{Start, Then-position-ne0}

-- what is lent when the step begins
abbrev here : Start → Lent
here c = let a = c.args in lent a.hintprocessors.now a.hintmoves.now a.heldprocessors.now a.heldnumbers.now a.notes.now a.board.now

-- the numbers of its plan
abbrev numbers : Start → List ℕ
numbers c = let a = c.args in numbers_of a.n.tasks a.lengths.now a.codes.now

-- a letter is delivered
some : (c : Then-position-ne0) → position_of c.args.n.used c.args.s ≢ 0
some c e = c.if-position-ne0.true (c.position.ensures.0 ∙ e)

pub deliver-requires : goal.deliver-requires
deliver-requires c =
    let t = c.before.before.before.before.before.before in
    opens_letter t.requires.1 (some t)

pub returns-then-position-ne0 : goal.returns-then-position-ne0
returns-then-position-ne0 c =
    let t = c.before.before.before.before.before.before.before in
    let start = t.before.before in
    let a = start.args in
    delivery_carried_out a.codes.now (numbers start) a.users.now a.n a.letter a.s (here start) _ _ (some t) c.deliver.ensures

pub other_on-requires : goal.other_on-requires
other_on-requires c =
    let e = c.before.before.before.before.before.before in
    let start = e.before.before in
    (start.requires.0, rig_on start.requires.1.rig)

pub returns : goal.returns
returns c =
    let e = c.before.before.before.before.before.before.before in
    let start = e.before.before in
    let a = start.args in
    other_carried_out a.codes.now (numbers start) a.users.now a.n a.letter a.s (here start) _ _
    (sym e.position.ensures.0 ∙ e.if-position-ne0.false)
    c.other_on.ensures
