-- `numbered` carries out a step with the numbers that it derives.
use mathlib.Core.Path.{refl, sym, subst}
use mathlib.Core.List.{List}
use Prim.Native.Nat.{ℕ}
use Rattle.board.specs.Lent.{Lent, lent}
use Rattle.board.specs.Rigs.{RigOn}
use Rattle.rig_step.specs.Acts.{OtherDone}
use Rattle.rig_step.proofs.act.numbered.Goals as goal
use Rattle.rig_step.proofs.act.numbered.Goals.{Start}

pub put_numbers-requires : goal.put_numbers-requires
put_numbers-requires c = (c.requires.0, refl)

-- what is lent when the step begins
abbrev here : Start → Lent
here c = let a = c.args in lent a.hintprocessors.now a.hintmoves.now a.heldprocessors.now a.heldnumbers.now a.notes.now a.board.now

pub other-requires : goal.other-requires
other-requires c =
    let put = c.before.before.before.before.before.before.before in
    let start = put.before.before in
    let a = start.args in
    subst (λ (z : List ℕ). RigOn a.codes.now z a.users.now a.n (here start)) (sym put.put_numbers.ensures) start.requires.1

pub returns : goal.returns
returns c =
    let put = c.before.before.before.before.before.before.before.before in
    let start = put.before.before in
    let a = start.args in
    let left = lent c.other.new.hintprocessors c.other.new.hintmoves c.other.new.heldprocessors c.other.new.heldnumbers c.other.new.notes c.other.new.board in
    subst (λ (z : List ℕ). OtherDone a.codes.now z a.users.now a.n a.s (here start) c.other.result left) put.put_numbers.ensures
    c.other.ensures
