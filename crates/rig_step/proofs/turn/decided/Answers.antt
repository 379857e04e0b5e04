-- `decided` says of a step what the step says.
use mathlib.Core.Path.{◌≡◌, sym, ap, ◌∙◌}
use mathlib.Core.List.{List}
use Prim.Native.Nat.{ℕ, ◌-◌, ◌≤◌}
use Rattle.rules.specs.declared.message.Network.{Network}
use Rattle.rules.specs.declared.step.Step.{Step}
use Rattle.board.specs.declared.act.Size.{Size}
use native.Mathlib.Omega.{arith}
use Rattle.rules.specs.Networks.{message_at}
use Rattle.rig_parts.proofs.BoundsParts.{used_few}
use Rattle.rig_parts.proofs.Bounds.{message_ok_lem}
use Rattle.network.specs.Positions.{position_of}
use Rattle.board.specs.Lent.{Lent, lent, tasks_of, kept_of}
use Rattle.board.specs.Acted.{act_of}
use Rattle.board.specs.Verdicts.{step_verdict}
use Rattle.board.specs.Rigs.{facts_in}
use Rattle.rig_step.proofs.Reports.{other_says, message_says, rig_on}
use Rattle.rig_step.proofs.turn.decided.Goals as goal
use Rattle.rig_step.specs.Rigs.{RigWith}

-- the position of the letter that the step delivers
at : {codes numbers users : List ℕ} {n : Size} {k : Network} {l : Lent} {p : ℕ} (s : Step) → RigWith codes numbers users n k l → p ≡ position_of n.used s → p ≡ position_of k.used s
at s g e = e ∙ ap (λ (u : ℕ). position_of u s) g.messages

few : {codes numbers users : List ℕ} {n : Size} {k : Network} {l : Lent} {p : ℕ} → RigWith codes numbers users n k l → p ≤ n.used → (p ≤ k.used) × (p ≤ 256)
few g e = omega (arith, e, g.messages, used_few g.rig.parts)

pub offset_bounds-network-p : goal.offset_bounds-network-p
offset_bounds-network-p c = omega (arith, few c.requires c.position-p.ensures.1)

pub bounds-network-p : goal.bounds-network-p
bounds-network-p c = omega (arith, few c.requires c.position-p.ensures.1, c.if-p-ne0.true)

pub message_decided-r-requires : goal.message_decided-r-requires
message_decided-r-requires c =
    let a = c.args in
    let g = c.requires in
    record {
      numbers = a.numbers.now;
      size = a.n;
      rig = rig_on g;
      ok = unfold message_at in message_ok_lem g.rig c.position-p.result (omega (arith, c.if-p-ne0.true)) (few g c.position-p.ensures.1).0;
    }

pub returns-then-p-ne0 : goal.returns-then-p-ne0
unfolding message_at
returns-then-p-ne0 c =
    let a = c.args in
    let l = lent a.hintprocessors.now a.hintmoves.now a.heldprocessors.now a.heldnumbers.now a.notes.now a.board.now in
    message_says (facts_in a.n.tasks a.codes.now a.numbers.now a.users.now) a.n.processors (tasks_of l) a.network (kept_of l) a.s
    c.position-p.result
    (at a.s c.requires c.position-p.ensures.0)
    c.if-p-ne0.true
    (c.message_decided-r.ensures a.n.tasks a.numbers.now)

pub step_decided-r-requires : goal.step_decided-r-requires
step_decided-r-requires c = rig_on c.requires

pub returns : goal.returns
returns c =
    let a = c.args in
    let l = lent a.hintprocessors.now a.hintmoves.now a.heldprocessors.now a.heldnumbers.now a.notes.now a.board.now in
    let f = facts_in a.n.tasks a.codes.now a.numbers.now a.users.now in
    other_says f a.n.processors (tasks_of l) a.network (kept_of l) a.s
    (sym (at a.s c.requires c.position-p.ensures.0) ∙ c.if-p-ne0.false)
    (c.step_decided-r.ensures ∙ ap (λ (u : ℕ). act_of (step_verdict f a.n.processors (tasks_of l) (kept_of l) u a.s)) c.requires.messages)
