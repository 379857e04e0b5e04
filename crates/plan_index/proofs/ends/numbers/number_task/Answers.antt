use mathlib.Core.List.{List}
use Prim.Native.Nat.{ℕ, ◌+◌, ◌*◌, ◌≤◌, ◌<◌}
use mathlib.Core.Path.{◌≡◌, refl, sym, ◌∙◌, ap}
use mathlib.Core.Logic.{◌≢◌}
use native.Mathlib.Omega.{arith}
use lib.ListN.{get_or}
use Rattle.plan.specs.declared.Instruction.{Instruction}
use Rattle.plan.specs.Kinds.{op_send}
use Rattle.plan_value.specs.Slots.{slot_in}
use Rattle.plan_index.specs.ends.Numbers.{SendsFit}
use Rattle.plan_index.proofs.ends.Numbering.{sent_none, numbers_none, sent_same, numbers_same, sent_more, number_few, numbers_more}
use Rattle.plan_index.proofs.ends.numbers.number_task.Goals as goal
use Rattle.plan_index.proofs.ends.numbers.number_task.Goals.{then-x-eq-SEND, else-x-eq-SEND}

pub loop-i-init : goal.loop-i-init
loop-i-init c =
    let a = c.args in
    (sent_none a.codes.now a.k a.sent.now c.requires.4, numbers_none a.codes.now a.k a.numbers.now c.requires.2)

-- what is read: a send, or another instruction, with its argument
module _ {r x : Instruction} (e : r ≡ x) where
  kind : r.opcode ≡ x.opcode
  kind = ap (λ (i : Instruction). i.opcode) e

  on : {c : ℕ} → c ≡ r.operand → c ≡ x.operand
  on h = h ∙ ap (λ (i : Instruction). i.operand) e

-- a send's channel
channel_fits : (codes : List ℕ) (k count : ℕ) → SendsFit codes k count → (i : ℕ) → i < count → {r : Instruction} → r ≡ slot_in codes (64 * k + i)
    → r.opcode ≡ op_send → {c : ℕ} → c ≡ r.operand → c ≤ 128
channel_fits codes k count fit i l e send h = omega (arith, fit i l (sym (kind e) ∙ send), on e h)

pub bounds-sent-c : goal.bounds-sent-c
bounds-sent-c c =
    let few = channel_fits c.args.codes.now c.args.k c.args.count c.requires.3 c.loop-i.i (omega arith) c.of-x.ensures c.if-x-eq-SEND.true refl in
    omega arith

pub overflow_add-n : goal.overflow_add-n
overflow_add-n c =
    let a = c.args in
    let i = c.loop-i.i in
    let send = sym (kind c.of-x.ensures) ∙ c.if-x-eq-SEND.true in
    let channel = on c.of-x.ensures refl in
    let fits = channel_fits c.args.codes.now c.args.k c.args.count c.requires.3 c.loop-i.i (omega arith) c.of-x.ensures c.if-x-eq-SEND.true refl in
    let unsent : get_or a.sent.now c.of-x.result.operand 0 ≡ 0 = rw channel (c.requires.5 i (omega arith) send) in
    let few = number_few a.codes.now a.k i send c.of-x.result.operand channel fits a.sent.now unsent c.loop-i.sent c.loop-i.invariant.0 in
    omega arith

pub bounds-sent-c-then-x-eq-SEND : goal.bounds-sent-c-then-x-eq-SEND
bounds-sent-c-then-x-eq-SEND c =
    let few = channel_fits c.args.codes.now c.args.k c.args.count c.requires.3 c.loop-i.i (omega arith) c.of-x.ensures c.if-x-eq-SEND.true refl in
    omega arith

pub loop-i-preserved : goal.loop-i-preserved
loop-i-preserved c =
    let a = c.args in
    let o = a.codes.now in
    let i = c.loop-i.i in
    let inv = c.loop-i.invariant in
    elim c.if-x-eq-SEND.branch [
      | then-x-eq-SEND w ↦
          let send = sym (kind c.of-x.ensures) ∙ w.if-x-eq-SEND.true in
          let n = c.of-x.result.operand in
          let channel = on c.of-x.ensures refl in
          let fits = c.requires.3 i (omega arith) send in
          let unsent : get_or a.sent.now n 0 ≡ 0 = rw channel (c.requires.5 i (omega arith) send) in
          let sent = sent_more o a.k i send n channel (omega arith) a.sent.now unsent c.loop-i.sent inv.0 in
          let numbers = numbers_more o a.k i send n channel (omega arith) a.sent.now unsent c.loop-i.sent inv.0 (omega arith) (omega arith) a.numbers.now c.loop-i.numbers inv.1 in
          (w.sent-is ∙ sent, w.numbers-is ∙ numbers)
      | else-x-eq-SEND w ↦
          let other : (slot_in o (64 * a.k + i)).opcode ≢ op_send = λ e. w.if-x-eq-SEND.false (kind c.of-x.ensures ∙ e) in
          (w.sent-is ∙ inv.0 ∙ sent_same o a.k i other a.sent.now, w.numbers-is ∙ inv.1 ∙ numbers_same o a.k i other a.numbers.now)
    ]

pub returns : goal.returns
returns c =
    let e : c.loop-i.i ≡ c.args.count = omega arith in
    (rw (← e) c.loop-i.invariant.1, rw (← e) c.loop-i.invariant.0)
