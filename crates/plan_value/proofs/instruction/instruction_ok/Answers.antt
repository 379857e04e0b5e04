-- `instruction::instruction_ok` is the test of one instruction, kind by kind.
use mathlib.Core.Path.{refl, sym}
use native.Mathlib.Omega.{arith}
use borrow.Author.Tests.{le-leb, lt-leb, eq-eqb}
use Rattle.plan_value.proofs.ByKind.{ok_create, ok_zero, ok_channel, ok_word, ok_level, ok_unknown, new_old, new_repeat, new_end, new_unknown, new_level}
use Rattle.plan_value.proofs.instruction.instruction_ok.Goals as goal

pub returns-then-level-ne0 : goal.returns-then-level-ne0
returns-then-level-ne0 c =
    let a = c.args in
    sym (new_level a.tasks a.x (omega arith) (λ e. omega arith))

pub returns-then-opcode-eq-REPEAT : goal.returns-then-opcode-eq-REPEAT
returns-then-opcode-eq-REPEAT c =
    let w = c.before.before.before.before in
    let a = w.args in
    rw (new_repeat a.tasks a.x (omega arith), eq-eqb a.x.level 0 (omega arith), c.is_within.ensures, w.wide16-operand.ensures) refl

pub returns-then-opcode-eq-REPEAT_END : goal.returns-then-opcode-eq-REPEAT_END
returns-then-opcode-eq-REPEAT_END c =
    let w = c.before.before.before.before in
    let a = w.args in
    rw (new_end a.tasks a.x (omega arith), eq-eqb a.x.level 0 (omega arith), w.wide16-operand.ensures) refl

pub returns-then-opcode-gt-ADD : goal.returns-then-opcode-gt-ADD
returns-then-opcode-gt-ADD c =
    let a = c.args in
    sym (new_unknown a.tasks a.x (omega arith))

pub returns-then-level-gt3 : goal.returns-then-level-gt3
returns-then-level-gt3 c =
    let a = c.args in
    rw (new_old a.tasks a.x (omega arith), ok_word a.tasks a.x (omega arith) (omega arith), lt-leb a.x.level 3 (omega arith)) refl

pub returns-then-opcode-ge-SET : goal.returns-then-opcode-ge-SET
returns-then-opcode-ge-SET c =
    let w = c.before.before.before.before in
    let a = w.args in
    rw (new_old a.tasks a.x (omega arith), ok_word a.tasks a.x (omega arith) (omega arith), le-leb a.x.level 3 (omega arith), c.is_within-then-opcode-ge-SET.ensures, w.wide16-operand.ensures)
    refl

pub returns-then-level-ne0-2 : goal.returns-then-level-ne0-2
returns-then-level-ne0-2 c =
    let a = c.args in
    rw (new_old a.tasks a.x (omega arith)) (sym (ok_level a.tasks a.x (omega arith) (λ e. omega arith)))

pub returns-then-opcode-ge-SEND : goal.returns-then-opcode-ge-SEND
returns-then-opcode-ge-SEND c =
    let w = c.before.before.before.before.before in
    let a = w.args in
    rw (new_old a.tasks a.x (omega arith), ok_channel a.tasks a.x (omega arith) (omega arith) (omega arith), c.is_within-then-opcode-ge-SEND.ensures, w.wide16-operand.ensures)
    refl

pub returns-then-opcode-ge-SYNC : goal.returns-then-opcode-ge-SYNC
returns-then-opcode-ge-SYNC c =
    let w = c.before.before.before.before.before in
    let a = w.args in
    rw (new_old a.tasks a.x (omega arith), ok_zero a.tasks a.x (omega arith) (omega arith) (omega arith) (omega arith), w.wide16-operand.ensures) refl

pub returns-then-opcode-ge-CREATE : goal.returns-then-opcode-ge-CREATE
returns-then-opcode-ge-CREATE c =
    let w = c.before.before.before.before.before.before.before.before in
    let a = w.args in
    rw (
      new_old a.tasks a.x (omega arith),
      ok_create a.tasks a.x (omega arith) (omega arith) (omega arith),
      c.is_within-then-opcode-ge-CREATE.ensures,
      c.wide8.ensures,
      w.wide16-operand.ensures,
    )
    refl

pub returns : goal.returns
returns c =
    let a = c.args in
    rw (new_old a.tasks a.x (omega arith)) (sym (ok_unknown a.tasks a.x (λ k p q e. omega arith)))
