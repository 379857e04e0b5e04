use mathlib.Core.Path.{◌≡◌, sym, ◌∙◌}
use Prim.Native.Nat.{◌<◌}
use native.Mathlib.Omega.{arith}
use lib.ListN.{length}
use Rattle.plan.specs.Programs.{instruction_at}
use Rattle.convert.specs.Tasks.{task_in}
use Rattle.convert.proofs.Finding.{task_length, task_instruction}
use Rattle.convert.proofs.Writing.{put_start, put_end, put_less, put_mark, put_room, put_plain}
use Rattle.convert.proofs.out.write_task.Goals as goal
use Rattle.convert.proofs.out.write_task.Goals.{then-not-is_mark, else-not-is_mark}

pub loop-s-init : goal.loop-s-init
loop-s-init c =
    let a = c.args in
    rw c.new-s.ensures (put_start (task_in a.file.now a.at a.count) c.requires.4 a.first a.codes.now c.requires.3 c.requires.2)

pub overflow_add-codes : goal.overflow_add-codes
overflow_add-codes c =
    let a = c.args in
    let g = task_in a.file.now a.at a.count in
    let more : c.loop-s.s.at < length g = rw (task_length a.file.now a.at a.count) (omega arith) in
    let here : c.fetch-x.result ≡ instruction_at g c.loop-s.s.at =
    c.fetch-x.ensures ∙ sym (task_instruction a.file.now a.at a.count c.loop-s.s.at (omega arith)) in
    let few : c.loop-s.w < 64 = put_room g c.requires.4 a.first a.codes.now c.requires.3 c.requires.2 c.loop-s.invariant c.fetch-x.result here more (sym c.if-not-is_mark.ensures) in
    omega (arith, few)

pub bounds-codes-first : goal.bounds-codes-first
bounds-codes-first c =
    let a = c.args in
    let g = task_in a.file.now a.at a.count in
    let more : c.loop-s.s.at < length g = rw (task_length a.file.now a.at a.count) (omega arith) in
    let here : c.fetch-x.result ≡ instruction_at g c.loop-s.s.at =
    c.fetch-x.ensures ∙ sym (task_instruction a.file.now a.at a.count c.loop-s.s.at (omega arith)) in
    let few : c.loop-s.w < 64 = put_room g c.requires.4 a.first a.codes.now c.requires.3 c.requires.2 c.loop-s.invariant c.fetch-x.result here more (sym c.if-not-is_mark.ensures) in
    omega (arith, few)

pub overflow_add-w : goal.overflow_add-w
overflow_add-w c =
    let a = c.args in
    let g = task_in a.file.now a.at a.count in
    let more : c.loop-s.s.at < length g = rw (task_length a.file.now a.at a.count) (omega arith) in
    let here : c.fetch-x.result ≡ instruction_at g c.loop-s.s.at =
    c.fetch-x.ensures ∙ sym (task_instruction a.file.now a.at a.count c.loop-s.s.at (omega arith)) in
    let few : c.loop-s.w < 64 = put_room g c.requires.4 a.first a.codes.now c.requires.3 c.requires.2 c.loop-s.invariant c.fetch-x.result here more (sym c.if-not-is_mark.ensures) in
    omega (arith, few)

pub loop-s-smaller : goal.loop-s-smaller
loop-s-smaller c =
    let a = c.args in
    let g = task_in a.file.now a.at a.count in
    let more : c.loop-s.s.at < length g = rw (task_length a.file.now a.at a.count) (omega arith) in
    let here : c.fetch-x.result ≡ instruction_at g c.loop-s.s.at =
    c.fetch-x.ensures ∙ sym (task_instruction a.file.now a.at a.count c.loop-s.s.at (omega arith)) in
    rw c.next-s.ensures (put_less g c.requires.4 a.first a.codes.now c.requires.3 c.requires.2 c.loop-s.invariant c.fetch-x.result here more)

pub loop-s-preserved : goal.loop-s-preserved
loop-s-preserved c =
    let a = c.args in
    let g = task_in a.file.now a.at a.count in
    let more : c.loop-s.s.at < length g = rw (task_length a.file.now a.at a.count) (omega arith) in
    let here : c.fetch-x.result ≡ instruction_at g c.loop-s.s.at =
    c.fetch-x.ensures ∙ sym (task_instruction a.file.now a.at a.count c.loop-s.s.at (omega arith)) in
    elim c.if-not-is_mark.branch [
      | then-not-is_mark w ↦
          rw (w.codes-is, w.w-is, c.next-s.ensures, w.code.ensures)
          (put_plain g c.requires.4 a.first a.codes.now c.requires.3 c.requires.2 c.loop-s.invariant c.fetch-x.result here more (sym w.if-not-is_mark.ensures))
      | else-not-is_mark w ↦
          rw (w.codes-is, w.w-is, c.next-s.ensures)
          (put_mark g c.requires.4 a.first a.codes.now c.requires.3 c.requires.2 c.loop-s.invariant c.fetch-x.result here more (sym w.if-not-is_mark.ensures))
    ]

pub returns : goal.returns
returns c =
    let a = c.args in
    put_end (task_in a.file.now a.at a.count) c.requires.4 a.first a.codes.now c.requires.3 c.requires.2 c.loop-s.invariant
    (rw (task_length a.file.now a.at a.count) (omega arith))
