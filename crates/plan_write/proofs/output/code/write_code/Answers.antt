use mathlib.Core.Path.{◌≡◌, refl, ◌∙◌, ap}
use Prim.Native.Nat.{◌+◌, ◌*◌, ◌/◌, ◌%◌, ◌<◌, min}
use native.Mathlib.Omega.{arith}
use lib.ListN.{get_or}
use Rattle.base.proofs.Slots.{row_of, place_of}
use Rattle.plan.specs.declared.Instruction.{Instruction}
use Rattle.plan.specs.Layout.{instruction_bytes}
use Rattle.plan_write.specs.output.Output.{overlay}
use Rattle.plan_write.proofs.output.Slot.{slots_none, slots_room, slots_step, slots_row}
use Rattle.plan_write.proofs.output.code.write_code.Goals as goal

pub loop-k-init : goal.loop-k-init
loop-k-init c =
    let a = c.args in
    (refl, refl, slots_none a.out.now a.start a.lengths.now a.codes.now)

pub loop-i-init : goal.loop-i-init
loop-i-init c =
    let e : 64 * c.loop-k.k + 0 ≡ 64 * c.loop-k.k = omega arith in
    (omega arith, omega arith, c.loop-k.invariant.1, rw e c.loop-k.invariant.2)

pub put_instruction-requires : goal.put_instruction-requires
put_instruction-requires c =
    let a = c.args in
    let k = c.loop-k.k in
    let i = c.loop-i.i in
    let few : i < 64 = omega arith in
    let used : (64 * k + i) % 64 < get_or a.lengths.now ((64 * k + i) / 64) 0 = rw (row_of k i few, place_of k i few) (omega arith) in
    let room =
    slots_room a.out.now a.start a.lengths.now a.codes.now (64 * a.tasks) (64 * k + i) c.loop-i.at
    (omega arith) c.requires.1 c.loop-i.invariant.3.next used in
    omega (arith, room)

pub overflow_add-at : goal.overflow_add-at
overflow_add-at c =
    let a = c.args in
    let k = c.loop-k.k in
    let i = c.loop-i.i in
    let few : i < 64 = omega arith in
    let used : (64 * k + i) % 64 < get_or a.lengths.now ((64 * k + i) / 64) 0 = rw (row_of k i few, place_of k i few) (omega arith) in
    let room =
    slots_room a.out.now a.start a.lengths.now a.codes.now (64 * a.tasks) (64 * k + i) c.loop-i.at
    (omega arith) c.requires.1 c.loop-i.invariant.3.next used in
    omega (arith, room)

pub loop-i-preserved : goal.loop-i-preserved
loop-i-preserved c =
    let a = c.args in
    let k = c.loop-k.k in
    let i = c.loop-i.i in
    let few : i < 64 = omega arith in
    let used : (64 * k + i) % 64 < get_or a.lengths.now ((64 * k + i) / 64) 0 = rw (row_of k i few, place_of k i few) (omega arith) in
    let next : 64 * k + (i + 1) ≡ 64 * k + i + 1 = omega arith in (
      c.loop-i.invariant.0,
      c.loop-i.invariant.1,
      omega arith,
      rw next
          (slots_step a.out.now a.start a.lengths.now a.codes.now (64 * k + i) c.loop-i.at c.loop-i.out _
          (omega arith) c.loop-i.invariant.3 used
          (c.put_instruction.ensures ∙ ap (λ (x : Instruction). overlay c.loop-i.out c.loop-i.at (instruction_bytes x)) c.of.ensures)),
    )

pub loop-k-preserved : goal.loop-k-preserved
loop-k-preserved c =
    let a = c.args in
    let k = c.loop-k.k in
    let e : c.loop-i.i ≡ min (get_or a.lengths.now k 0) 64 = omega arith in
    (refl, c.loop-i.invariant.2, slots_row a.out.now a.start a.lengths.now a.codes.now k c.loop-i.at c.loop-i.out (rw e at c.loop-i.invariant.3))

pub shape_of-out : goal.shape_of-out
shape_of-out c = c.loop-k.invariant.1

pub returns : goal.returns
returns c =
    let e : c.loop-k.k ≡ c.args.tasks = omega arith in
    (rw e at c.loop-k.invariant.2).bytes
