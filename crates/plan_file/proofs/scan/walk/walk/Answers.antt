use Prim.Native.Nat.{ℕ, ◌+◌, ◌≤◌, ◌<◌, ◌-◌}
use mathlib.Core.Path.{◌≡◌, refl, sym, ◌∙◌, ap}
use mathlib.Core.List.{List}
use native.Mathlib.Omega.{arith}
use borrow.Author.Tests.{not-true, not-false}
use lib.ListN.{length, get_or}
use lib.Dec.{eqb}
use Rattle.plan.specs.declared.Instruction.{Instruction}
use Rattle.plan.specs.Layout.{count_of}
use Rattle.plan.specs.Files.{file_instruction}
use Rattle.plan_value.specs.Pass.{entry_at}
use Rattle.plan_value.proofs.Sized.{few_tasks, count_few}
use Rattle.plan_value.proofs.Taken.{pass_counted}
use Rattle.plan_value.proofs.Entries.{entry_is, pass_start, pass_row, pass_more, pass_stops, pass_ends}
use Rattle.plan_file.specs.Code.{code_place, programs_in}
use Rattle.plan_file.proofs.Instructions.{code_tasks, code_count, code_instruction, place_first, place_row, place_inside}
use Rattle.plan_file.proofs.scan.walk.walk.Goals as goal

-- the entry of an instruction that was read
entry_read : (b : List ℕ) (n : ℕ) (lengths : List ℕ) (k i : ℕ) → k < n → i < get_or lengths k 0
    → {count at : ℕ} {x : Instruction} → count ≡ get_or lengths k 0 → at ≡ code_place lengths k i → x ≡ file_instruction b at
    → record { task = k + 1; last = eqb i (count - 1); instruction = x } ≡ entry_at (programs_in b n lengths) k i
entry_read b n lengths k i task place c p e =
    entry_is (programs_in b n lengths) k i refl (c ∙ sym (code_count b n lengths k task))
    (e ∙ ap (file_instruction b) p ∙ sym (code_instruction b n lengths k i task place))

pub loop-k-init : goal.loop-k-init
loop-k-init c =
    let lengths = c.args.lengths.now in
    let n = c.wide8-n.ensures in (
      omega arith,
      rw n (few_tasks c.args.tasks lengths c.requires.0.sizes),
      n,
      omega arith,
      place_first lengths,
      rw c.new-p.ensures (pass_start (programs_in c.args.file.now c.args.tasks lengths) c.args.edition c.args.tasks c.requires.1),
    )

pub bounds-lengths-k : goal.bounds-lengths-k
bounds-lengths-k c = omega arith

pub overflow_cast-t : goal.overflow_cast-t
overflow_cast-t c = omega arith

pub overflow_add-t : goal.overflow_add-t
overflow_add-t c = omega arith

pub loop-i-init : goal.loop-i-init
loop-i-init c =
    let inv = c.loop-k.invariant in
    let few : c.wide8-count.result ≤ 64 = rw c.wide8-count.ensures (count_few c.args.tasks c.args.lengths.now c.requires.0.sizes c.loop-k.k (omega arith)) in
    (omega arith, few, omega arith, inv.1, inv.2, c.wide8-count.ensures, omega arith, inv.4, inv.5)

pub fetch-x-requires : goal.fetch-x-requires
fetch-x-requires c =
    let inside = place_inside c.args.lengths.now c.args.tasks c.loop-k.k c.loop-i.i (omega arith) (omega arith) in
    omega (arith, inside, c.loop-i.invariant.7, c.requires.0.bytes)

pub overflow_sub-entry : goal.overflow_sub-entry
overflow_sub-entry c = omega arith

pub next-p-requires : goal.next-p-requires
next-p-requires c =
    let p = c.loop-i.invariant.8 in
    (rw p.size (omega arith), omega arith, pass_counted p)

pub returns-then-not-p : goal.returns-then-not-p
returns-then-not-p c =
    let b = c.args.file.now in
    let n = c.args.tasks in
    let lengths = c.args.lengths.now in
    let k = c.loop-k.k in
    let i = c.loop-i.i in
    let inv = c.loop-i.invariant in
    let tasks = code_tasks b n lengths in
    let task : k < n = omega arith in
    let place : i < get_or lengths k 0 = omega arith in
    pass_stops (programs_in b n lengths) c.args.edition n k i inv.8 _ (entry_read b n lengths k i task place inv.5 inv.7 c.fetch-x.ensures) _ c.next-p.ensures refl
    (sym tasks) (rw tasks task) (rw (code_count b n lengths k task) place) (not-true c.next-p.result.instructions c.if-not-p.true)

pub overflow_add-at : goal.overflow_add-at
overflow_add-at c = omega arith

pub overflow_add-i : goal.overflow_add-i
overflow_add-i c = omega arith

pub loop-i-smaller : goal.loop-i-smaller
loop-i-smaller c = omega arith

pub loop-i-preserved : goal.loop-i-preserved
loop-i-preserved c =
    let b = c.args.file.now in
    let n = c.args.tasks in
    let lengths = c.args.lengths.now in
    let k = c.loop-k.k in
    let i = c.loop-i.i in
    let inv = c.loop-i.invariant in
    let task : k < n = omega arith in
    let place : i < get_or lengths k 0 = omega arith in (
      omega arith,
      inv.1,
      inv.2,
      inv.3,
      inv.4,
      inv.5,
      omega arith,
      omega (arith, inv.7),
      pass_more (programs_in b n lengths) c.args.edition n k i inv.8 _ (entry_read b n lengths k i task place inv.5 inv.7 c.fetch-x.ensures) _ c.next-p.ensures (omega arith)
          (not-false c.next-p.result.instructions c.if-not-p.false),
    )

pub overflow_add-k : goal.overflow_add-k
overflow_add-k c = omega arith

pub loop-k-smaller : goal.loop-k-smaller
loop-k-smaller c = omega arith

pub loop-k-preserved : goal.loop-k-preserved
loop-k-preserved c =
    let b = c.args.file.now in
    let n = c.args.tasks in
    let lengths = c.args.lengths.now in
    let k = c.loop-k.k in
    let inv = c.loop-i.invariant in
    let more : k < n = omega arith in
    let e : c.loop-i.i ≡ get_or lengths k 0 = omega arith in
    let d : c.loop-i.i ≡ count_of (programs_in b n lengths) k = e ∙ sym (code_count b n lengths k more) in (
      omega arith,
      inv.3,
      inv.4,
      omega arith,
      inv.7 ∙ rw e (place_row lengths k),
      pass_row (programs_in b n lengths) c.args.edition n k (rw d at inv.8),
    )

pub returns : goal.returns
returns c =
    let a = c.args in
    let m = programs_in a.file.now a.tasks a.lengths.now in
    let tasks = code_tasks a.file.now a.tasks a.lengths.now in
    let e : c.loop-k.k ≡ length m = omega (arith, tasks) in
    pass_ends m a.edition a.tasks (sym tasks) (rw e at c.loop-k.invariant.5)
