use Prim.Native.Nat.{ℕ, ◌+◌, ◌*◌, ◌<◌, ◌-◌}
use mathlib.Core.Path.{◌≡◌, refl, sym, ◌∙◌, ap}
use native.Mathlib.Omega.{arith}
use borrow.Author.Tests.{not-true, not-false}
use lib.ListN.{length, get_or}
use lib.Dec.{eqb}
use Rattle.plan.specs.declared.Instruction.{Instruction}
use Rattle.plan.specs.declared.Plan.{Plan}
use Rattle.plan.specs.Programs.{programs}
use Rattle.plan.specs.Layout.{count_of}
use Rattle.plan.proofs.Parts.{tasks_of_lem, count_of_lem, instruction_of_lem}
use Rattle.plan_value.specs.declared.instruction.Edition.{Edition}
use Rattle.plan_value.specs.declared.pass.Entry.{Entry}
use Rattle.plan_value.specs.Editions.{present_edition}
use Rattle.plan_value.specs.Pass.{seen, next_seen, entry_at}
use Rattle.plan_value.specs.Slots.{slot_in, plan_in}
use Rattle.plan_value.proofs.Sized.{few_tasks, count_few}
use Rattle.plan_value.proofs.Taken.{pass_counted}
use Rattle.plan_value.proofs.Entries.{entry_is, pass_start, pass_row, pass_more, pass_stops, pass_ends}
use Rattle.plan_value.proofs.slots.pass_slots.Goals as goal

-- an instruction that is read, where it stands
abbrev entry : Plan → ℕ → ℕ → Instruction → Entry
entry p k i r = record { task = k + 1; last = eqb i (get_or p.lengths k 0 - 1); instruction = r }

-- it is the plan's
here : (p : Plan) (k i : ℕ) (r : Instruction) → k < p.tasks → i < get_or p.lengths k 0 → r ≡ slot_in p.codes (64 * k + i)
    → entry p k i r ≡ entry_at (programs p) k i
here p k i r task place e =
    entry_is (programs p) k i refl (sym (count_of_lem p k task)) (e ∙ sym (instruction_of_lem p k i task place))

pub loop-k-init : goal.loop-k-init
loop-k-init c =
    let a = c.args in
    (few_tasks a.tasks a.lengths.now c.requires.0, refl, rw c.new-p.ensures (pass_start (programs (plan_in a.tasks a.lengths.now a.codes.now)) present_edition a.tasks c.requires.1))

pub loop-i-init : goal.loop-i-init
loop-i-init c =
    let inv = c.loop-k.invariant in
    (count_few c.args.tasks c.args.lengths.now c.requires.0 c.loop-k.k (omega arith), omega arith, inv.0, refl, inv.2)

pub next-p-requires : goal.next-p-requires
next-p-requires c =
    let p = c.loop-i.invariant.4 in
    (rw p.size (omega arith), omega arith, pass_counted p)

pub returns-then-not-p : goal.returns-then-not-p
returns-then-not-p c =
    let a = c.args in
    let p = plan_in a.tasks a.lengths.now a.codes.now in
    let l = c.loop-i in
    let k = c.loop-k.k in
    let x = entry p k l.i c.of.result in
    let task : k < p.tasks = omega arith in
    let place : l.i < get_or p.lengths k 0 = omega arith in
    let next = c.next-p.ensures ∙ ap (λ (e : Edition). next_seen e x (seen l.p l.parents l.senders l.receivers)) c.present-edition.ensures in
    pass_stops (programs p) present_edition p.tasks k l.i l.invariant.4 x (here p k l.i c.of.result task place c.of.ensures)
    (seen c.next-p.result c.next-p.new.parents c.next-p.new.senders c.next-p.new.receivers) next refl
    (sym (tasks_of_lem p)) (rw (tasks_of_lem p) task) (rw (count_of_lem p k task) place) (not-true c.next-p.result.instructions c.if-not-p.true)

pub loop-i-preserved : goal.loop-i-preserved
loop-i-preserved c =
    let a = c.args in
    let p = plan_in a.tasks a.lengths.now a.codes.now in
    let l = c.loop-i in
    let inv = l.invariant in
    let k = c.loop-k.k in
    let x = entry p k l.i c.of.result in
    let task : k < p.tasks = omega arith in
    let place : l.i < get_or p.lengths k 0 = omega arith in
    let next = c.next-p.ensures ∙ ap (λ (e : Edition). next_seen e x (seen l.p l.parents l.senders l.receivers)) c.present-edition.ensures in (
      inv.0,
      inv.1,
      inv.2,
      inv.3,
      pass_more (programs p) present_edition p.tasks k l.i inv.4 x (here p k l.i c.of.result task place c.of.ensures)
          (seen c.next-p.result c.next-p.new.parents c.next-p.new.senders c.next-p.new.receivers) next (omega arith)
          (not-false c.next-p.result.instructions c.if-not-p.false),
    )

pub loop-k-preserved : goal.loop-k-preserved
loop-k-preserved c =
    let a = c.args in
    let p = plan_in a.tasks a.lengths.now a.codes.now in
    let inv = c.loop-i.invariant in
    let e : c.loop-i.i ≡ count_of (programs p) c.loop-k.k = omega (arith, count_of_lem p c.loop-k.k (omega arith)) in
    (inv.2, refl, pass_row (programs p) present_edition a.tasks c.loop-k.k (rw e at inv.4))

pub returns : goal.returns
returns c =
    let a = c.args in
    let p = plan_in a.tasks a.lengths.now a.codes.now in
    let e : c.loop-k.k ≡ length (programs p) = omega (arith, tasks_of_lem p) in
    pass_ends (programs p) present_edition a.tasks (sym (tasks_of_lem p)) (rw e at c.loop-k.invariant.2)
