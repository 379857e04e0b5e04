use Prim.Native.Nat.{◌+◌, ◌*◌}
use mathlib.Core.Path.{◌≡◌, refl, sym, ◌∙◌, ap}
use native.Mathlib.Omega.{arith}
use lib.ListN.{length, get_or}
use Rattle.plan.specs.Programs.{code_of}
use Rattle.plan.specs.Files.{file_instruction}
use Rattle.plan_value.proofs.Sized.{few_tasks, count_few}
use Rattle.plan_file.specs.Code.{programs_in}
use Rattle.plan_file.proofs.Instructions.{code_tasks, code_count, code_instruction, place_first, place_row, place_inside, no_codes, next_code, rest_codes, all_codes}
use Rattle.plan_file.proofs.code.read_code.Goals as goal

pub loop-k-init : goal.loop-k-init
loop-k-init c =
    let a = c.args in
    (few_tasks a.tasks a.lengths.now c.requires.0.sizes, refl, omega arith, place_first a.lengths.now, c.requires.1 ∙ no_codes (programs_in a.file.now a.tasks a.lengths.now))

pub loop-i-init : goal.loop-i-init
loop-i-init c =
    let inv = c.loop-k.invariant in
    let e : 64 * c.loop-k.k + 0 ≡ 64 * c.loop-k.k = omega arith in (
      count_few c.args.tasks c.args.lengths.now c.requires.0.sizes c.loop-k.k (omega arith),
      omega arith,
      inv.0,
      omega arith,
      inv.3,
      rw e inv.4,
      refl,
    )

pub fetch-requires : goal.fetch-requires
fetch-requires c =
    let inside = place_inside c.args.lengths.now c.args.tasks c.loop-k.k c.loop-i.i (omega arith) (omega arith) in
    omega (arith, inside, c.loop-i.invariant.4, c.requires.0.bytes)

pub loop-i-preserved : goal.loop-i-preserved
loop-i-preserved c =
    let a = c.args in
    let b = a.file.now in
    let lengths = a.lengths.now in
    let k = c.loop-k.k in
    let i = c.loop-i.i in
    let inv = c.loop-i.invariant in
    let here : c.fetch.result ≡ _ =
    c.fetch.ensures ∙ ap (file_instruction b) inv.4 ∙ sym (code_instruction b a.tasks lengths k i (omega arith) (omega arith)) in (
      inv.0,
      inv.1,
      inv.2,
      omega arith,
      omega (arith, inv.4),
      next_code (programs_in b a.tasks lengths) k i c.loop-i.codes (omega arith) (omega arith) (c.code.ensures ∙ ap code_of here) inv.5,
      inv.6,
    )

pub loop-k-preserved : goal.loop-k-preserved
loop-k-preserved c =
    let a = c.args in
    let k = c.loop-k.k in
    let inv = c.loop-i.invariant in
    let m = programs_in a.file.now a.tasks a.lengths.now in
    let e : c.loop-i.i ≡ get_or a.lengths.now k 0 = omega arith in
    let d = e ∙ sym (code_count a.file.now a.tasks a.lengths.now k (omega arith)) in
    (inv.2, refl, omega arith, inv.4 ∙ rw e (place_row a.lengths.now k), inv.5 ∙ rw d (rest_codes m k (rw (← d) (omega arith))))

pub returns : goal.returns
returns c =
    let a = c.args in
    let tasks = code_tasks a.file.now a.tasks a.lengths.now in
    let m = programs_in a.file.now a.tasks a.lengths.now in
    let e : c.loop-k.k ≡ length m = omega (arith, tasks) in
    c.loop-k.invariant.4 ∙ rw e (all_codes m (omega (arith, tasks)))
