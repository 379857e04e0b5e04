-- `write_accepted` writes an accepted plan, if the output has room for it.
use mathlib.Core.Path.{refl}
use native.Mathlib.Omega.{arith}
use Rattle.plan_write.proofs.Meaning.{sizes_of, short, written}
use Rattle.plan_write.proofs.write_accepted.Goals as goal

pub total_of-total-requires : goal.total_of-total-requires
total_of-total-requires c = let s = sizes_of c.args.p _ c.requires refl in (s.tasks, s.total)

pub overflow_mul-size : goal.overflow_mul-size
overflow_mul-size c = omega (arith, (sizes_of c.args.p _ c.requires refl).total)

pub overflow_add-size : goal.overflow_add-size
overflow_add-size c = omega (arith, (sizes_of c.args.p _ c.requires refl).total)

pub returns-then-out-size : goal.returns-then-out-size
returns-then-out-size c = short c.args.p c.args.p.tasks c.total_of-total.result c.requires refl c.total_of-total.ensures c.args.out.now c.if-out-size.true

pub overflow_cast-total : goal.overflow_cast-total
overflow_cast-total c = omega (arith, c.total_of-total.ensures, (sizes_of c.args.p _ c.requires refl).total)

pub write_entries-requires : goal.write_entries-requires
write_entries-requires c = let s = sizes_of c.args.p _ c.requires refl in (s.tasks, omega arith, s.total)

pub write_code-requires : goal.write_code-requires
write_code-requires c =
    let s = sizes_of c.args.p _ c.requires refl in
    (omega arith, omega arith)

pub returns : goal.returns
returns c =
    written c.args.p c.args.p.tasks c.total_of-total.result c.requires refl c.total_of-total.ensures c.args.out.now _ _ _ _
    c.if-out-size.false c.put_word.ensures c.put_word-2.ensures c.write_entries.ensures c.write_code.ensures
