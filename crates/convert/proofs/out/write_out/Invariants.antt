-- `out::write_out` writes one task after the other. The loop's invariant: the slots and the counts are those of the first k.
use mathlib.Core.Path.{◌≡◌}
use Prim.Native.Nat.{◌*◌, ◌≤◌}
use Rattle.plan.specs.Repeats.{written_out_plan}
use Rattle.plan_file.specs.Code.{code_place, programs_in, codes_to}
use Rattle.convert.proofs.Slots.{counts_to}
use Rattle.convert.proofs.out.write_out.Given as goal

abbrev pub invariant-loop-k : goal.invariant-loop-k
invariant-loop-k l =
    (l.k-end ≡ l.tasks)
    × (l.tasks ≤ 64)
    × (l.at ≡ code_place l.lengths l.k 0)
    × (l.counts ≡ counts_to (written_out_plan (programs_in l.file l.tasks l.lengths)) l.k)
    × (l.codes ≡ codes_to (written_out_plan (programs_in l.file l.tasks l.lengths)) (64 * l.k))
