-- `find::find` looks at one task after the other. The loop's invariant: what is found is that of the first k.
use mathlib.Core.Path.{◌≡◌}
use Prim.Native.Nat.{◌≤◌}
use Rattle.plan_file.specs.Code.{code_place, programs_in}
use Rattle.convert.specs.Marks.{FoundTo}
use Rattle.convert.proofs.find.find.Given as goal

abbrev pub invariant-loop-k : goal.invariant-loop-k
invariant-loop-k l =
    (l.k-end ≡ l.tasks)
    × (l.tasks ≤ 64)
    × (l.at ≡ code_place l.lengths l.k 0)
    × FoundTo (programs_in l.file l.tasks l.lengths) l.k l.found.paired l.found.creates l.found.short
