-- `pass::all_created` tests the parent of each task but the first.
use mathlib.Core.Path.{◌≡◌, refl, ◌∙◌}
use Prim.Native.Nat.{suc, ◌+◌, ◌-◌}
use native.Mathlib.Omega.{arith}
use Rattle.plan_value.proofs.Changes.{all_have_parents}
use Rattle.plan_value.proofs.pass.all_created.Goals as goal

pub returns : goal.returns
returns c =
    let a = c.args in
    let n : a.tasks + 1 - 2 ≡ a.tasks - 1 = omega arith in
    let m : suc (a.tasks - 1) ≡ a.tasks = omega arith in
    c.are_some.ensures ∙ rw (n, all_have_parents (a.tasks - 1) a.parents.now (omega arith), m) refl
