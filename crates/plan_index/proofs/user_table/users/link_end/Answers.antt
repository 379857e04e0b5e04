-- `link_end`: a channel without a task, and one with a task.
use mathlib.Core.Path.{◌≡◌, ap, ◌∙◌}
use mathlib.Core.List.{List}
use Prim.Native.Nat.{ℕ, ◌+◌, ◌≤◌}
use native.Mathlib.Omega.{arith}
use lib.ListN.{set}
use Rattle.plan_index.proofs.user_table.Building.{end_apart, end_none}
use Rattle.plan_index.proofs.user_table.users.link_end.Goals as goal

pub returns-then-t-eq0 : goal.returns-then-t-eq0
returns-then-t-eq0 c =
    let s = c.before in
    let a = s.args in
    let z : a.t ≡ 0 = c.if-t-eq0.true in
    rw z (end_none a.users.now a.c a.none a.end a.first a.next (rw z at s.requires.0) s.requires.1)

pub returns : goal.returns
returns c =
    let e = c.before.before in
    let s = e.before in
    let a = s.args in
    let at = s.requires.0 in
    let some : 1 ≤ a.t = omega (arith, e.if-t-eq0.false) in
    ap (λ (l : List ℕ). set l (640 + a.first) a.none) c.put_end.ensures
    ∙ end_apart a.users.now a.c a.t a.end a.first a.next at (640 + a.first) a.none (omega arith) (omega arith) (omega arith)
