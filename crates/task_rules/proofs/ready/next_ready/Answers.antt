-- `next_ready` is the search in order.
use native.Mathlib.Omega.{arith}
use mathlib.Core.Path.{refl, sym, ap}
use lib.Count.{count_trailing_zeros}
use Rattle.task_rules.proofs.Finding.{next_later, next_round, next_none}
use Rattle.task_rules.proofs.ready.next_ready.Goals as goal

pub returns-then-below-m : goal.returns-then-below-m
returns-then-below-m c =
    let a = c.args in
    sym (next_later a.m a.last a.s (omega arith) (omega arith) (ap (count_trailing_zeros 64) c.above-later.ensures) refl (omega arith))

pub returns-then-first-last : goal.returns-then-first-last
returns-then-first-last c =
    let a = c.args in
    sym (next_round a.m a.last a.s (omega arith) (omega arith) (ap (count_trailing_zeros 64) c.above-later.ensures) refl (omega arith) (omega arith))

pub returns : goal.returns
returns c =
    let a = c.args in
    sym (next_none a.m a.last a.s (omega arith) (omega arith) (ap (count_trailing_zeros 64) c.above-later.ensures) refl (omega arith) (omega arith))
