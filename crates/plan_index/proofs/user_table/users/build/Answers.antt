use mathlib.Core.Path.{◌≡◌, sym, ◌∙◌}
use mathlib.Core.List.{List}
use Prim.Native.Nat.{ℕ, ◌-◌}
use native.Mathlib.Omega.{arith}
use lib.ListN.{get_or, length}
use Rattle.plan_index.proofs.user_table.Stages.{closed, closed_long, closed_first, closed_more, linked_long, stage_last, send_at, receive_at}
use Rattle.plan_index.proofs.user_table.users.build.Goals as goal

table_long : (users : List ℕ) (sent received : ℕ) → length (closed users sent received) ≡ 1024 → length users ≡ 1024
table_long users sent received long = sym (closed_long users sent received) ∙ long

pub loop-c-init : goal.loop-c-init
loop-c-init c =
    let a = c.args in
    rw (c.put_parents.ensures, c.requires.0) (closed_first a.senders.now a.receivers.now a.parents.now c.requires.1)

pub link_end-sent-requires : goal.link_end-sent-requires
link_end-sent-requires c =
    let a = c.args in
    let l = c.loop-c in
    (send_at a.senders.now a.receivers.now a.parents.now c.requires.1 (l.c - 1) (omega arith) (omega arith), table_long l.users l.sent l.received l.invariant.long)

pub link_end-received-requires : goal.link_end-received-requires
link_end-received-requires c =
    let a = c.args in
    let l = c.loop-c in
    let at = send_at a.senders.now a.receivers.now a.parents.now c.requires.1 (l.c - 1) (omega arith) (omega arith) in (
      receive_at a.senders.now a.receivers.now a.parents.now c.requires.1 (l.c - 1) (omega arith) (omega arith),
      linked_long l.users c.link_end-sent.new.users (l.c - 1) (get_or a.senders.now (l.c - 1) 0) 0 2 3 642 l.sent c.link_end-sent.result at c.link_end-sent.ensures (table_long l.users l.sent l.received l.invariant.long),
    )

pub loop-c-preserved : goal.loop-c-preserved
loop-c-preserved c =
    let a = c.args in
    let l = c.loop-c in
    closed_more a.senders.now a.receivers.now a.parents.now c.requires.1 (l.c - 1) (omega arith) (omega arith)
    l.users c.link_end-sent.new.users c.link_end-received.new.users l.sent c.link_end-sent.result l.received c.link_end-received.result c.link_end-sent.ensures c.link_end-received.ensures l.invariant

pub returns : goal.returns
returns c =
    let a = c.args in
    let e : c.loop-c.c - 1 ≡ 0 = omega arith in
    stage_last a.senders.now a.receivers.now a.parents.now c.requires.1 (closed c.loop-c.users c.loop-c.sent c.loop-c.received) (rw e at c.loop-c.invariant)
