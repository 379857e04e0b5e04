use mathlib.Core.Path.{◌∙◌}
use native.Mathlib.Omega.{arith}
use Rattle.rig_read.proofs.Slots.{offered_slot, advert_slot, call_slot, word_slot, ended_slot, mover_slot, empty_slot}
use Rattle.rig_read.proofs.check.slots.slot_ok.Goals as goal

pub returns-in-1 : goal.returns-in-1
returns-in-1 c =
    let a = c.args in
    c.offered_ok.ensures ∙ offered_slot a.n a.m a.v a.w (omega arith) (omega arith)

pub returns-in-2 : goal.returns-in-2
returns-in-2 c =
    let a = c.args in
    c.advert_ok.ensures ∙ advert_slot a.n a.m a.v a.w (omega arith) (omega arith)

pub returns-in-3 : goal.returns-in-3
returns-in-3 c =
    let a = c.args in
    c.call_ok.ensures ∙ call_slot a.n a.m a.v a.w (omega arith) (omega arith)

pub returns-in_default : goal.returns-in_default
returns-in_default c =
    let a = c.args in
    empty_slot a.n a.m a.v a.w (omega arith) (λ q. omega arith) (λ q. omega arith) (λ q. omega arith) (λ q. omega arith) (λ q. omega arith) (λ q. omega arith)

pub returns-in-4 : goal.returns-in-4
returns-in-4 c =
    let a = c.args in
    c.word_ok.ensures ∙ word_slot a.n a.m a.v a.w (omega arith) (omega arith) (omega arith)

pub returns-in-5 : goal.returns-in-5
returns-in-5 c =
    let a = c.args in
    c.ended_ok.ensures ∙ ended_slot a.n a.m a.v a.w (omega arith) (omega arith)

pub returns-in-6 : goal.returns-in-6
returns-in-6 c =
    let a = c.args in
    c.mover_ok.ensures ∙ mover_slot a.n a.m a.v a.w (omega arith) (omega arith)

pub returns-in_default-kind : goal.returns-in_default-kind
returns-in_default-kind c =
    let a = c.args in
    empty_slot a.n a.m a.v a.w (omega arith) (λ q. omega arith) (λ q. omega arith) (λ q. omega arith) (λ q. omega arith) (λ q. omega arith) (λ q. omega arith)
