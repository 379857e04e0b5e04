-- `make`: the step on what is lent, and then the mail's bytes.
use Rattle.live_rig.proofs.Making.{rig_live, mail_long, few_used, few_desks, post_room, post_long, step_left}
use Rattle.live_rig.proofs.make.make.Goals as goal

pub act_on-r-requires : goal.act_on-r-requires
act_on-r-requires c =
    let p = c.requires in
    (p.some.accepted, record { network = p.some.system.network; rig = rig_live p.some.on; message = p.letter })

pub take_letter-left-requires : goal.take_letter-left-requires
take_letter-left-requires c =
    let o = c.requires.some.on in
    (mail_long o, c.position.ensures.1, few_used o)

pub post_letters-used-requires : goal.post_letters-used-requires
post_letters-used-requires c =
    let t = c.before.before.before in
    let a = t.before.before.before.before in
    let p = a.requires in
    let s = a.args in
    let h = post_room p.some.on s.s s.letter p.letter a.act_on-r.result a.act_on-r.ensures t.position.ensures.0 t.take_letter-left.ensures.1 in
    (post_long p.some.on s.s s.letter p.letter a.act_on-r.result a.act_on-r.ensures t.position.ensures.0 t.take_letter-left.ensures.1, few_desks p.some.on, h)

pub returns : goal.returns
returns c last r o given =
    let q = c.before.before in
    let t = q.before.before.before.before in
    let a = t.before.before.before.before in
    let s = a.args in
    step_left o s.s s.letter given a.act_on-r.result a.act_on-r.ensures t.position.ensures.0 t.take_letter-left.ensures.1 q.post_letters-used.ensures t.posting_fits.ensures
