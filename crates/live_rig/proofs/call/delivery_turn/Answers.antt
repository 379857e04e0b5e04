-- `delivery_turn`: the letter is delivered, if there is one.
use Rattle.live_rig.proofs.Calls.{no_letter, letter, delivers}
use Rattle.live_rig.proofs.call.delivery_turn.Goals as goal

pub returns-then-p-eq0 : goal.returns-then-p-eq0
returns-then-p-eq0 c last r d o given e = no_letter o d e c.if-p-eq0.true c.skipped.ensures.1 c.skipped.ensures.0

pub make-m-requires : goal.make-m-requires
make-m-requires c =
    let s = c.args in
    let p = c.requires in
    record { last = p.last; some = p.some; letter = delivers s.n p.some.system.network s.letter s.p p.letter }

pub returns : goal.returns
returns c last r d o given e =
    let s = c.args in
    letter o d e c.if-p-eq0.false (c.make-m.ensures last r o (delivers s.n r.network s.letter s.p given))
