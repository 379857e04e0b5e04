use mathlib.Core.Path.{refl}
use native.Mathlib.Omega.{arith}
use Rattle.network.proofs.Posted.{few_rounds}
use Rattle.rig_write.proofs.Posts.{no_round, next_round, all_rounds, round_room}
use borrow.Author.Rules.{rules}
use Rattle.rig_write.proofs.mail.post_letters.Goals as goal

pub loop-j-init : goal.loop-j-init
loop-j-init c = let a = c.args in (search rules, refl, no_round a.x a.mail.now a.used)

pub post_round-free-requires : goal.post_round-free-requires
post_round-free-requires c =
    let a = c.args in
    let few = few_rounds a.processors a.x c.requires.1 in
    let room = round_room a.x a.mail.now a.used a.processors c.loop-j.j (omega (arith, c.rounds-rounds.ensures)) c.requires.2 in
    (omega arith, omega (arith, few, c.rounds-rounds.ensures), omega (arith, room, c.loop-j.invariant.2.0))

pub loop-j-preserved : goal.loop-j-preserved
loop-j-preserved c =
    let a = c.args in
    (omega arith, search rules, next_round a.x a.mail.now a.used c.loop-j.j c.loop-j.free _ c.loop-j.mail _ (omega arith) c.loop-j.invariant.2 c.post_round-free.ensures.0 c.post_round-free.ensures.1)

pub returns : goal.returns
returns c =
    let a = c.args in
    all_rounds a.x a.mail.now a.used a.processors c.loop-j.j c.loop-j.free c.loop-j.mail (omega (arith, c.rounds-rounds.ensures)) c.requires.2 c.loop-j.invariant.2
