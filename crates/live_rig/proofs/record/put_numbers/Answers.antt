-- `put_numbers`: one behind the other.
use native.Mathlib.Omega.{arith}
use Rattle.live_rig.proofs.Records.{five_put}
use Rattle.live_rig.proofs.record.put_numbers.Goals as goal

pub returns : goal.returns
returns c =
    let five = c.before.before in
    let four = five.before.before.before.before in
    let three = four.before.before.before.before in
    let two = three.before.before.before.before in
    let one = two.before.before.before.before in
    let s = one.before.before.before in
    five_put s.args.out.now s.args.at s.args.c s.args.w.0 s.args.w.1 s.args.w.2 s.args.w.3 (omega arith)
    one.put_word.ensures
    two.put_word-2.ensures
    three.put_word-3.ensures
    four.put_word-4.ensures
    five.put_word-5.ensures
