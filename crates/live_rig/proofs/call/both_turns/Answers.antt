-- `both_turns`: the delivery, and then the run.
use Rattle.live_rig.proofs.call.both_turns.Goals as goal

pub delivery_turn-a-requires : goal.delivery_turn-a-requires
delivery_turn-a-requires c =
    let p = c.requires in
    record { last = _; some = p.runs.some; letter = p.letter }

pub run_turn-b-requires : goal.run_turn-b-requires
run_turn-b-requires c =
    let p = c.requires in
    record {
      some =
          record {
            accepted = p.runs.some.accepted;
            system = _;
            on = (c.delivery_turn-a.ensures _ _ c.args.d p.runs.some.on p.letter p.position).on;
          };
      first = p.runs.first;
      most = p.runs.most;
    }

pub returns : goal.returns
returns c r o given e =
    let x = c.delivery_turn-a.ensures _ _ c.args.d o given e in
    let y = c.run_turn-b.ensures _ x.on in
    record { delivery = x.turn; run = record { turn = y.turn; on = y.on } }
