-- `open_parts` reads the parts, and tests them.
use Rattle.live_rig.proofs.Opened.{opened, size_read_lem}
use Rattle.live_rig.proofs.open.open_parts.Goals as goal

pub read_parts-requires : goal.read_parts-requires
read_parts-requires c = (c.requires.0, c.requires.2)

pub passes-ok-requires : goal.passes-ok-requires
passes-ok-requires c =
    opened c.args.rig.now c.args.lengths.now c.args.codes.now c.args.tasks c.requires.0 c.requires.1 c.number4-used.ensures c.read_parts.ensures
    c.read_chosen-chosen.ensures

pub returns : goal.returns
returns c =
    record {
      ok = c.passes-ok.ensures;
      size = size_read_lem c.args.rig.now c.args.lengths.now c.args.codes.now c.args.tasks c.requires.0 c.requires.1 c.number4-used.ensures;
      parts = c.read_parts.ensures;
    }
