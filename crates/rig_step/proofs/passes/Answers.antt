-- `passes` tests 9; the arrays of a rig have their sizes.
use lib.ListN.{length-map}
use Rattle.rules_laws.specs.Shapes.{Shaped}
use Rattle.rig_step.proofs.passes.Goals as goal
use Rattle.rig_step.proofs.passes.Goals.{Start}

-- the lengths of the rig's arrays
shaped : (c : Start) → Shaped c.args.r
shaped c =
    let f = c.well_formed.0.1.1 in
    let tasks = f.1.1.0.1.1 in
    let tables = f.1.1.1.0.1.1 in
    let channels = f.1.1.1.1.0.1.1 in
    let parents = f.1.1.1.1.1.0.1.1 in
    let network = f.1.1.1.1.1.1.0.1.1 in
    record {
      tasks = tasks.0.1.0.1;
      ready = tasks.1.0.1.0.1;
      chosen = f.1.1.1.1.1.1.1.0.1.0.1;
      hintprocessors = tables.0.1.0.1;
      hintmoves = tables.1.0.1.0.1;
      heldprocessors = tables.1.1.0.1.0.1;
      heldnumbers = tables.1.1.1.0.1.0.1;
      notes = tables.1.1.1.1.0.1.0.1;
      granted = channels.0.1.0.1;
      awaiting = channels.1.0.1.0.1;
      carriedprocessors = channels.1.1.0.1.0.1;
      carriednumbers = channels.1.1.1.0.1.0.1;
      travellingprocessors = channels.1.1.1.1.0.1.0.1;
      travellingmoves = channels.1.1.1.1.1.0.1.0.1;
      parentprocessors = parents.0.1.0.1;
      parentmoves = parents.1.0.1.0.1;
      parentheld = parents.1.1.0.1.0.1;
      slots = network.0.1.0.1;
    }

pub returns : goal.returns
returns c = (c.system_ok.ensures, shaped c.before)
