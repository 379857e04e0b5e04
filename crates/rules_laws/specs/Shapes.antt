-- A rig whose arrays have their sizes.
use Rattle.std.specs.Prelude.{◌≡◌, length}
use Rattle.rules.specs.declared.system.System.{System}

pub record Shaped (r : System) : Type 0 where
  pub tasks : length r.tasks.records ≡ 64
  -- six desks
  pub ready : length r.tasks.ready ≡ 6
  pub chosen : length r.chosen ≡ 6
  -- six desks by 128 channels
  pub hintprocessors : length r.tables.hintprocessors ≡ 768
  pub hintmoves : length r.tables.hintmoves ≡ 768
  pub heldprocessors : length r.tables.heldprocessors ≡ 768
  pub heldnumbers : length r.tables.heldnumbers ≡ 768
  pub notes : length r.tables.notes ≡ 768
  -- 128 channels
  pub granted : length r.channels.granted ≡ 128
  pub awaiting : length r.channels.awaiting ≡ 128
  pub carriedprocessors : length r.channels.carriedprocessors ≡ 128
  pub carriednumbers : length r.channels.carriednumbers ≡ 128
  pub travellingprocessors : length r.channels.travellingprocessors ≡ 128
  pub travellingmoves : length r.channels.travellingmoves ≡ 128
  -- six desks by 64 tasks
  pub parentprocessors : length r.parents.hintprocessors ≡ 384
  pub parentmoves : length r.parents.hintmoves ≡ 384
  pub parentheld : length r.parents.held ≡ 384
  -- the mail
  pub slots : length r.network.slots ≡ 256
