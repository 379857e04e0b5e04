-- A turn of a call, in the record of the code, is that of the definitions.
use Rattle.std.specs.Prelude.{◌≡◌}
use Rattle.rules.specs.declared.step.Step.{Step}
use Rattle.rules.specs.declared.system.System.{System}
use Rattle.rules.specs.Dispatch.{Turned, made}
use Rattle.dispatch.specs.declared.Turned.{Turned as Record}

pub record TurnedBy (o : Turned) (q : Record) : Type 0 where
  pub turn : q.turn ≡ o.turn
  pub system : q.system ≡ o.system

abbrev pub MadeBy : System → Step → Record → Type 0
MadeBy r s q = TurnedBy (made r s) q
