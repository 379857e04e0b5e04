-- `put_received`: the numbers of a word, or zeros.
use Rattle.rules.specs.Logs.{log_record}
use Rattle.live_rig.proofs.record.put_received.Goals as goal

pub returns-in-None : goal.returns-in-None
returns-in-None c = rw c.in-None.is c.put_numbers.ensures

pub returns-in-Some : goal.returns-in-Some
unfolding log_record
returns-in-Some c = rw c.in-Some.is c.put_numbers-in-Some.ensures
