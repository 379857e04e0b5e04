-- The test of the statement tells rigs apart: at the start of the example no call, word, ended or mover letter would find what it supposes.
use mathlib.Core.Path.{◌≡◌, refl}
use mathlib.Core.Bool.{false}
use Rattle.plan.specs.Numbers.{task_id, processor_id}
use Rattle.plan.proofs.Edges.{word_of}
use Rattle.rules.specs.declared.message.Message.TheVariants.{ReadyToReceive, Data, Terminated, Migration}
use Rattle.rules.specs.declared.system.System.{System}
use Rattle.rules.specs.Cells.{hint}
use Rattle.rules.specs.Starts.{started}
use Rattle.rules.proofs.Evaluated.{evaluated}
use Rattle.claim.specs.Statement.{finds_its}
use Rattle.examples.specs.Demand3.{example_plan, example_channel}

abbrev start : System
start = started 3 example_plan

no_call_lem : finds_its start (ReadyToReceive example_channel (processor_id 1) (hint (processor_id 1) 1)) ≡ false
unfolding evaluated finds_its
no_call_lem = refl

no_word : finds_its start (Data example_channel (processor_id 1) (word_of 7)) ≡ false
unfolding evaluated finds_its
no_word = refl

no_ended : finds_its start (Terminated (hint (processor_id 1) 1) (task_id 2)) ≡ false
unfolding evaluated finds_its
no_ended = refl

no_mover : finds_its start (Migration (processor_id 2) (task_id 1)) ≡ false
unfolding evaluated finds_its
no_mover = refl
