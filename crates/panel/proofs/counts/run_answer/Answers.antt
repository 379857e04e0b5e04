-- `run_answer`: with room in the mail the first tests answer, and else the run decided.
use mathlib.Core.Path.{◌∙◌, ap}
use Rattle.rig_parts.proofs.BoundsParts.{processors_few}
use Rattle.board.specs.declared.act.Act.{Act}
use Rattle.steps.proofs.instruction.Refusals.{placed}
use Rattle.panel.proofs.Answers.{run_roomy}
use Rattle.panel.proofs.counts.run_answer.Goals as goal

pub run_refusal-requires : goal.run_refusal-requires
run_refusal-requires c = placed c.requires.parts

pub returns-then-n-lt250 : goal.returns-then-n-lt250
returns-then-n-lt250 c = c.run_refusal.ensures ∙ run_roomy _ _ _ _ _ (processors_few c.requires.parts) c.if-n-lt250.true _

pub run_decided-requires : goal.run_decided-requires
run_decided-requires c = c.requires

pub returns : goal.returns
returns c = ap (λ (x : Act). x.answer) c.run_decided.ensures
