-- The verdict on a step: what it changes, or a refusal.
use Rattle.std.specs.Prelude.{Result, Ok, Err}
use Rattle.rules.specs.declared.step.StepRefusal.{StepRefusal}
use Rattle.rules.specs.Answers.{StepAnswer}
use Rattle.rig_parts.specs.declared.change.Change.{Change}

abbrev pub Verdict : Type 0
Verdict = Result Change StepRefusal

-- the answer's refusal, or else the verdict v
abbrev pub unless_refused : StepAnswer → Verdict → Verdict
unless_refused (Ok tt) v = v
unless_refused (Err q) v = Err q

-- on a step that is answered a and would make the change k
abbrev pub verdict_of : Change → StepAnswer → Verdict
verdict_of k a = unless_refused a (Ok k)
