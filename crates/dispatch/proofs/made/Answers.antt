-- `made`: the step, with its report.
use mathlib.Core.Path.{ap}
use Rattle.std.specs.Prelude.{Some}
use Rattle.rules.specs.declared.step.Stepped.{Stepped}
use Rattle.dispatch.proofs.made.Goals as goal

pub returns : goal.returns
returns c =
    let s = c.args.s in
    record { turn = ap (λ (o : Stepped). Some (s, o.report)) c.step-q.ensures; system = ap (λ (o : Stepped). o.system) c.step-q.ensures }
