-- `derive` is what the plan's meaning says: the pass fills three tables, and the sends are numbered.
use mathlib.Core.Path.{refl}
use Rattle.plan_laws.proofs.Answers.{plan_passed}
use Rattle.plan.specs.Programs.{programs}
use Rattle.plan_value.proofs.Values.{firsts_of_lem}
use Rattle.plan_index.proofs.ends.Meaning.{sizes, ends_of_lem}
use Rattle.plan_index.proofs.ends.derive.Goals as goal

pub pass_slots-pass-requires : goal.pass_slots-pass-requires
pass_slots-pass-requires c = (sizes c.args.p c.requires, record { parents = refl; senders = refl; receivers = refl })

pub send_numbers-numbers-requires : goal.send_numbers-numbers-requires
send_numbers-numbers-requires c = c.requires

pub returns : goal.returns
returns c =
    let p = c.args.p in
    ends_of_lem p c.requires (firsts_of_lem p c.pass_slots-pass.ensures (plan_passed (programs p) c.requires).instructions) c.send_numbers-numbers.ensures
