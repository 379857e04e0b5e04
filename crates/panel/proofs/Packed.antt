-- A rig that is put on a board is lent there.
use mathlib.Core.Path.{◌≡◌, refl}
use mathlib.Core.Bool.{true}
use mathlib.Core.List.{List}
use Prim.Native.Nat.{ℕ}
use Rattle.rules.specs.declared.system.System.{System}
use Rattle.rules.specs.Sound.{system_ok}
use Rattle.rules_laws.specs.Shapes.{Shaped}
use Rattle.plan_index.specs.declared.ends.Ends.{Ends}
use Rattle.plan_index.specs.ends.Derived.{ends_of}
use Rattle.plan_index.specs.user_table.Built.{Few, Built}
use Rattle.rig_parts.specs.Facts.{kept_in}
use Rattle.board.specs.declared.act.Size.{Size}
use Rattle.board.specs.Lent.{Whole, tasks_on, channels_on, parents_on}
use Rattle.board.specs.Rigs.{RigOn}
use Rattle.rig_step.proofs.Boards.{lent_by, packed_rig, few_of}
use Rattle.rig_step.proofs.Parts.{taken_apart}
use Rattle.rig_step.proofs.Reports.{rig_on}
use Rattle.panel.specs.Counted.{Lends}

-- how large the rig is
abbrev pub size_of : System → Size
size_of r = record { tasks = r.plan.tasks; processors = r.processors; used = r.network.used }

module _ (r : System) (z : Shaped r) (o : system_ok r ≡ true) (e : Ends) (d : e ≡ ends_of r.plan) where
  pub ends_few : Few e.senders e.receivers e.parents
  ends_few = few_of (taken_apart r z o e d).parts

  module _ (users board : List ℕ) (b : Built e.senders e.receivers e.parents users)
      (et : tasks_on board ≡ r.tasks) (ec : channels_on board ≡ r.channels) (ep : parents_on board ≡ r.parents) where
    pub rig_packed : Whole board → RigOn r.plan.codes e.numbers users (size_of r) (lent_by (kept_in r) board)
    rig_packed w =
        rig_on
        (packed_rig r.plan.tasks r.plan.codes e.numbers e.senders e.receivers e.parents r.processors r.tasks r.network (kept_in r) users board b et ec ep
        (taken_apart r z o e d) w)

    pub rig_lent : Lends r r.plan.codes e.numbers users (size_of r) (lent_by (kept_in r) board)
    rig_lent =
        record {
          shaped = z;
          sound = o;
          facts_of_lem = rw (b.senders_of_lem, b.receivers_of_lem, b.parents_of_lem, d) refl;
          processors = refl;
          tasks = et;
          kept = rw (ec, ep) refl;
          messages = refl;
        }
