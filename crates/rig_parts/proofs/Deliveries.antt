-- A delivery: what is computed on the parts of a rig for the letter is what the delivery does in the rig, whose mail has the letter no more.
use mathlib.Core.Path.{◌≡◌}
use Prim.Native.Nat.{ℕ, ◌≤◌}
use Rattle.plan.specs.declared.Plan.{Plan}
use Rattle.rules.specs.declared.message.Network.{Network}
use Rattle.rules.specs.declared.system.System.{System}
use Rattle.rules.specs.Networks.{message_at, dequeued}
use Rattle.rules.specs.Systems.{with_network, channel_at, entry_at, parent_at}
use Rattle.rules.specs.Deliver.{delivered}
use Rattle.rules_laws.specs.Shapes.{Shaped}
use Rattle.rules_sound.specs.Sound.{Holds, Sound}
use Rattle.rules_sound.proofs.Network.{message_fine}
use Rattle.rig_parts.specs.Facts.{facts_of, kept_in}
use Rattle.rig_parts.specs.Openings.{opened_in}
use Rattle.rig_parts.specs.Effects.{effect_of}
use Rattle.rig_parts.proofs.Openings.{open_effect}

-- another mail
network_holds : (n : ℕ) (p : Plan) (r : System) (k : Network) → Holds n p r → Holds n p (with_network r k)
unfolding entry_at channel_at parent_at
network_holds n p r k o = record { tasks = o.tasks; origins = o.origins; entries = o.entries; channels = o.channels; parents = o.parents; ready = o.ready; chosen = o.chosen }

pub deliver_effect : (r : System) → Shaped r → Sound r → (p : ℕ) → 1 ≤ p → p ≤ r.network.used
    → delivered r p
    ≡ effect_of (with_network r (dequeued r.network p)) (opened_in (facts_of r.plan) r.tasks (kept_in r) (message_at r.network p))
unfolding delivered
deliver_effect r z f p some there =
    let k = r.network in
    open_effect (with_network r (dequeued k p)) f.frame (network_holds r.processors r.plan r (dequeued k p) f.rig) (message_at k p)
    (message_fine r.processors r.plan k z.slots f.network p some there)
