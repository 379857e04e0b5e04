-- The mail stays fine where fine letters that fit join it and where one leaves it; so does the rig that an effect gives with its letters.
use mathlib.Core.Path.{◌≡◌, refl, sym, ◌∙◌, subst₂}
use mathlib.Core.Bool.{true, ◌&&◌}
use mathlib.Core.List.{List, ◌∷◌}
use Prim.Native.Nat.{ℕ, ◌+◌, ◌-◌, ◌≤◌}
use native.Mathlib.Omega.{arith}
use lib.ListN.{length, take, drop}
use Rattle.base.specs.Lists.{every}
use Rattle.base.proofs.Tests.{and_left, and_right, and_both, every_append}
use Rattle.plan.specs.declared.Plan.{Plan}
use Rattle.plan_laws.proofs.Answers.{and_parts}
use Rattle.rules.specs.declared.message.Message.{Message}
use Rattle.rules.specs.declared.message.Network.{Network}
use Rattle.rules.specs.declared.system.System.{System}
use Rattle.rules.specs.Networks.{messages, message_at, enqueued_all, dequeued, messages_of}
use Rattle.rules.specs.Systems.{with_network, channel_at, entry_at, parent_at}
use Rattle.rules.specs.Effects.{Effect, completed}
use Rattle.rules.specs.Sound.{message_ok}
use Rattle.rules_laws.proofs.Messages.{enqueued_all_used, enqueued_all_size, messages_enqueued_all, messages_split, dequeued_used, messages_dequeued}
use Rattle.rules_laws.proofs.Shapes.{with_network_shaped}
use Rattle.rules_sound.specs.Fine.{FinePosting}
use Rattle.rules_sound.specs.Sound.{HoldsNetwork, Holds, Startable, Sound}
use Rattle.rules_sound.specs.Stands.{Stands, FineEffect}

module _ (n : ℕ) (p : Plan) (k : Network) (size : length k.slots ≡ 256) (h : HoldsNetwork n p k) where
  pub join_fine : (ms : List Message) → every (message_ok n p.tasks) ms ≡ true → k.used + length ms ≤ 256 → HoldsNetwork n p (enqueued_all k ms)
  join_fine ms f l =
      let ok = message_ok n p.tasks in
      record {
        messages =
            rw (messages_enqueued_all k ms (omega arith), every_append ok (messages k) ms) (and_both (every ok (messages k)) (every ok ms) h.messages f);
        used = rw (enqueued_all_used k ms) l;
      }

  module _ (q : ℕ) (some : 1 ≤ q) (there : q ≤ k.used) where
    split : every (message_ok n p.tasks) (take (q - 1) (messages k))
        && (message_ok n p.tasks (message_at k q) && every (message_ok n p.tasks) (drop q (messages k)))
        ≡ true
    unfolding every
    split =
        let all = h.messages in
        let parts = rw (messages_split k q some there (omega arith)) at all in
        sym (every_append (message_ok n p.tasks) (take (q - 1) (messages k)) (message_at k q ∷ drop q (messages k))) ∙ parts

    pub message_fine : message_ok n p.tasks (message_at k q) ≡ true
    message_fine = and_left _ _ (and_right (every (message_ok n p.tasks) (take (q - 1) (messages k))) _ split)

    pub leave_fine : HoldsNetwork n p (dequeued k q)
    leave_fine =
        let ok = message_ok n p.tasks in
        let (front, rest) = and_parts (every ok (take (q - 1) (messages k))) _ split in
        record {
          messages =
              rw (messages_dequeued k q some there (omega arith), every_append ok (take (q - 1) (messages k)) (drop q (messages k)))
              (and_both _ _ front (and_right (ok (message_at k q)) _ rest));
          used = omega (arith, dequeued_used k q, h.used);
        }

-- a rig with another mail
pub network_stands : (n : ℕ) (p : Plan) (k : Network) (r : System) → Stands n p k r → (q : Network) → length q.slots ≡ 256 → Stands n p q (with_network r q)
unfolding entry_at channel_at parent_at
network_stands n p k r s q size =
    record {
      processors = s.processors;
      plan = s.plan;
      network = refl;
      shaped = with_network_shaped r q s.shaped size;
      holds =
          record {
            tasks = s.holds.tasks;
            origins = s.holds.origins;
            entries = s.holds.entries;
            channels = s.holds.channels;
            parents = s.holds.parents;
            ready = s.holds.ready;
            chosen = s.holds.chosen;
          };
    }

pub stands_sound : (n : ℕ) (p : Plan) (k : Network) (r : System) → Startable n p → HoldsNetwork n p k → Stands n p k r → Sound r
stands_sound n p k r t m s =
    record {
      frame = rw (s.processors, s.plan) t;
      rig = subst₂ (λ (a : ℕ) (b : Plan). Holds a b r) (sym s.processors) (sym s.plan) s.holds;
      network = rw (s.processors, s.plan, s.network) m;
    }

-- an effect with its letters
pub completed_sound : (n : ℕ) (p : Plan) (k : Network) (e : Effect) → Startable n p → HoldsNetwork n p k → FineEffect n p k (FinePosting n p.tasks) e
    → k.used + length (messages_of n e.posting) ≤ 256
    → Sound (completed e)
unfolding completed
completed_sound n p k e t m f fits =
    let s = f.system in
    let ms = messages_of n e.posting in
    let q = enqueued_all k ms in
    let same : enqueued_all e.system.network (messages_of e.system.processors e.posting) ≡ q = rw (s.network, s.processors) refl in
    let size : length k.slots ≡ 256 = rw s.network at s.shaped.slots in
    rw same
    (stands_sound n p q (with_network e.system q) t
    (join_fine n p k size m ms f.posting.messages fits)
    (network_stands n p k e.system s q (enqueued_all_size k ms ∙ size)))
