-- Two runs at different desks commute.
use mathlib.Core.Path.{◌≡◌, refl, sym, ◌∙◌, ap}
use mathlib.Core.Bool.{Bool, true, false}
use mathlib.Core.List.{List, ◌++◌, append_assoc}
use mathlib.Core.Logic.{◌≢◌}
use Prim.Native.Nat.{◌+◌, ◌≤◌}
use native.Mathlib.Omega.{arith}
use lib.ListN.{length}
use Rattle.plan.specs.declared.TaskId.{TaskId}
use Rattle.rules.specs.declared.message.Message.{Message}
use Rattle.rules.specs.declared.message.Network.{Network}
use Rattle.rules.specs.declared.system.System.{System}
use Rattle.rules.specs.Networks.{messages, enqueued_all}
use Rattle.rules.specs.Systems.{task_at}
use Rattle.rules.specs.Sound.{system_ok}
use Rattle.rules_laws.specs.Shapes.{Shaped}
use Rattle.rules_laws.proofs.Messages.{enqueued_all_used, messages_enqueued_all}
use Rattle.commute.specs.Footprints.{Footprint, footprint, everything, Alike}
use Rattle.commute.specs.Pairs.{Runs, after_run, posted_by, Second, Commuting}
use Rattle.commute.proofs.Seconds.{after_shaped, after_ok, after_chosen, after_plan, after_processors, after_network, after_alike, apart_of, second}
use Rattle.commute.proofs.Parts.{same_rig}

-- one place of a rig: z at first, x and y after one of the runs alone, b after the second run where the first came before, a in the other order; f and g
-- say whether it is in the footprint of the first and of the second
meet : {A : Type 0} (f g : Bool) (z x y b a : A) → (g ≡ true → f ≡ false) → (f ≡ false → x ≡ z) → (g ≡ false → y ≡ z) → (g ≡ true → b ≡ y)
    → (g ≡ false → b ≡ x) → (f ≡ true → a ≡ x) → (f ≡ false → a ≡ y)
    → a ≡ b
meet f true z x y b a apart one other own rest own' rest' = rest' (apart refl) ∙ sym (own refl)
meet true false z x y b a apart one other own rest own' rest' = own' refl ∙ sym (rest refl)
meet false false z x y b a apart one other own rest own' rest' = rest' refl ∙ other refl ∙ sym (one refl) ∙ sym (rest refl)

module _ (r : System) (shaped : Shaped r) (ok : system_ok r ≡ true) (t u : TaskId) (t-run : Runs r t) (u-run : Runs r u)
    (apart : (task_at r t).processor.0 ≢ (task_at r u).processor.0) where
  abbrev f : Footprint
  f = footprint r t

  abbrev g : Footprint
  g = footprint r u

  -- in every part the two orders leave the same
  alike_all : Second r t u → Second r u t → Alike everything (after_run (after_run r t) u) (after_run (after_run r u) t)
  alike_all one other =
      let both = apart_of r shaped ok t u t-run u-run apart in
      let x = after_alike r shaped ok t t-run.accepted in
      let y = after_alike r shaped ok u u-run.accepted in
      record {
        tasks =
            λ v k.
            meet (f.task v) (g.task v) _ _ _ _ _ (both.task v) (λ e. x.tasks v (rw e refl)) (λ e. y.tasks v (rw e refl)) (one.own.tasks v)
            (λ e. one.rest.tasks v (rw e refl))
            (other.own.tasks v)
            (λ e. other.rest.tasks v (rw e refl));
        entries =
            λ d c dl dh cl ch k.
            meet (f.processor d) (g.processor d) _ _ _ _ _ (both.processor d) (λ e. x.entries d c dl dh cl ch (rw e refl))
            (λ e. y.entries d c dl dh cl ch (rw e refl))
            (one.own.entries d c dl dh cl ch)
            (λ e. one.rest.entries d c dl dh cl ch (rw e refl))
            (other.own.entries d c dl dh cl ch)
            (λ e. other.rest.entries d c dl dh cl ch (rw e refl));
        channels =
            λ c cl ch k.
            meet (f.channel c) (g.channel c) _ _ _ _ _ (both.channel c) (λ e. x.channels c cl ch (rw e refl)) (λ e. y.channels c cl ch (rw e refl))
            (one.own.channels c cl ch)
            (λ e. one.rest.channels c cl ch (rw e refl))
            (other.own.channels c cl ch)
            (λ e. other.rest.channels c cl ch (rw e refl));
        parents =
            λ d v dl dh vh k.
            meet (f.processor d) (g.processor d) _ _ _ _ _ (both.processor d) (λ e. x.parents d v dl dh vh (rw e refl))
            (λ e. y.parents d v dl dh vh (rw e refl))
            (one.own.parents d v dl dh vh)
            (λ e. one.rest.parents d v dl dh vh (rw e refl))
            (other.own.parents d v dl dh vh)
            (λ e. other.rest.parents d v dl dh vh (rw e refl));
      }

-- the mail after both
module _ (r : System) (shaped : Shaped r) (ok : system_ok r ≡ true) (t u : TaskId) (t-run : Runs r t) (next : Second r t u)
    (room : r.network.used + length (posted_by r t) + length (posted_by r u) ≤ 256) where
  abbrev q : System
  q = after_run r t

  posted_same : posted_by q u ≡ posted_by r u
  posted_same = rw (next.effect.posting, after_processors r shaped ok t t-run.accepted) refl

  after_mail : messages (after_run q u).network ≡ messages r.network ++ (posted_by r t ++ posted_by r u)
  after_mail =
      let q_shaped = after_shaped r shaped ok t t-run.accepted in
      let q-ok = after_ok r shaped ok t t-run.accepted in
      let here = after_network r shaped ok t t-run.accepted in
      let used : q.network.used ≡ r.network.used + length (posted_by r t) =
      ap (λ (n : Network). n.used) here ∙ enqueued_all_used r.network (posted_by r t) in
      let size = shaped.slots in
      let q-size = q_shaped.slots in
      let first : messages q.network ≡ messages r.network ++ posted_by r t =
      ap messages here ∙ messages_enqueued_all r.network (posted_by r t) (omega arith) in
      ap messages (after_network q q_shaped q-ok u next.accepted)
      ∙ ap (λ (ms : List Message). messages (enqueued_all q.network ms)) posted_same
      ∙ messages_enqueued_all q.network (posted_by r u) (omega arith)
      ∙ ap (λ (ms : List Message). ms ++ posted_by r u) first
      ∙ append_assoc (messages r.network) (posted_by r t) (posted_by r u)

-- both orders are accepted, and leave the same
pub runs_commuting : (r : System) → Shaped r → system_ok r ≡ true → (t u : TaskId) → Runs r t → Runs r u
    → (task_at r t).processor.0 ≢ (task_at r u).processor.0 → r.network.used + length (posted_by r t) + length (posted_by r u) ≤ 256
    → Commuting r t u
runs_commuting r shaped ok t u t-run u-run apart room =
    let back : (task_at r u).processor.0 ≢ (task_at r t).processor.0 = λ e. apart (sym e) in
    let again : r.network.used + length (posted_by r u) + length (posted_by r t) ≤ 256 = omega arith in
    let one = second r shaped ok t u t-run u-run apart room in
    let other = second r shaped ok u t u-run t-run back again in
    let x = after_run (after_run r t) u in
    let y = after_run (after_run r u) t in
    let t-shaped = after_shaped r shaped ok t t-run.accepted in
    let t-ok = after_ok r shaped ok t t-run.accepted in
    let u-shaped = after_shaped r shaped ok u u-run.accepted in
    let u-ok = after_ok r shaped ok u u-run.accepted in
    record {
      one = one;
      other = other;
      mail = after_mail r shaped ok t u t-run one room;
      other_mail = after_mail r shaped ok u t u-run other again;
      same =
          same_rig x y (after_shaped (after_run r t) t-shaped t-ok u one.accepted) (after_shaped (after_run r u) u-shaped u-ok t other.accepted)
          (alike_all r shaped ok t u t-run u-run apart one other)
          (after_processors (after_run r t) t-shaped t-ok u one.accepted
          ∙ after_processors r shaped ok t t-run.accepted
          ∙ sym (after_processors r shaped ok u u-run.accepted)
          ∙ sym (after_processors (after_run r u) u-shaped u-ok t other.accepted))
          (after_plan (after_run r t) t-shaped t-ok u one.accepted
          ∙ after_plan r shaped ok t t-run.accepted
          ∙ sym (after_plan r shaped ok u u-run.accepted)
          ∙ sym (after_plan (after_run r u) u-shaped u-ok t other.accepted))
          (after_chosen (after_run r t) t-shaped t-ok u one.accepted
          ∙ after_chosen r shaped ok t t-run.accepted
          ∙ sym (after_chosen r shaped ok u u-run.accepted)
          ∙ sym (after_chosen (after_run r u) u-shaped u-ok t other.accepted))
          (after_ok (after_run r t) t-shaped t-ok u one.accepted)
          (after_ok (after_run r u) u-shaped u-ok t other.accepted);
    }
