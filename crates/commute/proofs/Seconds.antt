-- A run after a run at another desk: it is as if it were first.
use mathlib.Core.Path.{◌≡◌, refl, sym, ◌∙◌, ap}
use mathlib.Core.Bool.{Bool, true, ◌||◌, ◌&&◌}
use mathlib.Core.Logic.{◌≢◌, ◌⊎◌, inl, inr}
use Prim.Native.Nat.{◌+◌, ◌≤◌}
use native.Mathlib.Omega.{arith}
use lib.ListN.{length}
use borrow.Author.Tests.{ne_eqb, le-leb}
use Rattle.std.specs.Prelude.{Ok}
use Rattle.base.proofs.Tests.{within_low, within_high}
use Rattle.plan.specs.declared.TaskId.{TaskId}
use Rattle.plan.specs.declared.ProcessorId.{ProcessorId}
use Rattle.plan.specs.declared.ChannelId.{ChannelId}
use Rattle.plan.specs.Programs.{Programs, programs}
use Rattle.plan.specs.Users.{receiver_of, parent_of}
use Rattle.rules.specs.declared.message.Network.{Network}
use Rattle.rules.specs.declared.step.Stepped.{Stepped}
use Rattle.rules.specs.declared.system.System.{System}
use Rattle.rules.specs.Networks.{enqueued_all}
use Rattle.rules.specs.Tasks.{is_at}
use Rattle.rules.specs.Systems.{task_at, entry_at, channel_at, parent_at, meaning}
use Rattle.rules.specs.Effects.{Effect, completed, receives_on, sends_on}
use Rattle.rules.specs.Runs.{fits, next_of, ran, run_answer}
use Rattle.rules.specs.Sound.{system_ok}
use Rattle.rules.specs.Steps.{well_formed, ruled_answer, step_answer, step, run_step, accepted}
use Rattle.rules_laws.specs.Shapes.{Shaped}
use Rattle.rules_laws.proofs.Messages.{enqueued_all_used}
use Rattle.rules_laws.proofs.Shapes.{step_shaped, step_chosen}
use Rattle.rules_laws.proofs.Steps.{step_accepted, step_passed}
use Rattle.rules_laws.proofs.StepKinds.{answer_run, performed_run}
use Rattle.rules_sound.specs.Sound.{Sound}
use Rattle.rules_sound.specs.Stands.{Stands}
use Rattle.rules_sound.proofs.Answers.{run_passed}
use Rattle.rules_sound.proofs.Kept.{whole, kept}
use Rattle.rules_sound.proofs.Runs.{run_fine}
use Rattle.rules_sound.proofs.Sound.{sound}
use Rattle.commute.specs.Footprints.{Footprint, footprint, outside, creates, Alike}
use Rattle.commute.specs.Frames.{SameEffect, SeenAlike, Framed}
use Rattle.commute.specs.Pairs.{Apart, Runs, after_run, posted_by, Second}
use Rattle.commute.proofs.Runs.{desk_low, task_in_lem}
use Rattle.commute.proofs.Frames.{framed, parent_is, next_same}
use Rattle.commute.proofs.Apart.{footprints_apart}

-- a footprint within a footprint
pub narrow : (f g : Footprint) (r q : System) → ((v : TaskId) → g.task v ≡ true → f.task v ≡ true)
    → ((d : ProcessorId) → g.processor d ≡ true → f.processor d ≡ true) → ((c : ChannelId) → g.channel c ≡ true → f.channel c ≡ true) → Alike f r q → Alike g r q
narrow f g r q tasks rows channels a =
    record {
      tasks = λ v k. a.tasks v (tasks v k);
      entries = λ d c dl dh cl ch k. a.entries d c dl dh cl ch (rows d k);
      channels = λ c cl ch k. a.channels c cl ch (channels c k);
      parents = λ d v dl dh vh k. a.parents d v dl dh vh (rows d k);
    }

-- letters that join the mail change nothing else
pub posted_alike : (f : Footprint) (r : System) (e : Effect) → Alike f r e.system → Alike f r (completed e)
unfolding completed entry_at channel_at parent_at
posted_alike f r e a = record { tasks = a.tasks; entries = a.entries; channels = a.channels; parents = a.parents }

both_posted : (f : Footprint) (e o : Effect) → Alike f e.system o.system → Alike f (completed e) (completed o)
unfolding completed entry_at channel_at parent_at
both_posted f e o a = record { tasks = a.tasks; entries = a.entries; channels = a.channels; parents = a.parents }

-- an accepted run
module _ (r : System) (shaped : Shaped r) (ok : system_ok r ≡ true) (t : TaskId) (yes : step_answer r (run_step t.0) ≡ Ok tt) where
  pub passed : run_answer r t ≡ Ok tt
  passed = sym (answer_run r (run_step t.0) refl) ∙ (step_passed r (run_step t.0) yes).rule

  pub stepped : step r (run_step t.0) ≡ accepted (ran r t)
  stepped = step_accepted r (run_step t.0) yes ∙ ap accepted (performed_run r (run_step t.0) refl)

  pub after_shaped : Shaped (after_run r t)
  after_shaped = rw (ap (λ (o : Stepped). o.system) stepped) at (step_shaped r (run_step t.0) shaped)

  pub after_ok : system_ok (after_run r t) ≡ true
  after_ok = rw (ap (λ (o : Stepped). o.system) stepped) at (kept r (run_step t.0) shaped yes)

  there : Sound r
  there = sound r shaped ok

  low : 1 ≤ t.0
  low = within_low 1 r.plan.tasks t.0 (run_passed r t passed).task

  high : t.0 ≤ r.plan.tasks
  high = within_high 1 r.plan.tasks t.0 (run_passed r t passed).task

  run_framed : Framed r t (λ q. ran q t)
  run_framed = framed r there.frame (whole r shaped there) t low high (run_passed r t passed).ready

  run_stands : Stands r.processors r.plan r.network (ran r t).system
  run_stands = (run_fine r there.frame (whole r shaped there) t low high (run_passed r t passed).ready).system

  own_desk : 1 ≤ (task_at r t).processor.0
  own_desk = desk_low r there.frame (whole r shaped there) t low high (run_passed r t passed).ready

  own_child : (v : TaskId) → creates r t v ≡ true → parent_of (meaning r) v ≡ t
  own_child = parent_is r there.frame (whole r shaped there) t low high (run_passed r t passed).ready

  own_in : (footprint r t).task t ≡ true
  own_in = task_in_lem r there.frame (whole r shaped there) t low high (run_passed r t passed).ready

  own_next : (q : System) → SeenAlike r t q → next_of q t ≡ next_of r t
  own_next = next_same r there.frame (whole r shaped there) t low high (run_passed r t passed).ready

  -- the rig after it
  pub after_plan : (after_run r t).plan ≡ r.plan
  unfolding completed
  after_plan = run_stands.plan

  pub after_chosen : (after_run r t).chosen ≡ r.chosen
  after_chosen = sym (ap (λ (o : Stepped). o.system.chosen) stepped) ∙ step_chosen r (run_step t.0)

  pub after_processors : (after_run r t).processors ≡ r.processors
  unfolding completed
  after_processors = run_stands.processors

  pub after_network : (after_run r t).network ≡ enqueued_all r.network (posted_by r t)
  unfolding completed
  after_network = rw (run_stands.network, run_stands.processors) refl

  pub after_alike : Alike (outside (footprint r t)) r (after_run r t)
  after_alike = posted_alike _ r (ran r t) run_framed.changes

  -- the desks of the tasks
  after_desks : (v : TaskId)
      → ((task_at (after_run r t) v).processor ≡ (task_at r v).processor)
      ⊎ ((creates r t v ≡ true) × ((task_at (after_run r t) v).processor ≡ (task_at r t).processor))
  unfolding completed
  after_desks v = run_framed.stay v

-- a rig that is seen alike has the same footprint
module _ (r q : System) (u : TaskId) (seen : SeenAlike r u q) (own : task_at q u ≡ task_at r u) (next : next_of q u ≡ next_of r u) where
  same_task_lem : (v : TaskId) → (footprint q u).task v ≡ (footprint r u).task v
  unfolding footprint
  same_task_lem v = rw (next, own, seen.there v) refl

  same_row : (d : ProcessorId) → (footprint q u).processor d ≡ (footprint r u).processor d
  unfolding footprint
  same_row d = rw own refl

  same_channel_lem : (c : ChannelId) → (footprint q u).channel c ≡ (footprint r u).channel c
  unfolding footprint
  same_channel_lem c =
      let both : Programs → Bool = λ (m : Programs). receives_on m u c || (sends_on m u c && is_at (task_at q u).processor (task_at q (receiver_of m c))) in
      ap both (ap programs seen.plan) ∙ rw (own, seen.there (receiver_of (meaning r) c)) refl

  same_outside : (x y : System) → Alike (outside (footprint q u)) x y → Alike (outside (footprint r u)) x y
  same_outside x y =
      narrow (outside (footprint q u)) (outside (footprint r u)) x y (λ v k. rw (same_task_lem v) k) (λ d k. rw (same_row d) k) (λ c k. rw (same_channel_lem c) k)

module _ (r : System) (shaped : Shaped r) (ok : system_ok r ≡ true) (t u : TaskId) (t-run : Runs r t) (u-run : Runs r u)
    (apart : (task_at r t).processor.0 ≢ (task_at r u).processor.0) where
  abbrev q : System
  q = after_run r t

  pub apart_of : Apart (footprint r u) (footprint r t)
  apart_of =
      footprints_apart r u t (λ e. apart (sym e)) (own_desk r shaped ok u u-run.accepted) (own_desk r shaped ok t t-run.accepted) u-run.nowhere t-run.nowhere
      (own_child r shaped ok u u-run.accepted)
      (own_child r shaped ok t t-run.accepted)

  at_desk : (v : TaskId) → is_at (task_at r u).processor (task_at q v) ≡ is_at (task_at r u).processor (task_at r v)
  at_desk v = go (after_desks r shaped ok t t-run.accepted v)
    where
      go : ((task_at q v).processor ≡ (task_at r v).processor) ⊎ ((creates r t v ≡ true) × ((task_at q v).processor ≡ (task_at r t).processor))
          → is_at (task_at r u).processor (task_at q v) ≡ is_at (task_at r u).processor (task_at r v)
      go (inl e) = rw e refl
      go (inr (c, e)) =
          rw (e, ne_eqb (task_at r t).processor.0 (task_at r u).processor.0 apart)
          (sym (ne_eqb (task_at r v).processor.0 (task_at r u).processor.0 (λ z. omega (arith, t-run.nowhere v c, own_desk r shaped ok u u-run.accepted))))

  -- the second task's footprint is as it was
  pub seen_after : SeenAlike r u q
  seen_after =
      record {
        shaped = after_shaped r shaped ok t t-run.accepted;
        plan = after_plan r shaped ok t t-run.accepted;
        parts =
            narrow (outside (footprint r t)) (footprint r u) r q (λ v k. rw (apart_of.task v k) refl) (λ d k. rw (apart_of.processor d k) refl)
            (λ c k. rw (apart_of.channel c k) refl)
            (after_alike r shaped ok t t-run.accepted);
        there = at_desk;
      }

  pub same_effect : SameEffect (footprint r u) (ran r u) (ran q u)
  same_effect = (run_framed r shaped ok u u-run.accepted).reads q seen_after

  same_record : task_at q u ≡ task_at r u
  same_record = seen_after.parts.tasks u (own_in r shaped ok u u-run.accepted)

  same_next : next_of q u ≡ next_of r u
  same_next = own_next r shaped ok u u-run.accepted q seen_after

  module _ (room : r.network.used + length (posted_by r t) + length (posted_by r u) ≤ 256) where
    fits_after : fits q (ran q u) ≡ true
    unfolding fits
    fits_after =
        let used : q.network.used ≡ r.network.used + length (posted_by r t) =
        ap (λ (n : Network). n.used) (after_network r shaped ok t t-run.accepted) ∙ enqueued_all_used r.network (posted_by r t) in
        rw (same_effect.posting, used, after_processors r shaped ok t t-run.accepted) (le-leb _ 256 room)

    answered : run_answer q u ≡ Ok tt
    unfolding run_answer
    answered =
        let before = passed r shaped ok u u-run.accepted in
        let was = rw (run_passed r u before).fitting at before in
        rw (fits_after, same_next, same_record, after_plan r shaped ok t t-run.accepted) was

    accepted_after : step_answer q (run_step u.0) ≡ Ok tt
    unfolding step_answer ruled_answer well_formed
    accepted_after = rw (after_ok r shaped ok t t-run.accepted, answer_run q (run_step u.0) refl) answered

    pub second : Second r t u
    second =
        record {
          accepted = accepted_after;
          effect = same_effect;
          own = both_posted (footprint r u) (ran r u) (ran q u) same_effect.system;
          rest =
              same_outside r q u seen_after same_record same_next q (after_run q u)
              (after_alike q (after_shaped r shaped ok t t-run.accepted) (after_ok r shaped ok t t-run.accepted) u accepted_after);
        }
