-- A plan of the new edition that is accepted: every run to rest ends as the runs of its written-out plan do, and there is one.
use mathlib.Core.Path.{◌≡◌, refl, sym, subst}
use mathlib.Core.Bool.{Bool, true, false}
use mathlib.Core.List.{List, [], ◌∷◌, ◌++◌}
use Rattle.std.specs.Prelude.{Ok}
use Rattle.plan.specs.declared.TaskId.{TaskId}
use Rattle.plan.specs.Programs.{Programs}
use Rattle.plan.specs.Refusals.{plan_answer}
use Rattle.plan.specs.Repeats.{written_out_plan}
use Rattle.plan.specs.RepeatRefusals.{new_instructions_ok, paired_from, creates_from, paired_ok, repeated_ok}
use Rattle.net.specs.Machines.{stop, take, Normal}
use Rattle.net.specs.States.{Net, start_net}
use Rattle.net.specs.Labels.{Label}
use Rattle.net.specs.Guards.{is_complete, enabled}
use Rattle.net.specs.Effects.{effect}
use Rattle.net.specs.Nets.{net, Reached}
use Rattle.net.proofs.Runs.{run_append, run_keeps}
use Rattle.net.proofs.Halting.{Halts}
use Rattle.net.proofs.Consistent.{consistent}
use Rattle.net.proofs.Meaning.{same_end}
use Rattle.repeats.specs.Machine.{Repeated, start_repeated, repeat_effect, repeat_machine, RepeatReached}
use Rattle.repeats.specs.Beside.{Alike}
use Rattle.repeats.proofs.Tasks.{beside_start}
use Rattle.repeats.proofs.Follows.{program_all, complete_follows, Follows, still, along, follows}
use Rattle.repeats.proofs.Rests.{complete_here, normal_there}
use Rattle.repeats.proofs.Ending.{comes_to_rest}

-- two tests that follow from each other
both_ways : (b c : Bool) → (b ≡ true → c ≡ true) → (c ≡ true → b ≡ true) → b ≡ c
both_ways true c f g = sym (f refl)
both_ways false true f g = g refl
both_ways false false f g = refl

-- a state of the written-out plan's net beside s
pub record Twin (m : Programs) (s : Repeated) : Type 0 where
  pub labels : List Label
  pub state : Net
  pub reached : Reached (written_out_plan m) labels state
  pub alike : Alike m s state

module _ (m : Programs) (fine : new_instructions_ok m ≡ true) (paired : paired_ok m ≡ true) (creates : repeated_ok m ≡ true) where
  start_alike : Alike m start_repeated start_net
  unfolding start_repeated start_net paired_from creates_from paired_ok repeated_ok
  start_alike =
      record {
        born = refl;
        word = refl;
        overflow = refl;
        passed = refl;
        tasks = λ t. beside_start _ (program_all (paired_from false) refl m paired t) (program_all (creates_from false) refl m creates t);
      }

  twin_label : (s : Repeated) (l : Label) → enabled m s.net l ≡ true → Twin m s → Twin m (repeat_effect m s l)
  twin_label s l h w = go (follows m fine s w.state w.alike l h)
    where
      go : Follows m (repeat_effect m s l) w.state l → Twin m (repeat_effect m s l)
      go (still a) = record { labels = w.labels; state = w.state; reached = w.reached; alike = a }
      go (along may a) =
          record {
            labels = w.labels ++ (l ∷ []);
            state = effect (written_out_plan m) w.state l;
            reached = run_append (net (written_out_plan m)) w.reached (take l may stop);
            alike = a;
          }

  pub twin : {ls : List Label} {s : Repeated} → RepeatReached m ls s → Twin m s
  twin r = run_keeps (repeat_machine m) (Twin m) twin_label r (record { labels = []; state = start_net; reached = stop; alike = start_alike })

  -- there is a run to rest
  pub repeats_rest : Halts (repeat_machine m) start_repeated
  repeats_rest = comes_to_rest m fine start_repeated start_net start_alike

  -- and each ends where those of the written-out plan end
  module _ (accepted : plan_answer (written_out_plan m) ≡ Ok tt) {ls : List Label} {s : Repeated} (r : RepeatReached m ls s) (normal : Normal (repeat_machine m) s) where
    rests_there : Normal (net (written_out_plan m)) (twin r).state
    rests_there =
        normal_there m fine accepted s (twin r).state (twin r).alike (consistent (written_out_plan m) accepted (twin r).reached) normal

    module _ {ks : List Label} {z : Net} (q : Reached (written_out_plan m) ks z) (end : Normal (net (written_out_plan m)) z) where
      pub ends_alike : Alike m s z
      ends_alike = subst (Alike m s) (same_end (written_out_plan m) (twin r).reached q end rests_there) (twin r).alike

      pub ends_complete : (t : TaskId) → is_complete m s.net t ≡ is_complete (written_out_plan m) z t
      ends_complete t =
          both_ways _ _ (complete_follows m fine s z ends_alike t)
          (complete_here m fine accepted s z ends_alike (consistent (written_out_plan m) accepted q) normal t)
