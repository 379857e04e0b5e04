-- A plan of the new edition and its written-out plan say the same at rest; a file without a repeat is written as it is.
use mathlib.Core.Path.{◌≡◌, sym, ap, subst, ◌∙◌}
use mathlib.Core.Bool.{Bool, ◌&&◌}
use mathlib.Core.List.{List}
use Prim.Native.Nat.{ℕ}
use native.Mathlib.Omega.{arith}
use Rattle.std.specs.Prelude.{Ok}
use Rattle.plan.specs.declared.ChannelId.{ChannelId}
use Rattle.plan.specs.declared.Plan.{Plan}
use Rattle.plan.specs.declared.TaskId.{TaskId}
use Rattle.plan.specs.Files.{file_programs}
use Rattle.plan.specs.Programs.{Programs, programs}
use Rattle.plan.specs.Refusals.{plan_answer}
use Rattle.plan.specs.Repeats.{written_out_plan}
use Rattle.plan.specs.RepeatRefusals.{repeats_answer}
use Rattle.plan_laws.proofs.Canonical.{meaning_canonical}
use Rattle.repeat_laws.specs.Passed.{RepeatsPassed}
use Rattle.repeat_laws.proofs.Converted.{repeats_passed, written_accepted}
use Rattle.repeat_laws.proofs.Plain.{plain_answer, plain_file_lem}
use Rattle.rules.specs.declared.step.Step.{Step}
use Rattle.rules.specs.Steps.{received_on}
use Rattle.net.specs.Machines.{Normal}
use Rattle.net.specs.Guards.{is_complete}
use Rattle.net.specs.Nets.{net, Reached}
use Rattle.repeats.specs.Beside.{Alike}
use Rattle.repeats.proofs.Meaning.{repeats_rest, ends_alike, ends_complete}
use Rattle.transitions.specs.Readings.{reading}
use Rattle.invariant.proofs.Next.{Kept}
use Rattle.invariant.proofs.Rest.{at_rest_shows}
use Rattle.claim.specs.Statement.{from, Rests}
use Rattle.claim.specs.Repeats.{written_plan, RepeatsRest, SameWritten, RepeatsAsWritten, PlainAsItIs}
use Rattle.claim.proofs.Whole.{list_kept, start_kept, rested}
use Rattle.claim.proofs.Demand3.{normal, all_received, no_messages_lem, resting}

module _ (b : List ℕ) (a : repeats_answer b ≡ Ok tt) where
  abbrev m : Programs
  m = file_programs b

  abbrev p : Plan
  p = written_plan b

  passed : RepeatsPassed b
  passed = repeats_passed b a

  accepted : plan_answer (written_out_plan m) ≡ Ok tt
  accepted = written_accepted b a

  means : programs (written_plan b) ≡ written_out_plan m
  means = meaning_canonical (written_out_plan m) accepted

  plan_accepted : plan_answer (programs (written_plan b)) ≡ Ok tt
  plan_accepted = rw means accepted

  -- the rig after a list of steps
  kept : (ts : List Step) → Kept (written_plan b) (from 1 (written_plan b) ts).system (λ c. received_on c (from 1 (written_plan b) ts).reports)
  kept ts = list_kept 1 (written_plan b) (omega arith) (omega arith) plan_accepted ts

  module _ (x : RepeatsRest m) (ts : List Step) (rests : Rests (written_plan b) ts) where
    abbrev k : Kept (written_plan b) (from 1 (written_plan b) ts).system (λ c. received_on c (from 1 (written_plan b) ts).reports)
    k = kept ts

    reached : Reached (written_out_plan m) k.labels k.state
    reached = subst (λ (o : Programs). Reached o k.labels k.state) means k.reached

    ends : Normal (net (written_out_plan m)) k.state
    ends = subst (λ (o : Programs). Normal (net o) k.state) means (normal (written_plan b) plan_accepted k rests)

    alike : Alike m x.state k.state
    alike = ends_alike m passed.instructions passed.paired passed.creates accepted x.reached x.rests reached ends

    same_words : (c : ChannelId) → x.state.net.passed c ≡ received_on c (from 1 (written_plan b) ts).reports
    same_words c = ap (λ (f : ChannelId → _). f c) alike.passed ∙ all_received (written_plan b) plan_accepted k rests c

    same_task_lem : (t : TaskId) → SameWritten m x.state (from 1 (written_plan b) ts).system t
    unfolding reading
    same_task_lem t =
        let (done, word, overflow) =
        at_rest_shows (programs (written_plan b)) plan_accepted k.reached k.running (no_messages_lem (written_plan b) plan_accepted k rests) (resting (written_plan b) plan_accepted k rests) t in
        let through = ends_complete m passed.instructions passed.paired passed.creates accepted x.reached x.rests reached ends t in
        let there : is_complete m x.state.net t ≡ is_complete (programs (written_plan b)) k.state t = through ∙ ap (λ (o : Programs). is_complete o k.state t) (sym means) in
        let finished =
        ap (λ (f : TaskId → Bool). f t && is_complete m x.state.net t) alike.born ∙ ap (λ (c : Bool). k.state.born t && c) there in
        record { word = rw alike.word word; overflow = rw alike.overflow overflow; done = finished ∙ sym done }

pub repeats_written : RepeatsAsWritten
repeats_written b a =
    let passed = repeats_passed b a in
    let h = repeats_rest (file_programs b) passed.instructions passed.paired passed.creates in
    let done = rested (written_plan b) (plan_accepted b a) (start_kept 1 (written_plan b) (omega arith) (omega arith) (plan_accepted b a)) in
    record {
      same_words = same_words b a;
      same_tasks = same_task_lem b a;
      repeats_rest = record { labels = h.labels; state = h.end; reached = h.run; rests = h.normal };
      written_rest = record { list = done.list; rests = done.rests };
    }

pub plain_as_it_is : PlainAsItIs
plain_as_it_is b bytes h = record { answer = plain_answer b h; file = plain_file_lem b bytes h }
