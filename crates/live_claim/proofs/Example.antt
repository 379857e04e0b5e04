-- What is claimed of live use, met: the paper's worked plan on two desks, started in bytes that are all 0. A run of task 9, which the plan has not, is
-- refused by 10; a call at desk 2, which has nothing to do, makes no step.
use mathlib.Core.Path.{◌≡◌, refl, sym, ap, ◌∙◌}
use mathlib.Core.Bool.{true, false}
use mathlib.Core.List.{List, [], ◌∷◌, ◌++◌}
use Prim.Native.Nat.{ℕ, ◌+◌, ◌*◌}
use lib.Dec.{leb}
use lib.ListN.{length, take, drop, replicate, length-replicate}
use Rattle.base.specs.Choice.{pick}
use Rattle.base.proofs.Tests.{tests_differ}
use Rattle.plan.specs.Outcomes.{plan_read, start_number}
use Rattle.plan.proofs.Edges.{worked}
use Rattle.rules.specs.declared.step.Stepped.{Stepped}
use Rattle.rules.specs.declared.dispatch.Dispatched.{Dispatched}
use Rattle.rules.specs.declared.system.System.{System}
use Rattle.rules.specs.Answers.{is_accepted, step_number}
use Rattle.rules.specs.Numbers.{processor_id}
use Rattle.rules.specs.Starts.{started}
use Rattle.rules.specs.Steps.{step, run_step}
use Rattle.rules.specs.Dispatch.{dispatched}
use Rattle.rules.proofs.Evaluated.{evaluated}
use Rattle.image.specs.Image.{image, rig_of, is_image, rig_size}
use Rattle.image_laws.proofs.Started.{worked_held}
use Rattle.image.specs.Live.{Left, StartMeets, live_step, word_record, live_dispatch, made_steps, made_reports, all_step_bytes, all_report_bytes}
use Rattle.live_claim.specs.Live.{press, ask, Made, PressMeets, AskMeets, MeetsBy, Played, LiveDemand3}
use Rattle.live_claim.proofs.Played.{Holds, live_step_lem, live_call, live_demand_3}

-- the rig at the start
abbrev first : System
first = started 2 (plan_read worked).plan

-- the bytes that are lent, and those that start leaves
abbrev lent_bytes : List ℕ
lent_bytes = replicate 34120 0

abbrev bytes : List ℕ
bytes = image first ++ drop rig_size lent_bytes

-- a list in front of another, by its length
taken : (xs ys : List ℕ) → take (length xs) (xs ++ ys) ≡ xs
taken [] ys = refl
taken (x ∷ xs) ys = ap (◌∷◌ x) (taken xs ys)

dropped : (xs ys : List ℕ) → drop (length xs) (xs ++ ys) ≡ ys
dropped [] ys = refl
dropped (x ∷ xs) ys = dropped xs ys

front : (n : ℕ) (xs ys : List ℕ) → length xs ≡ n → take n (xs ++ ys) ≡ xs
front n xs ys e = rw (← e) (taken xs ys)

behind : (n : ℕ) (xs ys : List ℕ) → length xs ≡ n → drop n (xs ++ ys) ≡ ys
behind n xs ys e = rw (← e) (dropped xs ys)

holds : Holds bytes first
holds =
    let e = front rig_size (image first) (drop rig_size lent_bytes) worked_held.size in
    record { image = ap is_image e ∙ worked_held.is; rig = ap rig_of e ∙ worked_held.rig }

left : (before : List ℕ) → drop rig_size before ≡ drop rig_size lent_bytes → Left before first bytes
left before e = record { bytes = ap (◌++◌ (image first)) (sym e); image = holds.image; rig = holds.rig }

-- the start meets what is promised of it
numbered : start_number 2 worked ≡ 0
unfolding evaluated
numbered = refl

start_meets : StartMeets 2 worked lent_bytes 0 bytes
start_meets =
    record {
      answer = rw numbered (sym (ap (λ (n : ℕ). pick (leb rig_size n) 0 20) (length-replicate {A = ℕ} 34120 0)));
      untouched = λ some. absurd (some refl);
      rig = λ e. left lent_bytes refl;
    }

-- a run of task 9
no_such_task : is_accepted (step first (run_step 9)).report.answer ≡ false
unfolding evaluated
no_such_task = refl

press_meets : PressMeets bytes 1 9 0 true bytes
press_meets =
    let out : is_accepted (live_step bytes (run_step 9)).report.answer ≡ false = ap (λ (q : Stepped). is_accepted q.report.answer) (live_step_lem holds (run_step 9)) ∙ no_such_task in
    record {
      word = replicate 10 0;
      answer = step_number (live_step bytes (run_step 9)).report.answer;
      word' = word_record (live_step bytes (run_step 9)).report.received ++ drop 10 (replicate 10 0);
      enough = refl;
      meets =
          record {
            short = λ none. absurd (none refl);
            answer = λ e. refl;
            received = λ e. refl;
            refused = λ e f. refl;
            accepted = λ e good. absurd (tests_differ good out);
          };
    }

-- a call at desk 2
idle_answer : is_accepted (dispatched first (processor_id 2)).answer ≡ true
unfolding evaluated
idle_answer = refl

idle : (dispatched first (processor_id 2)).system ≡ first
unfolding evaluated
idle = refl

ask_meets : AskMeets bytes 2 true bytes
ask_meets =
    let e = live_call holds 2 in
    let good : is_accepted (live_dispatch bytes 2).answer ≡ true = ap (λ (q : Dispatched). is_accepted q.answer) e ∙ idle_answer in
    let same : (live_dispatch bytes 2).system ≡ first = ap (λ (q : Dispatched). q.system) e ∙ idle in
    let q = live_dispatch bytes 2 in
    record {
      steps = replicate 8 0;
      records = replicate 22 0;
      answer = step_number q.answer + 256 * length (all_step_bytes (made_steps q));
      steps' = all_step_bytes (made_steps q) ++ drop (length (all_step_bytes (made_steps q))) (replicate 8 0);
      records' = all_report_bytes (made_reports q) ++ drop (length (all_report_bytes (made_reports q))) (replicate 22 0);
      enough = refl;
      meets =
          record {
            short = λ none. absurd (none refl);
            answer = λ e. refl;
            refused = λ e bad. absurd (bad good);
            accepted = λ e f. rw same (left bytes (behind rig_size (image first) (drop rig_size lent_bytes) worked_held.size));
            made_steps_lem = λ e. refl;
            made_records = λ e. refl;
          };
    }

-- both, one after the other
abbrev calls : List Made
calls = record { made = press 1 9 0; room = true; after = bytes } ∷ record { made = ask 2; room = true; after = bytes } ∷ []

played : Played bytes calls
unfolding Played MeetsBy
played = (press_meets, (ask_meets, refl))

pub live_example : LiveDemand3 2 (plan_read worked).plan bytes calls
live_example = live_demand_3 2 worked lent_bytes bytes calls start_meets played
