-- The outcome of a run, in the order 1 to 6, 8, 20; and the rig at the start of an accepted file.
use mathlib.Core.Path.{◌≡◌, refl, sym}
use mathlib.Core.Bool.{Bool, true, false}
use mathlib.Core.List.{List}
use Prim.Native.Nat.{ℕ, ◌/◌, ◌%◌, ◌≤◌}
use lib.Dec.{eqb, leb}
use lib.ListN.{length}
use borrow.Author.Tests.{leb-true}
use Rattle.std.specs.Prelude.{Ok, Err}
use Rattle.base.specs.Choice.{within}
use Rattle.base.proofs.Tests.{and_right}
use Rattle.plan.specs.declared.PlanRead.{PlanRead}
use Rattle.plan.specs.declared.Refusal.{Refusal}
use Rattle.plan.specs.declared.Refusal.TheVariants.{BadProcessors}
use Rattle.plan.specs.Programs.{programs, canonical}
use Rattle.plan.specs.Refusals.{plan_answer}
use Rattle.plan.specs.Files.{file_programs, file_answer, start_answer}
use Rattle.plan.specs.Outcomes.{plan_read}
use Rattle.plan_laws.proofs.Canonical.{meaning_canonical}
use Rattle.plan_laws.proofs.LayoutRead.{file_plan_lem}
use Rattle.rules.specs.declared.step.RunRefusal.TheVariants.{Unstarted, BadSteps, OutputShort}
use Rattle.rules.specs.declared.system.System.{System}
use Rattle.rules.specs.Starts.{started}
use Rattle.rules.specs.StepFiles.{steps_ok, file_steps, start_of, trace_lines, run_file_answer, run_file_text, run_file_output}
use Rattle.run.specs.all_steps.Writes.{Written}
use Rattle.run.proofs.all_steps.Fits.{written_filled}
use Rattle.run.specs.file.Writes.{RunFile}

-- the plan of a file that is read
module _ (p : List ℕ) {x : PlanRead} (h : x ≡ plan_read p) where
  pub read_answer : x.answer ≡ file_answer p
  unfolding plan_read
  read_answer = rw h refl

  pub read_plan_is : file_answer p ≡ Ok tt → x.plan ≡ canonical (file_programs p)
  unfolding plan_read
  read_plan_is a = rw (h, a) refl

pub plan_ok : (p : List ℕ) → file_answer p ≡ Ok tt → plan_answer (programs (canonical (file_programs p))) ≡ Ok tt
plan_ok p a =
    let ok = file_plan_lem p a in
    rw (meaning_canonical (file_programs p) ok) ok

pub start_is : (n : ℕ) (p : List ℕ) → started n (canonical (file_programs p)) ≡ start_of n p
unfolding start_of
start_is n p = refl

-- at most 2,000 steps
pub steps_few : (b : List ℕ) → steps_ok b ≡ true → length b / 4 ≤ 2000
unfolding steps_ok
steps_few b h = leb-true (length b / 4) 2000 (and_right (eqb (length b % 4) 0) (leb (length b / 4) 2000) h)

module _ (n : ℕ) (p b o : List ℕ) where
  -- refusals 1 to 6
  unstarted : (a : Refusal) → start_answer n p ≡ Err a → RunFile n p b o (Err (Unstarted a)) 0 o
  unfolding run_file_answer run_file_text run_file_output
  unstarted a e = record { answered = rw e refl; count = rw e refl; bytes = rw e refl }

  pub processors_refused : within 1 6 n ≡ false → RunFile n p b o (Err (Unstarted BadProcessors)) 0 o
  unfolding start_answer
  processors_refused d = unstarted BadProcessors (rw d refl)

  module _ (d : within 1 6 n ≡ true) where
    pub file_refused : (a : Refusal) → file_answer p ≡ Err a → RunFile n p b o (Err (Unstarted a)) 0 o
    unfolding start_answer
    file_refused a e = unstarted a (rw d e)

    module _ (a : file_answer p ≡ Ok tt) where
      begun : start_answer n p ≡ Ok tt
      unfolding start_answer
      begun = rw d a

      -- refusal 8
      pub steps_refused : steps_ok b ≡ false → RunFile n p b o (Err BadSteps) 0 o
      unfolding run_file_answer run_file_text run_file_output
      steps_refused s = record { answered = rw (begun, s) refl; count = rw (begun, s) refl; bytes = rw (begun, s) refl }

      module _ (s : steps_ok b ≡ true) {r : System} (q : r ≡ start_of n p) {f : ℕ} {w : Bool} {after : List ℕ} (h : Written (trace_lines r (file_steps b)) o f w after) where
        pub traced : w ≡ true → RunFile n p b o (Ok tt) f after
        unfolding run_file_answer run_file_text run_file_output
        traced e =
            let k = rw (q, e) at h in
            let t = sym k.all in
            let l = written_filled k in
            record { answered = rw (begun, s, t) refl; count = rw (begun, s, t) l.end; bytes = rw (begun, s, t) l.bytes }

        pub traced_short : w ≡ false → RunFile n p b o (Err OutputShort) f after
        unfolding run_file_answer run_file_text run_file_output
        traced_short e =
            let k = rw (q, e) at h in
            let t = sym k.all in
            record { answered = rw (begun, s, t) refl; count = rw (begun, s, t) k.count; bytes = rw (begun, s, t) k.bytes }
