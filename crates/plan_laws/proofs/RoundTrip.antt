-- Reading and writing undo each other.
-- accepted_exactly: the files that the reader accepts are exactly the layouts of accepted plans.
-- one_file: an accepted plan has one file, and no other accepted plan has that file; same_output: two plan values with one meaning
-- are answered alike and written as the same bytes.
-- write_after_read: for every file that the reader accepts, writing what it returned gives the file.
-- read_after_write: for every plan that the writer accepts, reading what it wrote gives the plan, with its unused slots zero;
-- read_after_write_clear: gives the very plan value, where its unused slots are zero.
-- read_clear: the plan value that the reader returns, of any file, has its unused slots zero.
use mathlib.Core.Path.{◌≡◌, refl, sym, ◌∙◌, ap}
use mathlib.Core.Bool.{Bool, true, false}
use mathlib.Core.Logic.{◌↔◌}
use mathlib.Core.List.{List, [], ◌++◌}
use Prim.Native.Nat.{ℕ, ◌≤◌}
use native.Mathlib.Omega.{arith}
use lib.ListN.{length, take, drop}
use lib.Seq.{take_at}
use lib.Dec.{leb}
use borrow.Author.Tests.{le-leb}
use Rattle.std.specs.Prelude.{Ok, Err}
use Rattle.base.specs.Choice.{pick, unless}
use Rattle.plan.specs.declared.Plan.{Plan}
use Rattle.plan.specs.Answers.{PlanAnswer}
use Rattle.plan.specs.declared.Refusal.TheVariants.{OutputShort}
use Rattle.plan.specs.declared.PlanRead.{PlanRead}
use Rattle.plan.specs.Answers.{is_accepted}
use Rattle.plan.specs.Programs.{Programs, programs, canonical}
use Rattle.plan.specs.Layout.{layout}
use Rattle.plan.specs.Refusals.{plan_answer}
use Rattle.plan.specs.Files.{file_programs, file_answer}
use Rattle.plan.specs.Outcomes.{plan_read, write_answer_after, write_answer, write_output}
use Rattle.plan_laws.specs.Bytes.{Bytes}
use Rattle.plan_laws.specs.Clear.{Clear}
use Rattle.plan_laws.proofs.Canonical.{meaning_canonical, canonical_clear, canonical_none_clear, clear_canonical}
use Rattle.plan_laws.proofs.LayoutRead.{file_plan_lem, layout_read}
use Rattle.plan_laws.proofs.ReadLayout.{read_layout}

pub accepted_exactly : (b : List ℕ) → Bytes b → (file_answer b ≡ Ok tt) ↔ ((m : Programs) × (plan_answer m ≡ Ok tt) × (layout m ≡ b))
accepted_exactly b bytes = (
  λ h. let (l, p) = layout_read b bytes h in (file_programs b, p, l),
  λ h. let (m, p, l) = h in rw l at (read_layout m p).0,
)

pub one_file : (m n : Programs) → plan_answer m ≡ Ok tt → plan_answer n ≡ Ok tt → layout m ≡ layout n → m ≡ n
one_file m n p q e = sym (read_layout m p).1 ∙ ap file_programs e ∙ (read_layout n q).1

pub same_output : (p q : Plan) (out : List ℕ) → programs p ≡ programs q
    → (write_answer (programs p) out ≡ write_answer (programs q) out) × (write_output (programs p) out ≡ write_output (programs q) out)
same_output p q out e = (ap (λ (m : Programs). write_answer m out) e, ap (λ (m : Programs). write_output m out) e)

-- what reading returns
pub read_answer : (b : List ℕ) → (plan_read b).answer ≡ file_answer b
unfolding plan_read
read_answer b = refl

read_accepted : (b : List ℕ) → file_answer b ≡ Ok tt → plan_read b ≡ record { answer = Ok tt; plan = canonical (file_programs b) }
unfolding plan_read
read_accepted b h = rw h refl

-- what writing does
pub written : (m : Programs) (out : List ℕ) → plan_answer m ≡ Ok tt → length (layout m) ≤ length out → write_answer m out ≡ Ok (length (layout m))
unfolding write_answer
written m out h l = rw (h, le-leb (length (layout m)) (length out) l) refl

written_by : (m : Programs) (out : List ℕ) (n : ℕ) → write_answer m out ≡ Ok n → (plan_answer m ≡ Ok tt) × (length (layout m) ≡ n)
unfolding write_answer
written_by m out n h = go (plan_answer m) refl h
  where
    fits : (t : Bool) (size : ℕ) → unless t (Err OutputShort) (Ok size) ≡ Ok n → size ≡ n
    fits true size q = cc
    fits false size q = cc

    go : (a : PlanAnswer) → plan_answer m ≡ a → write_answer_after a (length (layout m)) (length out) ≡ Ok n
        → (plan_answer m ≡ Ok tt) × (length (layout m) ≡ n)
    go (Ok tt) e q = (e, fits (leb (length (layout m)) (length out)) (length (layout m)) q)
    go (Err r) e q = let z : ◌≡◌ {A = ℕ} 0 1 = cc in absurd (omega arith)

output_of : (m : Programs) (out : List ℕ) (n : ℕ) → write_answer m out ≡ Ok n → write_output m out ≡ layout m ++ drop n out
unfolding write_output
output_of m out n h = rw h refl

pub write_after_read : (b out : List ℕ) → Bytes b → (plan_read b).answer ≡ Ok tt → length b ≤ length out
    → (write_answer (programs (plan_read b).plan) out ≡ Ok (length b)) × (write_output (programs (plan_read b).plan) out ≡ b ++ drop (length b) out)
write_after_read b out bytes h room =
    let a : file_answer b ≡ Ok tt = sym (read_answer b) ∙ h in
    let m = file_programs b in
    let (l, p) = layout_read b bytes a in
    let same : programs (plan_read b).plan ≡ m = ap (λ (r : PlanRead). programs r.plan) (read_accepted b a) ∙ meaning_canonical m p in
    let w : write_answer m out ≡ Ok (length b) = rw l at (written m out p (rw l room)) in
    rw same (w, output_of m out (length b) w ∙ ap (λ (f : List ℕ). f ++ drop (length b) out) l)

pub read_after_write : (p : Plan) (out : List ℕ) (n : ℕ) → write_answer (programs p) out ≡ Ok n
    → plan_read (take n (write_output (programs p) out)) ≡ record { answer = Ok tt; plan = canonical (programs p) }
read_after_write p out n h =
    let m = programs p in
    let (a, size) = written_by m out n h in
    let (f, same) = read_layout m a in
    rw (output_of m out n h, take_at (layout m) (drop n out) n size, read_accepted (layout m) f, same) refl

pub read_after_write_clear : (p : Plan) (out : List ℕ) (n : ℕ) → Clear p → write_answer (programs p) out ≡ Ok n
    → plan_read (take n (write_output (programs p) out)) ≡ record { answer = Ok tt; plan = p }
read_after_write_clear p out n c h = read_after_write p out n h ∙ rw (clear_canonical p c) refl

pub read_clear : (b : List ℕ) → Clear (plan_read b).plan
unfolding plan_read
read_clear b = go (file_answer b) refl
  where
    go : (a : PlanAnswer) → file_answer b ≡ a → Clear (canonical (pick (is_accepted a) (file_programs b) []))
    go (Ok tt) e = canonical_clear (file_programs b) (file_plan_lem b e)
    go (Err r) e = canonical_none_clear
