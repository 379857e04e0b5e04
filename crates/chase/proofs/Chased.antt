-- The run: the opening, the rounds, the end; and what is said of it.
use mathlib.Core.Path.{◌≡◌, refl, subst, ◌∙◌}
use mathlib.Core.Bool.{true, false}
use mathlib.Core.List.{[], ◌∷◌, ◌++◌}
use mathlib.Core.Logic.{by_cases}
use Prim.Native.Nat.{ℕ, zero, suc, ◌+◌, ◌*◌, ◌/◌, ◌%◌, ◌≤◌}
use native.Mathlib.Omega.{arith}
use native.Mathlib.Decide.{ℕ_discrete}
use lib.Dec.{eqb, leb}
use borrow.Author.Tests.{lt-ltb, ne_eqb, eq-eqb, le-leb}
use Rattle.std.specs.Prelude.{Ok}
use Rattle.base.specs.Range.{fold, joined}
use Rattle.base.proofs.Tests.{and_both}
use Rattle.plan.specs.Files.{file_programs, start_answer}
use Rattle.plan.specs.Programs.{programs, canonical}
use Rattle.plan.specs.Refusals.{plan_answer}
use Rattle.rules.specs.declared.system.System.{System}
use Rattle.rules.specs.Steps.{run_step, move_step, quiescent}
use Rattle.rules.specs.StepFiles.{start_of, steps_ok}
use Rattle.rules.proofs.Evaluated.{evaluated}
use Rattle.rules_laws.proofs.Shapes.{started_shaped}
use Rattle.rules_sound.proofs.Starts.{started_ok}
use Rattle.claim.specs.Chase.{is_offer, posts_offer}
use Rattle.chase.specs.Construction.{chase_plan, opening, desk_after, round, ending, chase_steps, chase_file}
use Rattle.chase.specs.Chase.{chased, Chase}
use Rattle.chase.proofs.Walks.{Fine, Leads, Walks, stays, leads, walks_on, after}
use Rattle.chase.proofs.Rig.{Pointers, no_pointers, chase_rig}
use Rattle.chase.proofs.Rounds.{left_two, left_three, walks_round, turns_two, turns_three}
use Rattle.chase.proofs.Ending.{still_rests, Ends, ended, walks_ending, ends_at_2, ends_at_3}
use Rattle.chase.proofs.Files.{length_chase_file, steps_back}

abbrev start : System
start = start_of 3 chase_plan

-- the plan
pub plan_accepted : start_answer 3 chase_plan ≡ Ok tt
unfolding evaluated chase_plan
plan_accepted = refl

meaning_accepted : plan_answer (programs (canonical (file_programs chase_plan))) ≡ Ok tt
unfolding evaluated chase_plan
meaning_accepted = refl

start_fine : Fine start
unfolding start_of
start_fine =
    let p = canonical (file_programs chase_plan) in
    record { shaped = started_shaped 3 p; sound = started_ok 3 p (omega arith) (omega arith) meaning_accepted }

-- the opening
abbrev pub o1 : System
o1 = after start (run_step 1)

abbrev pub o2 : System
o2 = after o1 (move_step 2 2)

record Opens : Type 0 where
  pub s1 : Leads start (run_step 1) false
  pub s2 : Leads o1 (move_step 2 2) false
  pub s3 : Leads o2 (run_step 1) false
  pub opened : after o2 (run_step 1) ≡ chase_rig 2 2 no_pointers

opens : Opens
unfolding evaluated chase_plan chase_rig is_offer posts_offer
opens =
    record {
      s1 = record { answer = refl; handed = λ c w. refl };
      s2 = record { answer = refl; handed = λ c w. refl };
      s3 = record { answer = refl; handed = λ c w. refl };
      opened = refl;
    }

walks_opening : Walks start opening (chase_rig 2 2 no_pointers) 0
walks_opening =
    let w1 = leads start (run_step 1) false start_fine opens.s1 in
    let w2 = leads o1 (move_step 2 2) false w1.fine opens.s2 in
    let w3 = rw opens.opened at (leads o2 (run_step 1) false w2.fine opens.s3) in
    walks_on start o1 (chase_rig 2 2 no_pointers) (run_step 1 ∷ []) (move_step 2 2 ∷ run_step 1 ∷ []) 0 0 w1
    (walks_on o1 o2 (chase_rig 2 2 no_pointers) (move_step 2 2 ∷ []) (run_step 1 ∷ []) 0 0 w2 w3)

-- after k rounds the rig is this, with some pointers
record Reached (k : ℕ) : Type 0 where
  pub pointers : Pointers
  pub walks : Walks (chase_rig 2 2 no_pointers) (joined k round) (chase_rig (desk_after k) (k + 2) pointers) k

-- one round, by the desk that task 2 moves to
next_round : (k : ℕ) (x : Pointers) → k ≤ 499 → Fine (chase_rig (desk_after k) (k + 2) x)
    → (y : Pointers) × Walks (chase_rig (desk_after k) (k + 2) x) (round k) (chase_rig (desk_after (k + 1)) (k + 1 + 2) y) 1
next_round k x few z =
    let n = k + 2 in
    let other : eqb n 9999 ≡ false = ne_eqb n 9999 (λ e. omega arith) in
    let count : n + 1 ≡ k + 1 + 2 = omega arith in
    by_cases
    (ℕ_discrete (k % 2) 0)
    (λ (even : k % 2 ≡ 0).
    let here : desk_after k ≡ 2 = omega arith in
    let there : desk_after (k + 1) ≡ 3 = omega arith in
    let w = walks_round 2 3 n x (left_two x (n + 1)) (rw here at z) (turns_two n x other (lt-ltb n (n + 1) (omega arith))) in
    (left_two x (n + 1), rw (here, there, ← count) w))
    (λ odd.
    let here : desk_after k ≡ 3 = omega arith in
    let there : desk_after (k + 1) ≡ 2 = omega arith in
    let w = walks_round 3 2 n x (left_three x (n + 1)) (rw here at z) (turns_three n x other (lt-ltb n (n + 1) (omega arith))) in
    (left_three x (n + 1), rw (here, there, ← count) w))

reached : (k : ℕ) → k ≤ 500 → Reached k
unfolding fold
reached zero few = record { pointers = no_pointers; walks = stays (chase_rig 2 2 no_pointers) walks_opening.fine }
reached (suc k) few =
    let r = reached k (omega arith) in
    let x = r.pointers in
    let (y, w) = next_round k x (omega arith) r.walks.fine in
    let up : k + 1 ≡ suc k = omega arith in
    let on = walks_on (chase_rig 2 2 no_pointers) (chase_rig (desk_after k) (k + 2) x) (chase_rig (desk_after (k + 1)) (k + 1 + 2) y) (joined k round) (round k) k 1 r.walks w in
    record { pointers = y; walks = subst (λ (j : ℕ). Walks (chase_rig 2 2 no_pointers) (joined k round ++ round k) (chase_rig (desk_after j) (j + 2) y) j) up on }

-- the end, by the desk
ends : (k n : ℕ) (x : Pointers) → Ends (desk_after k) n x
ends k n x =
    by_cases
    (ℕ_discrete (k % 2) 0)
    (λ (even : k % 2 ≡ 0). let here : desk_after k ≡ 2 = omega arith in rw here (ends_at_2 n x))
    (λ odd. let here : desk_after k ≡ 3 = omega arith in rw here (ends_at_3 n x))

-- all steps
record Runs (m : ℕ) : Type 0 where
  pub last : System
  pub walks : Walks start (chase_steps m) last m
  pub rests : quiescent last ≡ true

runs : (m : ℕ) → m ≤ 500 → Runs m
unfolding chase_steps
runs m few =
    let r = reached m few in
    let x = r.pointers in
    let d = desk_after m in
    let n = m + 2 in
    let e = ends m n x in
    let q = ended d n x in
    let w = walks_ending d n x r.walks.fine e in
    let rest = walks_on (chase_rig 2 2 no_pointers) (chase_rig d n x) q (joined m round) ending m 0 r.walks w in
    let all = walks_on start (chase_rig 2 2 no_pointers) q opening (joined m round ++ ending) 0 (m + 0) walks_opening rest in
    let same : 0 + (m + 0) ≡ m = omega arith in
    record { last = q; walks = rw same at all; rests = still_rests q e.still }

file_ok : (m : ℕ) → m ≤ 500 → steps_ok (chase_file m) ≡ true
unfolding steps_ok
file_ok m few =
    rw (length_chase_file m)
    (and_both (eqb ((12 * m + 44) % 4) 0) (leb ((12 * m + 44) / 4) 2000)
    (eq-eqb ((12 * m + 44) % 4) 0 (omega arith))
    (le-leb ((12 * m + 44) / 4) 2000 (omega arith)))

pub chase_made : (m : ℕ) → m ≤ 500 → Chase m chase_plan (chase_file m)
chase_made m few =
    let r = runs m few in
    let w = r.walks in
    let back = steps_back (chase_steps m) in
    record {
      plan = plan_accepted;
      file = file_ok m few;
      accepted = rw back w.accepted;
      forwarded = rw back (w.forwarded chased 1 ∙ (omega arith));
      no_other = λ c o h. rw back (w.forwarded c o ∙ rw h (omega arith));
      rests = rw (back, w.to) r.rests;
    }
