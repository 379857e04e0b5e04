-- The sets of ready tasks, made in one pass: a task more joins the set of the desk that its first number names.
use mathlib.Core.Path.{◌≡◌, refl, sym, ◌∙◌}
use mathlib.Core.Bool.{Bool, true, false, ◌&&◌}
use mathlib.Core.List.{List}
use mathlib.Core.Logic.{by_cases}
use Prim.Native.Nat.{ℕ, zero, suc, ◌+◌, ◌*◌, ◌-◌, ◌/◌, ◌%◌, ◌<◌, ◌≤◌}
use native.Mathlib.Numerals.{add-one}
use native.Mathlib.Omega.{arith}
use native.Mathlib.Decide.{ℕ_discrete}
use lib.Dec.{eqb}
use lib.ListN.{get_or, set, length-set, replicate}
use lib.Seq.{get_or-set_same, get_or-set_other}
use borrow.Author.Tests.{ne_eqb, eq-eqb}
use Rattle.base.specs.Choice.{pick, within}
use Rattle.base.specs.Sets.{inserted, set_of}
use Rattle.base.proofs.Choices.{pick_either}
use Rattle.base.proofs.Tests.{tests_differ, within_low, within_high, within_both}
use Rattle.base.proofs.Tables.{get_d_table}
use Rattle.rules.specs.declared.task.TaskState.{TaskState}
use Rattle.rules.specs.declared.task.TaskState.TheVariants.{Unborn, Waiting, Sending, Receiving, Moving, Done}
use Rattle.rules.specs.Numbers.{task_id, processor_id}
use Rattle.rules.specs.Tasks.{no_task}
use Rattle.rules.specs.Systems.{task_in, is_ready_at}
use Rattle.board.specs.packing.Packed.{state_of, state_number, task_of, ready_desk}
use Rattle.board.specs.Lent.{task_on, set_on, ready_on, tasks_on}
use Rattle.board.proofs.Laws.{get_d_task}
use Rattle.rig_read.specs.Passing.{ready_at, ReadySets}

-- whether a task is ready at a desk, by its first number
abbrev NotReady : TaskState → Type 0
NotReady s = eqb (state_number s) 1 ≡ false

other_state : (n : ℕ) → (n ≡ 1 → ⊥) → NotReady (state_of n)
other_state n ne =
    rw (ne_eqb n 1 ne)
    (pick_either NotReady (eqb n 0) Unborn _ refl
    (pick_either NotReady (eqb n 2) Waiting _ refl
    (pick_either NotReady (eqb n 3) Sending _ refl
    (pick_either NotReady (eqb n 4) Receiving _ refl
    (pick_either NotReady (eqb n 5) Moving Done refl refl)))))

state_ready : (n : ℕ) → eqb (state_number (state_of n)) 1 ≡ eqb n 1
state_ready n = by_cases (ℕ_discrete n 1) (λ (e : n ≡ 1). rw e refl) (λ ne. other_state n ne ∙ sym (ne_eqb n 1 ne))

ready_number : (v c w d : ℕ) → 1 ≤ d → is_ready_at (processor_id d) (task_of v c w) ≡ eqb (ready_desk v) d
unfolding task_of
ready_number v c w d some = rw (state_ready (v % 128)) (go (eqb (v % 128) 1))
  where
    go : (b : Bool) → b && eqb (v / 256 % 256) d ≡ eqb (pick b (v / 256 % 256) 0) d
    go true = refl
    go false = sym (ne_eqb 0 d (λ e. omega arith))

blank : (n i : ℕ) → ◌≡◌ {A = ℕ} (get_or (replicate n 0) i 0) 0
blank zero i = refl
blank (suc n) zero = refl
blank (suc n) (suc i) = blank n i

module _ (x : List ℕ) where
  -- the desk that task t + 1's first number names
  abbrev pub desk_on : ℕ → ℕ
  desk_on t = ready_desk (get_or x (128 + 2 * t) 0)

  task_there : (t : ℕ) → t < 64 → task_in (tasks_on x) (task_id (suc t)) ≡ task_on x t
  unfolding task_in tasks_on
  task_there t h =
      let e : suc t - 1 ≡ t = omega arith in
      simp (ne_eqb (suc t) 0 (λ (q : suc t ≡ 0). omega arith), e, get_d_task x t no_task h)

  ready_here : (t d : ℕ) → t < 64 → 1 ≤ d → is_ready_at (processor_id d) (task_in (tasks_on x) (task_id (suc t))) ≡ eqb (desk_on t) d
  ready_here t d h some = rw (task_there t h) (ready_number (get_or x (128 + 2 * t) 0) (get_or x (129 + 2 * t) 0) (get_or x (256 + t) 0) d some)

  pub sets_none : ReadySets 0 x (replicate 7 0)
  unfolding set_of
  sets_none = record { long = refl; set = λ d some few. blank 7 d }

  -- one task more
  module _ {t : ℕ} {sets : List ℕ} (h : t < 64) (r : ReadySets t x sets) where
    joins : (d : ℕ) → 1 ≤ d → ready_at (t + 1) x d ≡ pick (eqb (desk_on t) d) (inserted (t + 1) (ready_at t x d)) (ready_at t x d)
    unfolding set_of
    joins d some = rw (add-one t, ready_here t d h some) refl

    pub sets_joined : {d s : ℕ} → d ≡ desk_on t → within 1 6 d ≡ true → s ≡ inserted (t + 1) (get_or sets d 0) → ReadySets (t + 1) x (set sets d s)
    sets_joined {d} {s} e w q =
        record {
          long = length-set sets d s ∙ r.long;
          set =
              λ i some few.
              by_cases
              (ℕ_discrete i d)
              (λ (z : i ≡ d).
              rw (z, joins d (within_low 1 6 d w), ← e, eq-eqb d d refl)
              (get_or-set_same sets d s 0 (omega (arith, r.long, within_high 1 6 d w)) ∙ q ∙ rw (r.set d (within_low 1 6 d w) (within_high 1 6 d w)) refl))
              (λ z. rw (joins i some, ← e, ne_eqb d i (λ y. z (sym y))) (get_or-set_other sets d i s 0 z ∙ r.set i some few));
        }

    pub sets_left : {d : ℕ} → d ≡ desk_on t → within 1 6 d ≡ false → ReadySets (t + 1) x sets
    sets_left {d} e w =
        record {
          long = r.long;
          set =
              λ i some few.
              rw (joins i some, ← e, ne_eqb d i (λ (y : d ≡ i). tests_differ (within_both 1 6 d (omega arith) (omega arith)) w)) (r.set i some few);
        }

  -- the stored set of the desk after k others
  pub stored : (k : ℕ) → k < 6 → get_or (tasks_on x).ready k 0 ≡ get_or x (1088 + k) 0
  unfolding tasks_on ready_on
  stored k h = get_d_table 6 (set_on x) k 0 h

  -- what is compared is that of desk k + 1
  pub compared : (m : ℕ) {sets : List ℕ} → ReadySets m x sets → (k : ℕ) → k < 6
      → eqb (get_or x (1088 + k) 0) (get_or sets (k + 1) 0) ≡ eqb (get_or (tasks_on x).ready k 0) (ready_at m x (suc k))
  compared m r k h = rw (r.set (k + 1) (omega arith) (omega arith), add-one k, stored k h) refl
