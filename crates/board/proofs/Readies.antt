-- The sets of ready tasks on a board: one is stored, and what a task's first number says of them.
use mathlib.Core.Path.{◌≡◌, refl, sym, ◌∙◌, ap}
use mathlib.Core.Bool.{Bool, true, false, ◌&&◌}
use mathlib.Core.List.{List, [], ◌∷◌}
use mathlib.Core.Logic.{by_cases}
use Prim.Native.Nat.{ℕ, suc, ◌+◌, ◌-◌, ◌*◌, ◌/◌, ◌%◌, ◌<◌, ◌≤◌}
use native.Mathlib.Omega.{arith}
use native.Mathlib.Decide.{ℕ_discrete}
use lib.Dec.{eqb}
use lib.ListN.{get_or, set, length, length-set}
use lib.Seq.{get_or-set_same, get_or-set_other, ext_get_or}
use borrow.Author.Tests.{eqb-true, eq-eqb, ne_eqb}
use Rattle.base.specs.Choice.{pick}
use Rattle.base.specs.Lists.{table}
use Rattle.base.specs.Sets.{inserted, removed}
use Rattle.base.proofs.Choices.{pick_either}
use Rattle.base.proofs.Tables.{length_table, get_d_table, table_same}
use Rattle.plan.specs.declared.TaskId.{TaskId}
use Rattle.rules.specs.declared.task.Task.{Task}
use Rattle.rules.specs.declared.task.TaskState.{TaskState}
use Rattle.rules.specs.declared.task.TaskState.TheVariants.{Unborn, Waiting, Sending, Receiving, Moving, Done}
use Rattle.rules.specs.Numbers.{processor_id}
use Rattle.rules.specs.Tasks.{no_task, state_number}
use Rattle.rules.specs.Systems.{is_ready_at, ready_then, ready_sets, task_in, task_stored}
use Rattle.rules_laws.proofs.TaskAt.{length_ready_sets, ready_sets_at, task_in_some, task_stored_some}
use Rattle.board.specs.packing.Packed.{state_of, task_of, task_word, word_number, ready_desk}
use Rattle.board.specs.Lent.{set_on, ready_on, records_on, tasks_on, ready_moved, TaskPut, SetPut, SameStanding}
use Rattle.board.proofs.Laws.{get_d_task, keep_records, keep_parents_above}
use Rattle.board.proofs.Stores.{NarrowTask, same_task_lem, task_written, ready_kept, channels_kept, parents_kept, channels_above}

-- the set of desk d, one of six, becomes v
module _ (board : List ℕ) (d : ℕ) (v : ℕ) (long : length board ≡ 1094) (some : 1 ≤ d) (few : d ≤ 6) where
  abbrev stored : List ℕ
  stored = set board (1087 + d) v

  at_desk : (k : ℕ) → k < 6 → set_on stored k ≡ pick (eqb d (suc k)) v (set_on board k)
  at_desk k l =
      by_cases
      (ℕ_discrete d (suc k))
      (λ (e : d ≡ suc k).
      let i : 1088 + k ≡ 1087 + d = omega arith in
      rw (eq-eqb d (suc k) e, i) (get_or-set_same board (1087 + d) v 0 (omega arith)))
      (λ ne. rw (ne_eqb d (suc k) ne) (get_or-set_other board (1087 + d) (1088 + k) v 0 (λ (q : 1088 + k ≡ 1087 + d). ne (omega arith))))

  -- where it is what f gives there
  pub set_put : (f : ℕ → ℕ) → v ≡ f (get_or board (1087 + d) 0) → SetPut (λ e s. pick (eqb d e) (f s) s) board stored
  unfolding ready_on
  set_put f q =
      record {
        whole = simp (length-set, long);
        ready =
            table_same 6 (set_on stored) (λ k. pick (eqb d (suc k)) (f (set_on board k)) (set_on board k))
            (λ k l. at_desk k l ∙ chosen k l);
        records = keep_records board (1087 + d) v (omega arith);
        channels = channels_above board (1087 + d) v (omega arith);
        parents = keep_parents_above board (1087 + d) v (omega arith);
      }
    where
      chosen : (k : ℕ) → k < 6 → pick (eqb d (suc k)) v (set_on board k) ≡ pick (eqb d (suc k)) (f (set_on board k)) (set_on board k)
      chosen k l =
          by_cases
          (ℕ_discrete d (suc k))
          (λ (e : d ≡ suc k). let i : 1087 + d ≡ 1088 + k = omega arith in rw (eq-eqb d (suc k) e) (q ∙ rw i refl))
          (λ ne. rw (ne_eqb d (suc k) ne) refl)

-- of another number no set changes
pub set_stays : (board : List ℕ) (d : ℕ) (f : ℕ → ℕ) → length board ≡ 1094 → (1 ≤ d → d ≤ 6 → ⊥) → SetPut (λ e s. pick (eqb d e) (f s) s) board board
unfolding ready_on
set_stays board d f long out =
    record {
      whole = long;
      ready =
          table_same 6 (set_on board) (λ k. pick (eqb d (suc k)) (f (set_on board k)) (set_on board k))
          (λ k l. rw (ne_eqb d (suc k) (λ e. out (omega arith) (omega arith))) refl);
      records = refl;
      channels = refl;
      parents = refl;
    }

-- one set by itself after another
set_read : (f : ℕ → ℕ → ℕ) (board board' : List ℕ) → SetPut f board board' → (k : ℕ) → k < 6 → set_on board' k ≡ f (suc k) (set_on board k)
unfolding ready_on
set_read f board board' p k l =
    sym (get_d_table 6 (set_on board') k 0 l) ∙ ap (λ (xs : List ℕ). get_or xs k 0) p.ready ∙ get_d_table 6 (λ j. f (suc j) (set_on board j)) k 0 l

-- boards with the same sets
pub sets_same : (f : ℕ → ℕ → ℕ) (one two : List ℕ) → ready_on one ≡ ready_on two → table 6 (λ k. f (suc k) (set_on one k)) ≡ table 6 (λ k. f (suc k) (set_on two k))
unfolding ready_on
sets_same f one two e =
    table_same 6 (λ k. f (suc k) (set_on one k)) (λ k. f (suc k) (set_on two k))
    (λ k l. ap (f (suc k)) (sym (get_d_table 6 (set_on one) k 0 l) ∙ ap (λ (xs : List ℕ). get_or xs k 0) e ∙ get_d_table 6 (set_on two) k 0 l))

module _ (t was is : ℕ) where
  -- a task that is ready where it was
  moved_same : (d s : ℕ) → was ≡ is → s ≡ ready_moved t was is d s
  moved_same d s e = rw e (go (eqb is d))
    where
      go : (b : Bool) → s ≡ pick b (pick b s (removed t s)) (pick b (inserted t s) s)
      go true = refl
      go false = refl

  -- one that leaves a set and joins another
  moved_on : (d s : ℕ) → (was ≡ is → ⊥)
      → pick (eqb is d) (inserted t (pick (eqb was d) (removed t s) s)) (pick (eqb was d) (removed t s) s) ≡ ready_moved t was is d s
  moved_on d s ne = go (eqb was d) (eqb is d) refl refl
    where
      go : (b c : Bool) → eqb was d ≡ b → eqb is d ≡ c
          → pick c (inserted t (pick b (removed t s) s)) (pick b (removed t s) s) ≡ pick b (pick c s (removed t s)) (pick c (inserted t s) s)
      go true true p q = absurd (ne (eqb-true was d p ∙ sym (eqb-true is d q)))
      go true false p q = refl
      go false true p q = refl
      go false false p q = refl

module _ (board : List ℕ) (t was is : ℕ) where
  pub none_moved : length board ≡ 1094 → was ≡ is → SetPut (ready_moved t was is) board board
  unfolding ready_on
  none_moved long e =
      record {
        whole = long;
        ready = table_same 6 (set_on board) (λ k. ready_moved t was is (suc k) (set_on board k)) (λ k l. moved_same t was is (suc k) (set_on board k) e);
        records = refl;
        channels = refl;
        parents = refl;
      }

  pub left_joined : (left joined : List ℕ) → (was ≡ is → ⊥) → SetPut (λ e s. pick (eqb was e) (removed t s) s) board left
      → SetPut (λ e s. pick (eqb is e) (inserted t s) s) left joined → SetPut (ready_moved t was is) board joined
  left_joined left joined ne p q =
      record {
        whole = q.whole;
        ready =
            q.ready
            ∙ table_same 6 (λ k. pick (eqb is (suc k)) (inserted t (set_on left k)) (set_on left k)) (λ k. ready_moved t was is (suc k) (set_on board k))
            (λ k l. rw (set_read (λ e s. pick (eqb was e) (removed t s) s) board left p k l) (moved_on t was is (suc k) (set_on board k) ne));
        records = q.records ∙ p.records;
        channels = q.channels ∙ p.channels;
        parents = q.parents ∙ p.parents;
      }

-- whether a task is ready at a desk, by its first number
abbrev NotReady : TaskState → Type 0
NotReady s = eqb (state_number s) 1 ≡ false

other_state : (n : ℕ) → (n ≡ 1 → ⊥) → NotReady (state_of n)
other_state n ne =
    rw (ne_eqb n 1 ne)
    (pick_either NotReady (eqb n 0) Unborn _ refl
    (pick_either NotReady (eqb n 2) Waiting _ refl
    (pick_either NotReady (eqb n 3) Sending _ refl
    (pick_either NotReady (eqb n 4) Receiving _ refl
    (pick_either NotReady (eqb n 5) Moving Done refl refl)))))

state_ready : (n : ℕ) → eqb (state_number (state_of n)) 1 ≡ eqb n 1
state_ready n = by_cases (ℕ_discrete n 1) (λ (e : n ≡ 1). rw e refl) (λ ne. other_state n ne ∙ sym (ne_eqb n 1 ne))

ready_number : (v c w k : ℕ) → is_ready_at (processor_id (suc k)) (task_of v c w) ≡ eqb (ready_desk v) (suc k)
unfolding task_of
ready_number v c w k = rw (state_ready (v % 128)) (go (eqb (v % 128) 1))
  where
    go : (b : Bool) → b && eqb (v / 256 % 256) (suc k) ≡ eqb (pick b (v / 256 % 256) 0) (suc k)
    go true = refl
    go false = sym (ne_eqb 0 (suc k) (λ e. omega arith))

-- a set by the desks where the task was ready and is
then_moved : (t : TaskId) (x y : Task) (k s was is : ℕ) → is_ready_at (processor_id (suc k)) x ≡ eqb was (suc k) → is_ready_at (processor_id (suc k)) y ≡ eqb is (suc k)
    → ready_moved t.0 was is (suc k) s ≡ ready_then t x y (processor_id (suc k)) s
unfolding ready_then
then_moved t x y k s was is p q = rw (← p, ← q) refl

-- the sets where task t's first number was v, and it becomes x
module _ (board : List ℕ) (t : TaskId) (x : Task) {v : ℕ} (some : 1 ≤ t.0) (few : t.0 ≤ 64) (e : v ≡ get_or board (126 + 2 * t.0) 0) (small : NarrowTask x) where
  was_ready : (k : ℕ) → is_ready_at (processor_id (suc k)) (task_in (tasks_on board) t) ≡ eqb (ready_desk v) (suc k)
  unfolding tasks_on
  was_ready k =
      let i : 126 + 2 * t.0 ≡ 128 + 2 * (t.0 - 1) = omega arith in
      let f : v ≡ get_or board (128 + 2 * (t.0 - 1)) 0 = rw (← i) e in
      rw (task_in_some (tasks_on board) t some, get_d_task board (t.0 - 1) no_task (omega arith), ← f) (ready_number v _ _ k)

  is_ready : (k : ℕ) → is_ready_at (processor_id (suc k)) x ≡ eqb (ready_desk (task_word x)) (suc k)
  is_ready k = ap (is_ready_at (processor_id (suc k))) (sym (same_task_lem x small)) ∙ ready_number (task_word x) x.children (word_number x.word) k

  abbrev after : ℕ → ℕ
  after k = ready_moved t.0 (ready_desk v) (ready_desk (task_word x)) (suc k) (set_on board k)

  pub sets_moved : table 6 after ≡ ready_sets 1 t (task_in (tasks_on board) t) x (ready_on board)
  unfolding ready_on
  sets_moved =
      let y : Task = task_in (tasks_on board) t in
      ext_get_or 0 (table 6 after) (ready_sets 1 t y x (ready_on board))
      (simp (length_table, length_ready_sets))
      (λ k l.
      let h : k < 6 = simp length_table at l in
      let one : 1 + k ≡ suc k = omega arith in
      get_d_table 6 after k 0 h
      ∙ then_moved t y x k (set_on board k) (ready_desk v) (ready_desk (task_word x)) (was_ready k) (is_ready k)
      ∙ sym
      (ready_sets_at 1 t y x (ready_on board) k (rw (length_table 6 (set_on board)) h)
      ∙ rw (one, get_d_table 6 (set_on board) k 0 h) refl))

-- and where it stands as it did
pub standing : (d : ℕ) (t : TaskId) (x y : Task) (ss : List ℕ) → SameStanding x y → ready_sets d t x y ss ≡ ss
unfolding ready_sets ready_then
standing d t x y [] e = refl
standing d t x y (s ∷ ss) e = rw (standing (suc d) t x y ss e, e.0, e.1) (ap (λ (n : ℕ). n ∷ ss) (same (is_ready_at (processor_id d) y)))
  where
    same : (b : Bool) → pick b (pick b s (removed t.0 s)) (pick b (inserted t.0 s) s) ≡ s
    same true = refl
    same false = refl

-- a task is stored with its place in the sets
pub table_stored : (board board' : List ℕ) (t : TaskId) (x : Task) → 1 ≤ t.0 → records_on board' ≡ set (records_on board) (t.0 - 1) x
    → ready_on board' ≡ ready_sets 1 t (task_in (tasks_on board) t) x (ready_on board) → tasks_on board' ≡ task_stored (tasks_on board) t x
unfolding tasks_on
table_stored board board' t x some p q = rw (task_stored_some (tasks_on board) t x some, p, q) refl

-- its three numbers, then the sets
module _ (board : List ℕ) (t : TaskId) (x : Task) {m w v : ℕ} (e : m ≡ t.0) (some : 1 ≤ t.0) (few : t.0 ≤ 64) (long : length board ≡ 1094) (we : w ≡ task_word x) (ve : v ≡ word_number x.word) (small : NarrowTask x) where
  abbrev numbers : List ℕ
  numbers = set (set (set board (126 + 2 * m) w) (126 + 2 * m + 1) x.children) (255 + m) v

  pub task_put : (board' : List ℕ) → SetPut (ready_moved t.0 (ready_desk (get_or board (126 + 2 * m) 0)) (ready_desk w)) numbers board' → TaskPut t x board board'
  task_put board' p =
      let n = t.0 in
      let f : ℕ → ℕ → ℕ = ready_moved n (ready_desk (get_or board (126 + 2 * m) 0)) (ready_desk w) in
      let old : get_or board (126 + 2 * m) 0 ≡ get_or board (126 + 2 * t.0) 0 = rw e refl in
      let sets = sets_moved board t x some few old small in
      let stay = sets_same f numbers board (ready_kept board n x e some few long we ve small) in
      (p.whole, table_stored board board' t x some (p.records ∙ task_written board n x e some few long we ve small) (p.ready ∙ stay ∙ rw we sets), p.channels ∙ channels_kept board n x e some few long we ve small, p.parents ∙ parents_kept board n x e some few long we ve small)
