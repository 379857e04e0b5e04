-- A number stored on a board changes one entry of one part.
use mathlib.Core.Path.{◌≡◌, refl, sym, ap, ◌∙◌}
use mathlib.Core.List.{List}
use mathlib.Core.Logic.{◌≢◌}
use Prim.Native.Nat.{ℕ, ◌+◌, ◌*◌, ◌<◌, ◌≤◌}
use native.Mathlib.Omega.{arith}
use lib.ListN.{get_or, set, length, length-set}
use lib.Seq.{get_or-set_same, get_or-set_other}
use Rattle.base.specs.Lists.{table}
use Rattle.base.proofs.Tables.{get_d_table, table_same, set_table}
use Rattle.board.specs.packing.Packed.{task_of, byte2, low16}
use Rattle.rules.specs.declared.task.Task.{Task}
use Rattle.rules.specs.Tasks.{no_task}
use Rattle.board.specs.Lent.{channel_column, task_on, records_on, set_on, ready_on, tasks_on, parent_column, parents_on}

module _ {A : Type 0} (f : ℕ → A) (board : List ℕ) where
  pub get_d_channel : (i : ℕ) (d : A) → i < 128 → get_or (channel_column f board) i d ≡ f (get_or board i 0)
  unfolding channel_column
  get_d_channel i d h = get_d_table 128 (λ j. f (get_or board (j) 0)) i d h

  pub set_channel : (i w : ℕ) (v d : A) → i < 128 → i < length board → f w ≡ v → channel_column f (set board (i) w) ≡ set (channel_column f board) i v
  unfolding channel_column
  set_channel i w v d h l e =
      sym
      (ap (λ (x : A). set (table 128 (λ j. f (get_or board (j) 0))) i x) (sym e ∙ ap f (sym (get_or-set_same board (i) w 0 l)))
      ∙ set_table 128 (λ j. f (get_or board (j) 0)) (λ j. f (get_or (set board (i) w) (j) 0)) i d h
      (λ j b ne. ap f (sym (get_or-set_other board (i) (j) w 0 ne))))

  keep : (i w : ℕ) → ((j : ℕ) → j < 128 → j ≢ i) → channel_column f (set board i w) ≡ channel_column f board
  unfolding channel_column
  keep i w other =
      table_same 128 (λ j. f (get_or (set board i w) (j) 0)) (λ j. f (get_or board (j) 0)) (λ j b. ap f (get_or-set_other board i (j) w 0 (other j b)))

  pub keep_channel_above : (i w : ℕ) → 128 ≤ i → channel_column f (set board i w) ≡ channel_column f board
  keep_channel_above i w h = keep i w (λ j b (e : j ≡ i). omega arith)

module _ (board : List ℕ) where
  pub get_d_task : (k : ℕ) (d : Task) → k < 64 → get_or (records_on board) k d ≡ task_on board k
  unfolding records_on
  get_d_task k d h = get_d_table 64 (task_on board) k d h

  records_beside : (i w : ℕ) → ((j : ℕ) → 128 ≤ j → j < 320 → j ≢ i) → records_on (set board i w) ≡ records_on board
  unfolding records_on
  records_beside i w other =
      table_same 64 (task_on (set board i w)) (task_on board)
      (λ j b.
      rw (
        get_or-set_other board i (128 + 2 * j) w 0 (other (128 + 2 * j) (omega arith) (omega arith)),
        get_or-set_other board i (129 + 2 * j) w 0 (other (129 + 2 * j) (omega arith) (omega arith)),
        get_or-set_other board i (256 + j) w 0 (other (256 + j) (omega arith) (omega arith)),
      )
      refl)

  pub keep_records : (i w : ℕ) → 320 ≤ i → records_on (set board i w) ≡ records_on board
  keep_records i w h = records_beside i w (λ j low high (e : j ≡ i). omega arith)

  pub keep_ready : (i w : ℕ) → i < 1088 → ready_on (set board i w) ≡ ready_on board
  unfolding ready_on
  keep_ready i w h =
      table_same 6 (set_on (set board i w)) (set_on board) (λ j b. get_or-set_other board i (1088 + j) w 0 (λ (e : 1088 + j ≡ i). omega arith))

  pub keep_tasks : (i w : ℕ) → i < 128 → tasks_on (set board i w) ≡ tasks_on board
  unfolding tasks_on
  keep_tasks i w h = rw (records_beside i w (λ j low high (e : j ≡ i). omega arith), keep_ready i w (omega arith)) refl

  pub keep_tasks_above : (i w : ℕ) → 320 ≤ i → i < 1088 → tasks_on (set board i w) ≡ tasks_on board
  unfolding tasks_on
  keep_tasks_above i w h l = rw (keep_records i w h, keep_ready i w l) refl

-- a column of what desks keep for parents, whose numbers are at start, start + 2, ..
module _ (f : ℕ → ℕ) (start : ℕ) (board : List ℕ) where
  pub get_d_parent : (i d : ℕ) → i < 384 → get_or (parent_column f start board) i d ≡ f (get_or board (start + 2 * i) 0)
  unfolding parent_column
  get_d_parent i d h = get_d_table 384 (λ k. f (get_or board (start + 2 * k) 0)) i d h

  pub set_parent : (i w v : ℕ) → i < 384 → start + 2 * i < length board → f w ≡ v
      → parent_column f start (set board (start + 2 * i) w) ≡ set (parent_column f start board) i v
  unfolding parent_column
  set_parent i w v h l e =
      sym
      (ap (λ (x : ℕ). set (table 384 (λ k. f (get_or board (start + 2 * k) 0))) i x) (sym e ∙ ap f (sym (get_or-set_same board (start + 2 * i) w 0 l)))
      ∙ set_table 384 (λ k. f (get_or board (start + 2 * k) 0)) (λ k. f (get_or (set board (start + 2 * i) w) (start + 2 * k) 0)) i 0 h
      (λ j b ne. ap f (sym (get_or-set_other board (start + 2 * i) (start + 2 * j) w 0 (λ (q : start + 2 * j ≡ start + 2 * i). ne (omega arith))))))

  pub keep_parent : (i w : ℕ) → ((j : ℕ) → j < 384 → start + 2 * j ≢ i) → parent_column f start (set board i w) ≡ parent_column f start board
  unfolding parent_column
  keep_parent i w other =
      table_same 384 (λ k. f (get_or (set board i w) (start + 2 * k) 0)) (λ k. f (get_or board (start + 2 * k) 0))
      (λ j b. ap f (get_or-set_other board i (start + 2 * j) w 0 (other j b)))

parents_beside : (board : List ℕ) (i w : ℕ) → ((j : ℕ) → 320 ≤ j → j < 1088 → j ≢ i) → parents_on (set board i w) ≡ parents_on board
unfolding parents_on
parents_beside board i w other =
    rw (
      keep_parent byte2 320 board i w (λ j b. other (320 + 2 * j) (omega arith) (omega arith)),
      keep_parent low16 320 board i w (λ j b. other (320 + 2 * j) (omega arith) (omega arith)),
      keep_parent (λ v. v) 321 board i w (λ j b. other (321 + 2 * j) (omega arith) (omega arith)),
    )
    refl

pub keep_parents : (board : List ℕ) (i w : ℕ) → i < 320 → parents_on (set board i w) ≡ parents_on board
keep_parents board i w h = parents_beside board i w (λ j low high (e : j ≡ i). omega arith)

pub keep_parents_above : (board : List ℕ) (i w : ℕ) → 1088 ≤ i → parents_on (set board i w) ≡ parents_on board
keep_parents_above board i w h = parents_beside board i w (λ j low high (e : j ≡ i). omega arith)

-- the three numbers of task k + 1 are stored
module _ (board : List ℕ) (k w c v : ℕ) (h : k < 64) (l : length board ≡ 1094) where
  abbrev one : List ℕ
  one = set board (128 + 2 * k) w

  abbrev two : List ℕ
  two = set one (129 + 2 * k) c

  abbrev three : List ℕ
  three = set two (256 + k) v

  long : length two ≡ 1094
  long = simp (length-set, l)

  past : (i : ℕ) → i ≢ 128 + 2 * k → i ≢ 129 + 2 * k → i ≢ 256 + k → get_or three i 0 ≡ get_or board i 0
  past i p q r = get_or-set_other two (256 + k) i v 0 r ∙ get_or-set_other one (129 + 2 * k) i c 0 q ∙ get_or-set_other board (128 + 2 * k) i w 0 p

  here : task_on three k ≡ task_of w c v
  here =
      rw (
        get_or-set_other two (256 + k) (128 + 2 * k) v 0 (λ (q : 128 + 2 * k ≡ 256 + k). omega arith),
        get_or-set_other one (129 + 2 * k) (128 + 2 * k) c 0 (λ (q : 128 + 2 * k ≡ 129 + 2 * k). omega arith),
        get_or-set_same board (128 + 2 * k) w 0 (omega arith),
        get_or-set_other two (256 + k) (129 + 2 * k) v 0 (λ (q : 129 + 2 * k ≡ 256 + k). omega arith),
        get_or-set_same one (129 + 2 * k) c 0 (rw (length-set board (128 + 2 * k) w) (omega arith)),
        get_or-set_same two (256 + k) v 0 (rw long (omega arith)),
      )
      refl

  other : (j : ℕ) → j < 64 → j ≢ k → task_on board j ≡ task_on three j
  other j b ne =
      rw (
        past (128 + 2 * j) (λ (q : 128 + 2 * j ≡ 128 + 2 * k). ne (omega arith)) (λ (q : 128 + 2 * j ≡ 129 + 2 * k). omega arith) (λ (q : 128 + 2 * j ≡ 256 + k). omega arith),
        past (129 + 2 * j) (λ (q : 129 + 2 * j ≡ 128 + 2 * k). omega arith) (λ (q : 129 + 2 * j ≡ 129 + 2 * k). ne (omega arith)) (λ (q : 129 + 2 * j ≡ 256 + k). omega arith),
        past (256 + j) (λ (q : 256 + j ≡ 128 + 2 * k). omega arith) (λ (q : 256 + j ≡ 129 + 2 * k). omega arith) (λ (q : 256 + j ≡ 256 + k). ne (omega arith)),
      )
      refl

  pub set_task : (x : Task) → task_of w c v ≡ x → records_on three ≡ set (records_on board) k x
  unfolding records_on
  set_task x e =
      sym (ap (λ (y : Task). set (table 64 (task_on board)) k y) (sym e ∙ sym here) ∙ set_table 64 (task_on board) (task_on three) k no_task h other)
