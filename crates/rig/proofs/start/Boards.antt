-- A board at the start: what is on an empty one, and with the first tasks unborn.
use mathlib.Core.Path.{◌≡◌, refl, sym, ◌∙◌}
use mathlib.Core.List.{List}
use mathlib.Core.Logic.{by_cases}
use Prim.Native.Nat.{ℕ, ◌+◌, ◌*◌, ◌<◌}
use native.Mathlib.Omega.{arith}
use native.Mathlib.Decide.{ℕ_discrete}
use lib.ListN.{get_or, set, length, length-set, replicate, length-replicate, get_or-replicate}
use lib.Seq.{get_or-set_same, get_or-set_other}
use Rattle.base.proofs.Tables.{all_same}
use Rattle.board.specs.packing.Packed.{low16, byte2, byte3, byte4, byte5, mark6, task_of, word_of}
use Rattle.rules.specs.Tasks.{unborn}
use Rattle.rules.specs.Starts.{unborn_tasks, no_channels, no_parents}
use Rattle.board.specs.Lent.{channel_column, channels_on, task_on, records_on, set_on, ready_on, tasks_on, parent_column, parents_on}

-- nothing is on the board but the places of the first n tasks
pub record Unborn (n : ℕ) (board : List ℕ) : Type 0 where
  pub whole : length board ≡ 1094
  pub channel : (k : ℕ) → k < 128 → get_or board k 0 ≡ 0
  pub place : (k : ℕ) → k < n → get_or board (128 + 2 * k) 0 ≡ 65536
  pub children : (k : ℕ) → k < 64 → get_or board (129 + 2 * k) 0 ≡ 0
  pub word : (k : ℕ) → k < 64 → get_or board (256 + k) 0 ≡ 0
  pub parent : (k : ℕ) → k < 768 → get_or board (320 + k) 0 ≡ 0
  pub ready : (k : ℕ) → k < 6 → get_or board (1088 + k) 0 ≡ 0

abbrev pub zeros : List ℕ
zeros = replicate 1094 0

pub unborn_none : Unborn 0 zeros
unborn_none =
    record {
      whole = length-replicate {A = ℕ} 1094 0;
      channel = λ k h. get_or-replicate 1094 k 0 0 (omega arith);
      place = λ k h. absurd (omega arith);
      children = λ k h. get_or-replicate 1094 (129 + 2 * k) 0 0 (omega arith);
      word = λ k h. get_or-replicate 1094 (256 + k) 0 0 (omega arith);
      parent = λ k h. get_or-replicate 1094 (320 + k) 0 0 (omega arith);
      ready = λ k h. get_or-replicate 1094 (1088 + k) 0 0 (omega arith);
    }

pub unborn_more : (n : ℕ) (board : List ℕ) → n < 64 → Unborn n board → Unborn (n + 1) (set board (128 + 2 * n) 65536)
unborn_more n board h u =
    let whole = u.whole in
    record {
      whole = length-set board (128 + 2 * n) 65536 ∙ whole;
      channel = λ k l. get_or-set_other board (128 + 2 * n) k 65536 0 (omega arith) ∙ u.channel k l;
      place = λ k l.
          by_cases
          (ℕ_discrete k n)
          (λ (e : k ≡ n). rw e (get_or-set_same board (128 + 2 * n) 65536 0 (omega arith)))
          (λ e. get_or-set_other board (128 + 2 * n) (128 + 2 * k) 65536 0 (omega arith) ∙ u.place k (omega arith));
      children = λ k l. get_or-set_other board (128 + 2 * n) (129 + 2 * k) 65536 0 (omega arith) ∙ u.children k l;
      word = λ k l. get_or-set_other board (128 + 2 * n) (256 + k) 65536 0 (omega arith) ∙ u.word k l;
      parent = λ k l. get_or-set_other board (128 + 2 * n) (320 + k) 65536 0 (omega arith) ∙ u.parent k l;
      ready = λ k l. get_or-set_other board (128 + 2 * n) (1088 + k) 65536 0 (omega arith) ∙ u.ready k l;
    }

module _ (n : ℕ) (board : List ℕ) (u : Unborn n board) where
  column : {A : Type 0} (f : ℕ → A) → channel_column f board ≡ replicate 128 (f 0)
  unfolding channel_column
  column f = sym (all_same 128 (λ k. f (get_or board k 0)) (f 0) (λ k h. rw (u.channel k h) refl))

  pub unborn_channels : channels_on board ≡ no_channels
  unfolding channels_on
  unborn_channels = rw (column byte5, column mark6, column byte3, column byte4, column byte2, column low16) refl

-- what desks keep for parents
module _ (n : ℕ) (board : List ℕ) (u : Unborn n board) where
  kept_none : (f : ℕ → ℕ) (i : ℕ) → i < 2 → f 0 ≡ 0 → parent_column f (320 + i) board ≡ replicate 384 0
  unfolding parent_column
  kept_none f i few z =
      sym
      (all_same 384 (λ k. f (get_or board (320 + i + 2 * k) 0)) 0
      (λ k h.
      let e : 320 + i + 2 * k ≡ 320 + (i + 2 * k) = omega arith in
      rw (e, u.parent (i + 2 * k) (omega arith)) z))

  pub unborn_parents : parents_on board ≡ no_parents
  unfolding parents_on
  unborn_parents = rw (kept_none byte2 0 (omega arith) refl, kept_none low16 0 (omega arith) refl, kept_none (λ v. v) 1 (omega arith) refl) refl

module _ (board : List ℕ) (u : Unborn 64 board) where
  unborn_records : records_on board ≡ replicate 64 unborn
  unfolding records_on task_of word_of
  unborn_records = sym (all_same 64 (task_on board) unborn (λ k h. rw (u.place k h, u.children k h, u.word k h) refl))

  none_ready : ready_on board ≡ replicate 6 0
  unfolding ready_on
  none_ready = sym (all_same 6 (set_on board) 0 u.ready)

  pub unborn_tasks_lem : tasks_on board ≡ unborn_tasks
  unfolding tasks_on
  unborn_tasks_lem = rw (unborn_records, none_ready) refl
