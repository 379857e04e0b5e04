-- The numbers of a board, section by section: those that the definitions say of the rig, and how many they are.
use mathlib.Core.Path.{◌≡◌, refl, ap, ◌∙◌}
use mathlib.Core.Bool.{false}
use mathlib.Core.List.{List, [], ◌∷◌, ◌++◌}
use Prim.Native.Nat.{ℕ, ◌*◌, ◌<◌, ◌≤◌}
use native.Mathlib.Omega.{arith}
use lib.ListN.{length, get_or, length-append}
use Rattle.base.specs.Range.{joined}
use Rattle.base.specs.Lists.{table}
use Rattle.base.proofs.Tables.{table_same, length_table}
use Rattle.base.proofs.Folds.{fold_same}
use Rattle.plan.specs.declared.Plan.{Plan}
use Rattle.rules.specs.declared.message.Network.{Network}
use Rattle.rules.specs.Tasks.{no_task}
use Rattle.rules.specs.Systems.{read_channel, read_parent}
use Rattle.board.specs.packing.Packed.{channel_of, channel_word, task_of, task_word, word_number, hint_word, low16, byte2, byte3, byte4, byte5, mark6}
use Rattle.board.specs.Lent.{Lent, channels_on, tasks_on, parents_on, ready_on, set_on}
use Rattle.board.proofs.Laws.{get_d_channel, get_d_task, get_d_parent}
use Rattle.plan_write.specs.output.Output.{overlay}
use Rattle.image.specs.Numbers.{numbers_bytes}
use Rattle.image.specs.Image.{board_numbers}
use Rattle.image_laws.specs.Parts.{system_on}
use Rattle.image_laws.proofs.Numbers.{length_numbers, numbers_append}
use Rattle.image_laws.proofs.Pieces.{length_rows}
use Rattle.rig_write.specs.Sections.{channel_tidy, task_tidy, word_tidy, hint_tidy, channel_at, task_at, word_at, parent_at, tidy_numbers}
use Rattle.rig_write.proofs.Puts.{five_puts}

module _ (x : List ℕ) where
  channel_same : (k : ℕ) → k < 128 → channel_word (read_channel (channels_on x) k) ≡ channel_at x k
  unfolding channels_on channel_tidy channel_of
  channel_same k h =
      rw (
        get_d_channel byte5 x k 0 h,
        get_d_channel mark6 x k false h,
        get_d_channel byte3 x k 0 h,
        get_d_channel byte4 x k 0 h,
        get_d_channel byte2 x k 0 h,
        get_d_channel low16 x k 0 h,
      )
      refl

  task_same : (k : ℕ) → k < 64
      → ◌≡◌ {A = List ℕ} (task_word (get_or (tasks_on x).records k no_task) ∷ (get_or (tasks_on x).records k no_task).children ∷ []) (task_at x k)
  unfolding tasks_on task_tidy task_of
  task_same k h = rw (get_d_task x k no_task h) refl

  word_same : (k : ℕ) → k < 64 → word_number (get_or (tasks_on x).records k no_task).word ≡ word_at x k
  unfolding tasks_on word_tidy task_of
  word_same k h = rw (get_d_task x k no_task h) refl

  parent_same : (k : ℕ) → k < 384
      → ◌≡◌ {A = List ℕ} (hint_word (read_parent (parents_on x) k).hint ∷ (read_parent (parents_on x) k).held ∷ []) (parent_at x k)
  unfolding parents_on hint_tidy
  parent_same k h = rw (get_d_parent byte2 320 x k 0 h, get_d_parent low16 320 x k 0 h, get_d_parent (λ v. v) 321 x k 0 h) refl

-- the numbers of the board of a rig whose parts are lent
pub board_numbers_lem : (n : ℕ) (p : Plan) (l : Lent) (k : Network) (chosen : List ℕ) → board_numbers (system_on n p l k chosen) ≡ tidy_numbers l.board
unfolding board_numbers tidy_numbers
board_numbers_lem n p l k chosen =
    let x = l.board in
    rw (
      table_same 128 (λ i. channel_word (read_channel (channels_on x) i)) (channel_at x) (channel_same x),
      fold_same ◌++◌ [] 64 (λ i. task_word (get_or (tasks_on x).records i no_task) ∷ (get_or (tasks_on x).records i no_task).children ∷ []) (task_at x) (task_same x),
      table_same 64 (λ i. word_number (get_or (tasks_on x).records i no_task).word) (word_at x) (word_same x),
      fold_same ◌++◌ [] 384 (λ i. hint_word (read_parent (parents_on x) i).hint ∷ (read_parent (parents_on x) i).held ∷ []) (parent_at x) (parent_same x),
    )
    (unfold tasks_on ready_on in refl)

module _ (x : List ℕ) where
  task_count : length (joined 64 (task_at x)) ≡ 128
  task_count = length_rows 64 (task_at x) (λ i. refl)

  parent_count : length (joined 384 (parent_at x)) ≡ 768
  parent_count = length_rows 384 (parent_at x) (λ i. refl)

  pub length_tidy : length (tidy_numbers x) ≡ 1094
  unfolding tidy_numbers
  length_tidy = simp (length-append, length_table, task_count, parent_count)

  -- five sections put one behind the other
  pub board_put : (out o1 o2 o3 o4 o5 : List ℕ) → 16664 ≤ length out → o1 ≡ overlay out 16664 (numbers_bytes 8 (table 128 (channel_at x)))
      → o2 ≡ overlay o1 17688 (numbers_bytes 8 (joined 64 (task_at x))) → o3 ≡ overlay o2 18712 (numbers_bytes 8 (table 64 (word_at x)))
      → o4 ≡ overlay o3 19224 (numbers_bytes 8 (joined 384 (parent_at x))) → o5 ≡ overlay o4 25368 (numbers_bytes 8 (table 6 (set_on x)))
      → o5 ≡ overlay out 16664 (numbers_bytes 8 (tidy_numbers x))
  unfolding tidy_numbers
  board_put out o1 o2 o3 o4 o5 h e1 e2 e3 e4 e5 =
      let s1 = table 128 (channel_at x) in
      let s2 = joined 64 (task_at x) in
      let s3 = table 64 (word_at x) in
      let s4 = joined 384 (parent_at x) in
      let s5 = table 6 (set_on x) in
      let l1 : length (numbers_bytes 8 s1) ≡ 1024 = length_numbers 8 s1 ∙ ap (λ (n : ℕ). 8 * n) (length_table 128 (channel_at x)) in
      let l2 : length (numbers_bytes 8 s2) ≡ 1024 = length_numbers 8 s2 ∙ ap (λ (n : ℕ). 8 * n) task_count in
      let l3 : length (numbers_bytes 8 s3) ≡ 512 = length_numbers 8 s3 ∙ ap (λ (n : ℕ). 8 * n) (length_table 64 (word_at x)) in
      let l4 : length (numbers_bytes 8 s4) ≡ 6144 = length_numbers 8 s4 ∙ ap (λ (n : ℕ). 8 * n) parent_count in
      five_puts out o1 o2 o3 o4 o5 (numbers_bytes 8 s1) (numbers_bytes 8 s2) (numbers_bytes 8 s3) (numbers_bytes 8 s4) (numbers_bytes 8 s5) 16664 17688 18712 19224 25368
      h (omega arith) (omega arith) (omega arith) (omega arith) e1 e2 e3 e4 e5
      ∙ rw (
        numbers_append 8 s1 (s2 ++ (s3 ++ (s4 ++ s5))),
        numbers_append 8 s2 (s3 ++ (s4 ++ s5)),
        numbers_append 8 s3 (s4 ++ s5),
        numbers_append 8 s4 s5,
      )
      refl
