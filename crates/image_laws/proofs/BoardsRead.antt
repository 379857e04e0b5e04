-- What a board holds, as numbers again: where each entry of the board is that of what it holds, this is the board.
use mathlib.Core.Path.{◌≡◌, refl, sym, ◌∙◌, ap}
use mathlib.Core.Bool.{Bool, true, ◌&&◌}
use mathlib.Core.List.{List, [], ◌∷◌, ◌++◌}
use Prim.Native.Nat.{ℕ, ◌+◌, ◌*◌, ◌<◌}
use native.Mathlib.Omega.{arith}
use lib.Dec.{eqb}
use lib.ListN.{length, get_or}
use borrow.Author.Tests.{eqb-true, eq-eqb}
use Rattle.base.specs.Range.{joined, below}
use Rattle.base.specs.Lists.{table}
use Rattle.base.proofs.Tests.{and_left, and_right, and_both, below_at, below_all}
use Rattle.base.proofs.Folds.{fold_same}
use Rattle.base.proofs.Tables.{length_table, table_same}
use Rattle.rules.specs.declared.channel.Channel.{Channel}
use Rattle.rules.specs.declared.task.Task.{Task}
use Rattle.rules.specs.declared.system.System.{System}
use Rattle.rules.specs.declared.system.TaskTable.{TaskTable}
use Rattle.rules.specs.declared.system.Channels.{Channels}
use Rattle.rules.specs.declared.system.Parents.{Parents}
use Rattle.rules.specs.Tasks.{no_task}
use Rattle.rules.specs.Systems.{read_channel, read_parent}
use Rattle.board.specs.packing.Packed.{low16, byte2, hint_of, hint_word, channel_of, channel_word, word_of, word_number, task_of, task_word}
use Rattle.board.specs.Lent.{channels_on, task_on, set_on, ready_on, tasks_on, parents_on}
use Rattle.board.proofs.Laws.{get_d_task, get_d_parent}
use Rattle.board.proofs.Stores.{channel_read}
use Rattle.image.specs.Image.{board_numbers}
use Rattle.image_laws.specs.Parts.{board_tidy}
use Rattle.image_laws.specs.Held.{top64, AllBelow}
use Rattle.image_laws.proofs.Pieces.{table_piece, table_below}
use Rattle.image_laws.proofs.Letters.{word_fits_lem, word_below, number_again}
use Rattle.image_laws.proofs.Packing.{channel_fits, channel_below, hint_fits, hint_below, task_fits, task_below}
use Rattle.image_laws.proofs.Boards.{board_of, length_board, on_channel_lem, on_task, on_hint, board_below, board_same}
use Rattle.image_laws.proofs.BoardsHeld.{board_of_lem, record_of, channel_number, task_number, children_number, levels_number, hint_number, held_number}

module _ (x : List ℕ) where
  abbrev channel_again : ℕ → ℕ
  channel_again k = channel_word (channel_of (get_or x k 0))

  abbrev task_again : ℕ → ℕ
  task_again k = task_word (task_on x k)

  abbrev children_again : ℕ → ℕ
  children_again k = get_or x (129 + 2 * k) 0

  abbrev levels_again : ℕ → ℕ
  levels_again k = word_number (word_of (get_or x (256 + k) 0))

  abbrev hint_again : ℕ → ℕ
  hint_again k = hint_word (hint_of (get_or x (320 + 2 * k) 0))

  abbrev held_again : ℕ → ℕ
  held_again k = get_or x (321 + 2 * k) 0

  unfoldable pub board_again : List ℕ
  board_again = board_of channel_again task_again children_again levels_again hint_again held_again (ready_on x)

  length_ready : length (ready_on x) ≡ 6
  unfolding ready_on
  length_ready = length_table 6 (set_on x)

  pub length_again : length board_again ≡ 1094
  unfolding board_again
  length_again = length_board channel_again task_again children_again levels_again hint_again held_again (ready_on x) length_ready

  -- numbers below
  pub again_below : AllBelow top64 x → AllBelow top64 board_again
  unfolding board_again ready_on
  again_below small =
      board_below channel_again task_again children_again levels_again hint_again held_again (ready_on x) top64 (omega arith)
      (λ k l. channel_below (channel_of (get_or x k 0)) (channel_fits (get_or x k 0)))
      (λ k l. task_below (task_on x k) (task_fits (get_or x (128 + 2 * k) 0) (get_or x (129 + 2 * k) 0) (get_or x (256 + k) 0) (small (129 + 2 * k))))
      (λ k l. small (129 + 2 * k))
      (λ k l. word_below (word_of (get_or x (256 + k) 0)) (word_fits_lem (get_or x (256 + k) 0)))
      (λ k l. hint_below (hint_of (get_or x (320 + 2 * k) 0)) (hint_fits (get_or x (320 + 2 * k) 0)))
      (λ k l. small (321 + 2 * k))
      (table_below top64 (omega arith) 6 (set_on x) (λ k l. small (1088 + k)))

  -- tests
  abbrev channels_tidy : Bool
  channels_tidy = below 128 (λ k. eqb (channel_again k) (get_or x k 0))

  abbrev tasks_tidy : Bool
  tasks_tidy = below 64 (λ k. eqb (task_again k) (get_or x (128 + 2 * k) 0))

  abbrev hints_tidy : Bool
  hints_tidy = below 384 (λ k. eqb (hint_again k) (get_or x (320 + 2 * k) 0))

  pub tidy_same : board_tidy x ≡ true → length x ≡ 1094 → AllBelow top64 x → board_again ≡ x
  unfolding board_tidy board_again
  tidy_same h long small =
      let rest = and_right channels_tidy (tasks_tidy && hints_tidy) h in
      board_same channel_again task_again children_again levels_again hint_again held_again (ready_on x) x long
      (λ k l. eqb-true _ _ (below_at (λ k. eqb (channel_again k) (get_or x k 0)) 128 k l (and_left channels_tidy (tasks_tidy && hints_tidy) h)))
      (λ k l. eqb-true _ _ (below_at (λ k. eqb (task_again k) (get_or x (128 + 2 * k) 0)) 64 k l (and_left tasks_tidy hints_tidy rest)))
      (λ k l. refl)
      (λ k l. number_again (get_or x (256 + k) 0) (small (256 + k)))
      (λ k l. eqb-true _ _ (below_at (λ k. eqb (hint_again k) (get_or x (320 + 2 * k) 0)) 384 k l (and_right tasks_tidy hints_tidy rest)))
      (λ k l. refl)
      (unfold ready_on in table_piece x 1088 6 (set_on x) (omega arith) (λ k l. refl))

  pub same_tidy : board_again ≡ x → board_tidy x ≡ true
  unfolding board_tidy board_again
  same_tidy e =
      let is = sym e in
      and_both channels_tidy (tasks_tidy && hints_tidy)
      (below_all _ 128 (λ k l. eq-eqb _ _ (sym (on_channel_lem channel_again task_again children_again levels_again hint_again held_again (ready_on x) x is k l))))
      (and_both tasks_tidy hints_tidy
      (below_all _ 64 (λ k l. eq-eqb _ _ (sym (on_task channel_again task_again children_again levels_again hint_again held_again (ready_on x) x is k l))))
      (below_all _ 384 (λ k l. eq-eqb _ _ (sym (on_hint channel_again task_again children_again levels_again hint_again held_again (ready_on x) x is k l)))))

  -- the numbers of a rig whose parts are on the board
  task_at_lem : (k : ℕ) → k < 64 → get_or (tasks_on x).records k no_task ≡ task_on x k
  unfolding tasks_on
  task_at_lem k l = get_d_task x k no_task l

  hint_at : (k : ℕ) → k < 384 → (read_parent (parents_on x) k).hint ≡ hint_of (get_or x (320 + 2 * k) 0)
  unfolding parents_on
  hint_at k l = rw (get_d_parent byte2 320 x k 0 l, get_d_parent low16 320 x k 0 l) refl

  held_at : (k : ℕ) → k < 384 → (read_parent (parents_on x) k).held ≡ get_or x (321 + 2 * k) 0
  unfolding parents_on
  held_at k l = get_d_parent (λ v. v) 321 x k 0 l

  children_at : (k : ℕ) → (task_on x k).children ≡ get_or x (129 + 2 * k) 0
  unfolding task_of
  children_at k = refl

  word_at : (k : ℕ) → (task_on x k).word ≡ word_of (get_or x (256 + k) 0)
  unfolding task_of
  word_at k = refl

  ready_at_lem : (tasks_on x).ready ≡ ready_on x
  unfolding tasks_on
  ready_at_lem = refl

  module _ (r : System) (ts : r.tasks ≡ tasks_on x) (cs : r.channels ≡ channels_on x) (ps : r.parents ≡ parents_on x) where
    task_is : (k : ℕ) → k < 64 → record_of r k ≡ task_on x k
    task_is k l = ap (λ (t : TaskTable). get_or t.records k no_task) ts ∙ task_at_lem k l

    channel_part : table 128 (channel_number r) ≡ table 128 channel_again
    channel_part =
        table_same 128 (channel_number r) channel_again
        (λ k l. ap (λ (c : Channels). channel_word (read_channel c k)) cs ∙ ap (λ (y : Channel). channel_word y) (sym (channel_read x k l)))

    task_part : joined 64 (λ k. task_number r k ∷ children_number r k ∷ []) ≡ joined 64 (λ k. task_again k ∷ children_again k ∷ [])
    task_part =
        fold_same ◌++◌ [] 64 (λ k. task_number r k ∷ children_number r k ∷ []) (λ k. task_again k ∷ children_again k ∷ [])
        (λ k l. ap (λ (t : Task). task_word t ∷ t.children ∷ []) (task_is k l) ∙ ap (λ (c : ℕ). task_again k ∷ c ∷ []) (children_at k))

    word_part : table 64 (levels_number r) ≡ table 64 levels_again
    word_part = table_same 64 (levels_number r) levels_again (λ k l. ap (λ (t : Task). word_number t.word) (task_is k l) ∙ rw (word_at k) refl)

    hint_part : joined 384 (λ k. hint_number r k ∷ held_number r k ∷ []) ≡ joined 384 (λ k. hint_again k ∷ held_again k ∷ [])
    hint_part =
        fold_same ◌++◌ [] 384 (λ k. hint_number r k ∷ held_number r k ∷ []) (λ k. hint_again k ∷ held_again k ∷ [])
        (λ k l.
        ap (λ (p : Parents). hint_word (read_parent p k).hint ∷ (read_parent p k).held ∷ []) ps
        ∙ (λ i. hint_word (hint_at k l i) ∷ held_at k l i ∷ []))

    ready_part : r.tasks.ready ≡ ready_on x
    ready_part = ap (λ (t : TaskTable). t.ready) ts ∙ ready_at_lem

    pub board_again_lem : board_numbers r ≡ board_again
    unfolding board_again board_of
    board_again_lem = board_of_lem r ∙ (λ i. channel_part i ++ (task_part i ++ (word_part i ++ (hint_part i ++ ready_part i))))
