-- A board made of a rig's parts holds these parts.
use mathlib.Core.Path.{◌≡◌, refl, ◌∙◌, ap}
use mathlib.Core.Bool.{false}
use mathlib.Core.List.{List}
use Prim.Native.Nat.{ℕ, ◌+◌, ◌*◌, ◌<◌}
use native.Mathlib.Omega.{arith}
use lib.ListN.{length, get_or}
use Rattle.plan_laws.proofs.Pieces.{whole}
use Rattle.rules.specs.declared.task.Task.{Task}
use Rattle.rules.specs.declared.system.System.{System}
use Rattle.rules.specs.Tasks.{no_task}
use Rattle.rules.specs.Systems.{read_channel, read_parent}
use Rattle.board.specs.packing.Packed.{low16, byte2, byte3, byte4, byte5, mark6, hint_word, channel_word, word_number, task_word}
use Rattle.board.specs.Lent.{channel_column, channels_on, task_on, records_on, set_on, ready_on, tasks_on, parent_column, parents_on}
use Rattle.image.specs.Image.{board_numbers}
use Rattle.image_laws.specs.Held.{top64, AllBelow, TasksFit, ChannelsFit, ParentsFit, HintFits}
use Rattle.image_laws.proofs.Letters.{word_below}
use Rattle.image_laws.proofs.Packing.{ChannelFits, channel_below, granted_in, carried_desk_in, carried_number_in, travelling_desk_in, travelling_moves_in, mark_in, hint_below, hint_desk_in, hint_moves_in, task_below, task_in_lem}
use Rattle.image_laws.proofs.Boards.{board_of, length_board, on_channel_lem, on_task, on_children, on_word, on_hint, on_held, on_ready, board_below}

module _ (r : System) where
  -- the entries of a rig that a board has
  abbrev pub record_of : ℕ → Task
  record_of k = get_or r.tasks.records k no_task

  abbrev pub channel_number : ℕ → ℕ
  channel_number k = channel_word (read_channel r.channels k)

  abbrev pub task_number : ℕ → ℕ
  task_number k = task_word (record_of k)

  abbrev pub children_number : ℕ → ℕ
  children_number k = (record_of k).children

  abbrev pub levels_number : ℕ → ℕ
  levels_number k = word_number (record_of k).word

  abbrev pub hint_number : ℕ → ℕ
  hint_number k = hint_word (read_parent r.parents k).hint

  abbrev pub held_number : ℕ → ℕ
  held_number k = (read_parent r.parents k).held

  pub board_of_lem : board_numbers r ≡ board_of channel_number task_number children_number levels_number hint_number held_number r.tasks.ready
  unfolding board_numbers board_of
  board_of_lem = refl

  pub length_numbers_of : length r.tasks.ready ≡ 6 → length (board_numbers r) ≡ 1094
  length_numbers_of e = rw board_of_lem (length_board channel_number task_number children_number levels_number hint_number held_number r.tasks.ready e)

  -- channels
  module _ (f : ChannelsFit r.channels) where
    channel_fits_at : (k : ℕ) → ChannelFits (read_channel r.channels k)
    channel_fits_at k =
        record {
          granted = f.granted.small k;
          carried = (f.carriedprocessors.small k, f.carriednumbers.small k);
          travelling = (f.travellingprocessors.small k, f.travellingmoves.small k);
        }

    column : {A : Type 0} (g : ℕ → A) (xs : List A) (d : A) → length xs ≡ 128
        → ((k : ℕ) → g (channel_number k) ≡ get_or xs k d) → channel_column g (board_numbers r) ≡ xs
    unfolding channel_column
    column g xs d e same =
        whole xs d 128 e (λ k. g (get_or (board_numbers r) k 0))
        (λ k l. ap g (on_channel_lem channel_number task_number children_number levels_number hint_number held_number r.tasks.ready (board_numbers r) board_of_lem k l) ∙ same k)

    pub channels_held : channels_on (board_numbers r) ≡ r.channels
    unfolding channels_on
    channels_held =
        let x = r.channels in
        rw (
          column byte5 x.granted 0 f.granted.long (λ k. granted_in (read_channel x k) (channel_fits_at k)),
          column mark6 x.awaiting false f.awaiting (λ k. mark_in (read_channel x k) (channel_fits_at k)),
          column byte3 x.carriedprocessors 0 f.carriedprocessors.long (λ k. carried_desk_in (read_channel x k) (channel_fits_at k)),
          column byte4 x.carriednumbers 0 f.carriednumbers.long (λ k. carried_number_in (read_channel x k) (channel_fits_at k)),
          column byte2 x.travellingprocessors 0 f.travellingprocessors.long (λ k. travelling_desk_in (read_channel x k) (channel_fits_at k)),
          column low16 x.travellingmoves 0 f.travellingmoves.long (λ k. travelling_moves_in (read_channel x k) (channel_fits_at k)),
        )
        refl

  -- tasks
  module _ (f : TasksFit r.tasks) where
    task_on_lem : (k : ℕ) → k < 64 → task_on (board_numbers r) k ≡ record_of k
    task_on_lem k l =
        rw (
          on_task channel_number task_number children_number levels_number hint_number held_number r.tasks.ready (board_numbers r) board_of_lem k l,
          on_children channel_number task_number children_number levels_number hint_number held_number r.tasks.ready (board_numbers r) board_of_lem k l,
          on_word channel_number task_number children_number levels_number hint_number held_number r.tasks.ready (board_numbers r) board_of_lem k l,
        )
        (task_in_lem (record_of k) (f.task k l))

    records_held : records_on (board_numbers r) ≡ r.tasks.records
    unfolding records_on
    records_held = whole r.tasks.records no_task 64 f.long (task_on (board_numbers r)) task_on_lem

    ready_held : ready_on (board_numbers r) ≡ r.tasks.ready
    unfolding ready_on
    ready_held =
        whole r.tasks.ready 0 6 f.ready.long (set_on (board_numbers r))
        (λ k l. on_ready channel_number task_number children_number levels_number hint_number held_number r.tasks.ready (board_numbers r) board_of_lem k (omega (arith, f.ready.long)))

    pub tasks_held : tasks_on (board_numbers r) ≡ r.tasks
    unfolding tasks_on
    tasks_held = rw (records_held, ready_held) refl

  -- what desks keep for parents
  module _ (f : ParentsFit r.parents) where
    hint_fits_at : (k : ℕ) → HintFits (read_parent r.parents k).hint
    hint_fits_at k = (f.hintprocessors.small k, f.hintmoves.small k)

    hints : (g : ℕ → ℕ) (xs : List ℕ) → length xs ≡ 384 → ((k : ℕ) → g (hint_number k) ≡ get_or xs k 0) → parent_column g 320 (board_numbers r) ≡ xs
    unfolding parent_column
    hints g xs e same =
        whole xs 0 384 e (λ k. g (get_or (board_numbers r) (320 + 2 * k) 0))
        (λ k l. ap g (on_hint channel_number task_number children_number levels_number hint_number held_number r.tasks.ready (board_numbers r) board_of_lem k l) ∙ same k)

    helds : parent_column (λ v. v) 321 (board_numbers r) ≡ r.parents.held
    unfolding parent_column
    helds =
        whole r.parents.held 0 384 f.held.long (λ k. get_or (board_numbers r) (321 + 2 * k) 0)
        (λ k l. on_held channel_number task_number children_number levels_number hint_number held_number r.tasks.ready (board_numbers r) board_of_lem k l)

    pub parents_held : parents_on (board_numbers r) ≡ r.parents
    unfolding parents_on
    parents_held =
        let x = r.parents in
        rw (
          hints byte2 x.hintprocessors f.hintprocessors.long (λ k. hint_desk_in (read_parent x k).hint (hint_fits_at k)),
          hints low16 x.hintmoves f.hintmoves.long (λ k. hint_moves_in (read_parent x k).hint (hint_fits_at k)),
          helds,
        )
        refl

  pub numbers_fit : TasksFit r.tasks → ChannelsFit r.channels → ParentsFit r.parents → AllBelow top64 (board_numbers r)
  numbers_fit t c p =
      rw board_of_lem
      (board_below channel_number task_number children_number levels_number hint_number held_number r.tasks.ready top64 (omega arith)
      (λ k l. channel_below (read_channel r.channels k) (channel_fits_at c k))
      (λ k l. task_below (record_of k) (t.task k l))
      (λ k l. (t.task k l).children)
      (λ k l. word_below (record_of k).word (t.task k l).word)
      (λ k l. hint_below (read_parent r.parents k).hint (hint_fits_at p k))
      (λ k l. p.held.small k)
      t.ready.small)
