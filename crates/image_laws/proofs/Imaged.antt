-- A rig of lent parts whose numbers fit is one that an image holds.
use mathlib.Core.Path.{◌≡◌}
use mathlib.Core.List.{List}
use Prim.Native.Nat.{ℕ, ◌+◌, ◌*◌, ◌<◌}
use native.Mathlib.Omega.{arith}
use lib.ListN.{get_or}
use Rattle.std.specs.Prelude.{Ok}
use Rattle.base.specs.Lists.{table}
use Rattle.base.proofs.Tables.{length_table}
use Rattle.plan.specs.declared.Plan.{Plan}
use Rattle.plan.specs.Programs.{programs, canonical}
use Rattle.plan.specs.Refusals.{plan_answer}
use Rattle.rules.specs.declared.message.Network.{Network}
use Rattle.rules.specs.Tasks.{no_task}
use Rattle.board.specs.packing.Packed.{low16, byte2, byte3, byte4, byte5, mark6}
use Rattle.board.specs.Lent.{Lent, channel_column, channels_on, set_on, records_on, ready_on, tasks_on, task_on, parent_column, parents_on}
use Rattle.board.proofs.Laws.{get_d_task}
use Rattle.image_laws.specs.Parts.{system_on}
use Rattle.image_laws.specs.Held.{top8, top16, top64, AllBelow, Array, TasksFit, ChannelsFit, ParentsFit, MailFits, Imaged}
use Rattle.image_laws.proofs.Pieces.{table_below}
use Rattle.image_laws.proofs.Packing.{task_fits}

-- the tables and the board that are lent have their sizes, and their numbers fit
pub record LentFits (l : Lent) : Type 0 where
  pub hintprocessors : Array 768 top8 l.hintprocessors
  pub hintmoves : Array 768 top16 l.hintmoves
  pub heldprocessors : Array 768 top8 l.heldprocessors
  pub heldnumbers : Array 768 top8 l.heldnumbers
  pub notes : Array 768 top8 l.notes
  pub board : Array 1094 top64 l.board

-- an array given by a rule
table_array : (n m : ℕ) (f : ℕ → ℕ) → 0 < m → ((k : ℕ) → k < n → f k < m) → Array n m (table n f)
table_array n m f some h = record { long = length_table n f; small = table_below m some n f h }

module _ (x : List ℕ) where
  tasks_fit : AllBelow top64 x → TasksFit (tasks_on x)
  unfolding tasks_on records_on ready_on
  tasks_fit small =
      record {
        long = length_table 64 (task_on x);
        task = λ k l. rw (get_d_task x k no_task l) (task_fits (get_or x (128 + 2 * k) 0) (get_or x (129 + 2 * k) 0) (get_or x (256 + k) 0) (small (129 + 2 * k)));
        ready = table_array 6 top64 (set_on x) (omega arith) (λ k l. small (1088 + k));
      }

  channels_fit : ChannelsFit (channels_on x)
  unfolding channels_on channel_column
  channels_fit =
      record {
        granted = table_array 128 top8 (λ k. byte5 (get_or x k 0)) (omega arith) (λ k l. omega arith);
        awaiting = length_table 128 (λ k. mark6 (get_or x k 0));
        carriedprocessors = table_array 128 top8 (λ k. byte3 (get_or x k 0)) (omega arith) (λ k l. omega arith);
        carriednumbers = table_array 128 top8 (λ k. byte4 (get_or x k 0)) (omega arith) (λ k l. omega arith);
        travellingprocessors = table_array 128 top8 (λ k. byte2 (get_or x k 0)) (omega arith) (λ k l. omega arith);
        travellingmoves = table_array 128 top16 (λ k. low16 (get_or x k 0)) (omega arith) (λ k l. omega arith);
      }

  parents_fit : AllBelow top64 x → ParentsFit (parents_on x)
  unfolding parents_on parent_column
  parents_fit small =
      record {
        hintprocessors = table_array 384 top8 (λ k. byte2 (get_or x (320 + 2 * k) 0)) (omega arith) (λ k l. omega arith);
        hintmoves = table_array 384 top16 (λ k. low16 (get_or x (320 + 2 * k) 0)) (omega arith) (λ k l. omega arith);
        held = table_array 384 top64 (λ k. get_or x (321 + 2 * k) 0) (omega arith) (λ k l. small (321 + 2 * k));
      }

pub imaged_parts : (n : ℕ) (p : Plan) (l : Lent) (k : Network) (chosen : List ℕ)
    → n < 256
    → plan_answer (programs p) ≡ Ok tt
    → p ≡ canonical (programs p)
    → LentFits l
    → MailFits k
    → Array 6 256 chosen
    → Imaged (system_on n p l k chosen)
imaged_parts n p l k chosen few accepted clear f mail last =
    record {
      processors = few;
      accepted = accepted;
      clear = clear;
      tasks = tasks_fit l.board f.board.small;
      tables =
          record {
            hintprocessors = f.hintprocessors;
            hintmoves = f.hintmoves;
            heldprocessors = f.heldprocessors;
            heldnumbers = f.heldnumbers;
            notes = f.notes;
          };
      channels = channels_fit l.board;
      parents = parents_fit l.board f.board.small;
      network = mail;
      chosen = last;
    }
