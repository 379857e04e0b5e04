-- The rig at the start of an accepted plan is one that an image holds.
use mathlib.Core.Path.{◌≡◌, refl, ◌∙◌, ap}
use mathlib.Core.Bool.{Bool, false}
use mathlib.Core.List.{List, [], ◌∷◌}
use Prim.Native.Nat.{ℕ, zero, suc, ◌-◌, ◌<◌, ◌≤◌}
use native.Mathlib.Omega.{arith}
use lib.ListN.{length, get_or, set, replicate, length-set, length-replicate, get_or-replicate}
use Rattle.std.specs.Prelude.{Ok}
use Rattle.base.specs.Range.{fold}
use Rattle.base.specs.Lists.{every, any, table, table_before}
use Rattle.base.specs.Sets.{member, inserted}
use Rattle.base.proofs.Choices.{pick_either}
use Rattle.plan.specs.declared.Plan.{Plan}
use Rattle.plan.specs.declared.ProcessorId.{ProcessorId}
use Rattle.plan.specs.declared.ChannelId.{ChannelId}
use Rattle.plan.specs.Programs.{programs, canonical}
use Rattle.plan.specs.Users.{users}
use Rattle.plan.specs.Refusals.{operand_ok, instructions_ok, finish_ok, finishes_ok, creates_ok, channels_ok, structure_answer, plan_answer}
use Rattle.plan.specs.Files.{layout_ok, file_programs, file_answer}
use Rattle.plan.specs.Outcomes.{plan_read}
use Rattle.plan.proofs.Edges.{worked}
use Rattle.rules.specs.declared.task.Task.{Task}
use Rattle.rules.specs.declared.system.Store.{Store}
use Rattle.rules.specs.declared.system.TaskTable.{TaskTable}
use Rattle.rules.specs.Numbers.{task_id, processor_id, channel_id}
use Rattle.rules.specs.Hints.{hint, unknown}
use Rattle.rules.specs.Tasks.{no_task, unborn, born}
use Rattle.rules.specs.Systems.{task_in, ready_then, ready_sets, task_stored, with_task, with_parent, parent_at, write_parent}
use Rattle.rules.specs.Effects.{cell_ruled, for_cells, for_channels, receives_on}
use Rattle.rules.specs.Starts.{located, birth, blank, started, unborn_tasks, no_tables, no_channels, no_parents, no_messages}
use Rattle.rules.specs.Networks.{no_slot}
use Rattle.image_laws.specs.Held.{top8, top16, top64, AllBelow, Array, TaskFits, TasksFit, TablesFit, ChannelsFit, ParentsFit, MailFits, Imaged, HeldIn}
use Rattle.image_laws.proofs.Pieces.{replicate_below}
use Rattle.image_laws.proofs.Plans.{plan_fits}
use Rattle.image_laws.proofs.Held.{every_rig_held}

-- arrays of zeros, and with an entry changed
set_below : (m : ℕ) (xs : List ℕ) (i v : ℕ) → AllBelow m xs → v < m → AllBelow m (set xs i v)
set_below m [] i v h l j = h j
set_below m (x ∷ xs) zero v h l zero = l
set_below m (x ∷ xs) zero v h l (suc j) = h (suc j)
set_below m (x ∷ xs) (suc i) v h l zero = h 0
set_below m (x ∷ xs) (suc i) v h l (suc j) = set_below m xs i v (λ k. h (suc k)) l j

array_set : (n m : ℕ) (xs : List ℕ) (i v : ℕ) → Array n m xs → v < m → Array n m (set xs i v)
array_set n m xs i v a l = record { long = length-set xs i v ∙ a.long; small = set_below m xs i v a.small l }

array_zeros : (n m : ℕ) → 0 < m → Array n m (replicate n 0)
array_zeros n m some = record { long = length-replicate {A = ℕ} n 0; small = replicate_below m some n }

-- what is kept for channels
pub record StoreFits (s : Store) : Type 0 where
  pub tables : TablesFit s.tables
  pub channels : ChannelsFit s.channels

no_store_lem : StoreFits (record { tables = no_tables; channels = no_channels })
no_store_lem =
    record {
      tables =
          record {
            hintprocessors = array_zeros 768 top8 (omega arith);
            hintmoves = array_zeros 768 top16 (omega arith);
            heldprocessors = array_zeros 768 top8 (omega arith);
            heldnumbers = array_zeros 768 top8 (omega arith);
            notes = array_zeros 768 top8 (omega arith);
          };
      channels =
          record {
            granted = array_zeros 128 top8 (omega arith);
            awaiting = length-replicate {A = Bool} 128 false;
            carriedprocessors = array_zeros 128 top8 (omega arith);
            carriednumbers = array_zeros 128 top8 (omega arith);
            travellingprocessors = array_zeros 128 top8 (omega arith);
            travellingmoves = array_zeros 128 top16 (omega arith);
          };
    }

located_fits : (s : Store) (d : ProcessorId) (c : ChannelId) (n : ℕ) → d.0 < top8 → n < top16 → StoreFits s → StoreFits (cell_ruled (located d n) d c s)
located_fits s d c n l h f =
    let t = f.tables in
    let k = f.channels in
    record {
      tables =
          record {
            hintprocessors = array_set 768 top8 _ _ d.0 t.hintprocessors l;
            hintmoves = array_set 768 top16 _ _ n t.hintmoves h;
            heldprocessors = array_set 768 top8 _ _ _ t.heldprocessors (t.heldprocessors.small _);
            heldnumbers = array_set 768 top8 _ _ _ t.heldnumbers (t.heldnumbers.small _);
            notes = array_set 768 top8 _ _ _ t.notes (t.notes.small _);
          };
      channels =
          record {
            granted = array_set 128 top8 _ _ _ k.granted (k.granted.small _);
            awaiting = length-set s.channels.awaiting (c.0 - 1) (get_or s.channels.awaiting (c.0 - 1) false) ∙ k.awaiting;
            carriedprocessors = array_set 128 top8 _ _ _ k.carriedprocessors (k.carriedprocessors.small _);
            carriednumbers = array_set 128 top8 _ _ _ k.carriednumbers (k.carriednumbers.small _);
            travellingprocessors = array_set 128 top8 _ _ _ k.travellingprocessors (k.travellingprocessors.small _);
            travellingmoves = array_set 128 top16 _ _ _ k.travellingmoves (k.travellingmoves.small _);
          };
    }

cells_fit : (n : ℕ) (test : ChannelId → Bool) (d : ProcessorId) (m : ℕ) (s : Store) → d.0 < top8 → m < top16 → StoreFits s
    → StoreFits (for_cells n test (located d m) d s)
unfolding for_cells
cells_fit zero test d m s l h f = f
cells_fit (suc n) test d m s l h f =
    let q = for_cells n test (located d m) d s in
    let c = channel_id (suc n) in
    let g = cells_fit n test d m s l h f in
    pick_either StoreFits (test c) (cell_ruled (located d m) d c q) q (located_fits q d c m l h g) g

-- tasks
unborn_fits : TaskFits unborn
unborn_fits =
    record {
      processor = omega arith;
      pc = omega arith;
      origin = (omega arith, omega arith);
      word = (omega arith, omega arith, omega arith, omega arith);
      moves = omega arith;
      children = omega arith;
    }

born_fits : TaskFits (born (processor_id 1) unknown)
born_fits =
    record {
      processor = omega arith;
      pc = omega arith;
      origin = (omega arith, omega arith);
      word = (omega arith, omega arith, omega arith, omega arith);
      moves = omega arith;
      children = omega arith;
    }

first_fits : (xs : List Task) (x : Task) (k : ℕ) → k < 64 → length xs ≡ 64 → TaskFits x → TaskFits (get_or xs k no_task) → TaskFits (get_or (set xs 0 x) k no_task)
first_fits [] x k l e f g = absurd (omega arith)
first_fits (y ∷ ys) x zero l e f g = f
first_fits (y ∷ ys) x (suc k) l e f g = g

first_tasks : TaskTable
first_tasks = task_stored unborn_tasks (task_id 1) (born (processor_id 1) unknown)

first_records : first_tasks.records ≡ set (replicate 64 unborn) 0 (born (processor_id 1) unknown)
unfolding first_tasks task_stored
first_records = refl

first_ready : first_tasks.ready ≡ 1 ∷ 0 ∷ 0 ∷ 0 ∷ 0 ∷ 0 ∷ []
unfolding first_tasks task_stored task_in ready_sets ready_then inserted member
first_ready = refl

ready_small : AllBelow top64 (1 ∷ 0 ∷ 0 ∷ 0 ∷ 0 ∷ 0 ∷ [])
ready_small zero = omega arith
ready_small (suc k) = replicate_below top64 (omega arith) 5 k

first_tasks_fit : TasksFit first_tasks
first_tasks_fit =
    record {
      long = ap length first_records ∙ length-set (replicate 64 unborn) 0 (born (processor_id 1) unknown) ∙ length-replicate 64 unborn;
      task =
          λ k l.
          rw first_records
          (first_fits (replicate 64 unborn) (born (processor_id 1) unknown) k l (length-replicate 64 unborn) born_fits (rw (get_or-replicate 64 k unborn no_task l) unborn_fits));
      ready = rw first_ready (record { long = refl; small = ready_small });
    }

-- what desks keep for parents
no_parents_lem : ParentsFit no_parents
no_parents_lem =
    record {
      hintprocessors = array_zeros 384 top8 (omega arith);
      hintmoves = array_zeros 384 top16 (omega arith);
      held = array_zeros 384 top64 (omega arith);
    }

first_parents_fit : (i : ℕ) → ParentsFit (write_parent no_parents i (record { hint = hint (processor_id 1) 1; held = get_or no_parents.held i 0 }))
first_parents_fit i =
    record {
      hintprocessors = array_set 384 top8 no_parents.hintprocessors i 1 no_parents_lem.hintprocessors (omega arith);
      hintmoves = array_set 384 top16 no_parents.hintmoves i 1 no_parents_lem.hintmoves (omega arith);
      held = array_set 384 top64 no_parents.held i (get_or no_parents.held i 0) no_parents_lem.held (no_parents_lem.held.small i);
    }

-- no letter
no_mail : MailFits no_messages
no_mail =
    record {
      long = length-replicate 256 no_slot;
      used = omega arith;
      letters = λ k u l. absurd (omega arith);
      unused = λ k u l. get_or-replicate 256 k no_slot no_slot l;
    }

pub started_imaged : (n : ℕ) (p : Plan) → 1 ≤ n → n ≤ 6 → plan_answer (programs p) ≡ Ok tt → p ≡ canonical (programs p) → Imaged (started n p)
unfolding started birth blank for_channels with_task with_parent parent_at first_tasks
started_imaged n p some few accepted clear =
    let cells =
    cells_fit 128 (receives_on (programs p) (task_id 1)) (processor_id 1) 1 (record { tables = no_tables; channels = no_channels }) (omega arith) (omega arith) no_store_lem in
    record {
      processors = omega arith;
      accepted = accepted;
      clear = clear;
      tasks = first_tasks_fit;
      tables = cells.tables;
      channels = cells.channels;
      parents = first_parents_fit 0;
      network = no_mail;
      chosen = array_zeros 6 top8 (omega arith);
    }

-- the plan of an accepted file
pub start_imaged : (n : ℕ) (f : List ℕ) → 1 ≤ n → n ≤ 6 → file_answer f ≡ Ok tt → Imaged (started n (plan_read f).plan)
start_imaged n f some few h = let (accepted, clear) = plan_fits f h in started_imaged n (plan_read f).plan some few accepted clear

-- the paper's worked plan on two desks
worked_accepted : file_answer worked ≡ Ok tt
unfolding file_answer file_programs layout_ok instructions_ok operand_ok finishes_ok finish_ok creates_ok channels_ok structure_answer users fold every any table table_before
worked_accepted = refl

pub worked_held : HeldIn (started 2 (plan_read worked).plan)
worked_held = every_rig_held (started 2 (plan_read worked).plan) (start_imaged 2 worked (omega arith) (omega arith) worked_accepted)
