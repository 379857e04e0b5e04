-- A list that agrees with another on its first entries, one entry more, and all of them; the same of the six lists of channels and of the three
-- of parents.
use mathlib.Core.Path.{◌≡◌, refl, sym, ap, ◌∙◌}
use mathlib.Core.Bool.{false}
use mathlib.Core.List.{List}
use mathlib.Core.Logic.{by_cases}
use Prim.Native.Nat.{ℕ, suc, ◌+◌, ◌-◌, ◌/◌, ◌%◌, ◌<◌, ◌≤◌}
use native.Mathlib.Omega.{arith}
use native.Mathlib.Decide.{ℕ_discrete}
use lib.Dec.{eqb}
use lib.ListN.{length, get_or, set, length-set}
use lib.Seq.{ext_get_or, get_or-set_same, get_or-set_other}
use Rattle.base.specs.Choice.{pick}
use Rattle.base.specs.Lists.{table}
use Rattle.base.proofs.Tables.{length_table, set_table}
use Rattle.rules.specs.declared.channel.Channel.{Channel}
use Rattle.rules.specs.declared.system.TaskTable.{TaskTable}
use Rattle.rules.specs.declared.system.Channels.{Channels}
use Rattle.plan.specs.declared.TaskId.{TaskId}
use Rattle.plan.specs.declared.ProcessorId.{ProcessorId}
use Rattle.rules.specs.declared.system.Parents.{Parents}
use Rattle.rules.specs.declared.system.ParentEntry.{ParentEntry}
use Rattle.rules.specs.declared.task.Task.{Task}
use Rattle.rules.specs.Systems.{read_channel, write_channel, parent_index, read_parent, write_parent, task_in, task_stored}
use borrow.Author.Tests.{eq-eqb, ne_eqb}
use Rattle.rules.specs.Numbers.{task_id, processor_id}
use Rattle.rules.specs.Tasks.{no_task}
use Rattle.board.specs.Lent.{AtParent, channel_column, channels_on, parent_column, parents_on, records_on, set_on, ready_on, tasks_on, SetPut}
use Rattle.rules_laws.proofs.TaskAt.{task_in_some, task_stored_some}
use Rattle.rig_parts.specs.Sweeps.{parent_in, parent_stored}

-- xs and ys have n entries, and their first k agree
pub record Agree {A : Type 0} (d : A) (n k : ℕ) (xs ys : List A) : Type 0 where
  pub long : length xs ≡ n
  pub as_long : length ys ≡ n
  pub same : (i : ℕ) → i < k → get_or xs i d ≡ get_or ys i d

module _ {A : Type 0} {d : A} {n : ℕ} {xs ys : List A} where
  pub agree_none : length xs ≡ n → length ys ≡ n → Agree d n 0 xs ys
  agree_none h g = record { long = h; as_long = g; same = λ i b. absurd (omega arith) }

  pub agree_more : {k : ℕ} → Agree d n k xs ys → k < n → (v : A) → v ≡ get_or ys k d → Agree d n (k + 1) (set xs k v) ys
  agree_more {k} a h v e =
      record {
        long = length-set xs k v ∙ a.long;
        as_long = a.as_long;
        same =
            λ i b.
            by_cases
            (ℕ_discrete i k)
            (λ (q : i ≡ k). rw q (get_or-set_same xs k v d (omega (arith, a.long)) ∙ e))
            (λ q. get_or-set_other xs k i v d q ∙ a.same i (omega (arith, q)));
      }

  pub agree_all : {k : ℕ} → n ≤ k → Agree d n k xs ys → xs ≡ ys
  agree_all h a = ext_get_or d xs ys (a.long ∙ sym a.as_long) (λ i b. a.same i (omega (arith, a.long)))

-- the six lists of channels
pub record AgreeOn (k : ℕ) (x y : Channels) : Type 0 where
  pub granted : Agree 0 128 k x.granted y.granted
  pub awaiting : Agree false 128 k x.awaiting y.awaiting
  pub carriedprocessors : Agree 0 128 k x.carriedprocessors y.carriedprocessors
  pub carriednumbers : Agree 0 128 k x.carriednumbers y.carriednumbers
  pub travellingprocessors : Agree 0 128 k x.travellingprocessors y.travellingprocessors
  pub travellingmoves : Agree 0 128 k x.travellingmoves y.travellingmoves

module _ {k : ℕ} {x y : Channels} (a : AgreeOn k x y) where
  pub channels_more : k < 128 → (v : Channel) → v ≡ read_channel y k → AgreeOn (k + 1) (write_channel x k v) y
  channels_more h v e =
      record {
        granted = agree_more a.granted h v.granted (ap (λ (z : Channel). z.granted) e);
        awaiting = agree_more a.awaiting h v.awaiting (ap (λ (z : Channel). z.awaiting) e);
        carriedprocessors = agree_more a.carriedprocessors h v.carried.processor.0 (ap (λ (z : Channel). z.carried.processor.0) e);
        carriednumbers = agree_more a.carriednumbers h v.carried.number (ap (λ (z : Channel). z.carried.number) e);
        travellingprocessors = agree_more a.travellingprocessors h v.travelling.processor.0 (ap (λ (z : Channel). z.travelling.processor.0) e);
        travellingmoves = agree_more a.travellingmoves h v.travelling.moves (ap (λ (z : Channel). z.travelling.moves) e);
      }

  pub channels_all : 128 ≤ k → x ≡ y
  channels_all h =
      rw
      (agree_all h a.granted, agree_all h a.awaiting, agree_all h a.carriedprocessors, agree_all h a.carriednumbers, agree_all h a.travellingprocessors, agree_all h a.travellingmoves)
      refl

-- how many there are on a board
pub records_long : (board : List ℕ) → length (records_on board) ≡ 64
unfolding records_on
records_long board = length_table 64 _

pub sets_long : (board : List ℕ) → length (ready_on board) ≡ 6
unfolding ready_on
sets_long board = length_table 6 _

column_long : {A : Type 0} (f : ℕ → A) (board : List ℕ) → length (channel_column f board) ≡ 128
unfolding channel_column
column_long f board = length_table 128 _

pub record Long (x : Channels) : Type 0 where
  pub granted : length x.granted ≡ 128
  pub awaiting : length x.awaiting ≡ 128
  pub carriedprocessors : length x.carriedprocessors ≡ 128
  pub carriednumbers : length x.carriednumbers ≡ 128
  pub travellingprocessors : length x.travellingprocessors ≡ 128
  pub travellingmoves : length x.travellingmoves ≡ 128

pub channels_long : (board : List ℕ) → Long (channels_on board)
unfolding channels_on
channels_long board =
    record {
      granted = column_long _ board;
      awaiting = column_long _ board;
      carriedprocessors = column_long _ board;
      carriednumbers = column_long _ board;
      travellingprocessors = column_long _ board;
      travellingmoves = column_long _ board;
    }

pub channels_none : {x y : Channels} → Long x → Long y → AgreeOn 0 x y
channels_none p q =
    record {
      granted = agree_none p.granted q.granted;
      awaiting = agree_none p.awaiting q.awaiting;
      carriedprocessors = agree_none p.carriedprocessors q.carriedprocessors;
      carriednumbers = agree_none p.carriednumbers q.carriednumbers;
      travellingprocessors = agree_none p.travellingprocessors q.travellingprocessors;
      travellingmoves = agree_none p.travellingmoves q.travellingmoves;
    }

-- the task after the first k
module _ (board : List ℕ) (k : ℕ) where
  last : k + 1 - 1 ≡ k
  last = omega arith

  pub task_after : task_in (tasks_on board) (task_id (k + 1)) ≡ get_or (records_on board) k no_task
  unfolding tasks_on
  task_after = task_in_some (tasks_on board) (task_id (k + 1)) (omega arith) ∙ rw last refl

  pub record_stored : (board' : List ℕ) (x : Task) → tasks_on board' ≡ task_stored (tasks_on board) (task_id (k + 1)) x → records_on board' ≡ set (records_on board) k x
  unfolding tasks_on
  record_stored board' x e = ap (λ (ts : TaskTable). ts.records) (e ∙ task_stored_some (tasks_on board) (task_id (k + 1)) x (omega arith)) ∙ rw last refl

  -- the set after the first k
  pub set_after : get_or (tasks_on board).ready (k + 1 - 1) 0 ≡ get_or (ready_on board) k 0
  unfolding tasks_on
  set_after = rw last refl

  pub set_stored : (board' : List ℕ) (s : ℕ) → k < 6 → SetPut (λ e x. pick (eqb (k + 1) e) s x) board board' → ready_on board' ≡ set (ready_on board) k s
  unfolding ready_on
  set_stored board' s h p =
      let g : ℕ → ℕ = λ j. pick (eqb (k + 1) (suc j)) s (set_on board j) in
      let own : g k ≡ s = rw (eq-eqb (k + 1) (suc k) (omega arith)) refl in
      p.ready
      ∙ sym
      (ap (set (table 6 (set_on board)) k) (sym own)
      ∙ set_table 6 (set_on board) g k 0 h (λ j l ne. rw (ne_eqb (k + 1) (suc j) (λ e. ne (omega arith))) refl))

pub channel_after : (x : Channels) (k : ℕ) → read_channel x (k + 1 - 1) ≡ read_channel x k
channel_after x k = let e : k + 1 - 1 ≡ k = omega arith in rw e refl

pub written_after_lem : (x : Channels) (k : ℕ) (y : Channel) → write_channel x (k + 1 - 1) y ≡ write_channel x k y
written_after_lem x k y = let e : k + 1 - 1 ≡ k = omega arith in rw e refl

-- the three lists of parents
pub record AgreeFor (k : ℕ) (x y : Parents) : Type 0 where
  pub hintprocessors : Agree 0 384 k x.hintprocessors y.hintprocessors
  pub hintmoves : Agree 0 384 k x.hintmoves y.hintmoves
  pub held : Agree 0 384 k x.held y.held

module _ {k : ℕ} {x y : Parents} (a : AgreeFor k x y) where
  pub parents_more : k < 384 → (e : ParentEntry) → e ≡ read_parent y k → AgreeFor (k + 1) (write_parent x k e) y
  parents_more h e q =
      record {
        hintprocessors = agree_more a.hintprocessors h e.hint.processor.0 (ap (λ (z : ParentEntry). z.hint.processor.0) q);
        hintmoves = agree_more a.hintmoves h e.hint.moves (ap (λ (z : ParentEntry). z.hint.moves) q);
        held = agree_more a.held h e.held (ap (λ (z : ParentEntry). z.held) q);
      }

  pub parents_all : 384 ≤ k → x ≡ y
  parents_all h = rw (agree_all h a.hintprocessors, agree_all h a.hintmoves, agree_all h a.held) refl

pub record LongFor (x : Parents) : Type 0 where
  pub hintprocessors : length x.hintprocessors ≡ 384
  pub hintmoves : length x.hintmoves ≡ 384
  pub held : length x.held ≡ 384

for_long : (f : ℕ → ℕ) (start : ℕ) (board : List ℕ) → length (parent_column f start board) ≡ 384
unfolding parent_column
for_long f start board = length_table 384 _

pub parents_long : (board : List ℕ) → LongFor (parents_on board)
unfolding parents_on
parents_long board = record { hintprocessors = for_long _ _ board; hintmoves = for_long _ _ board; held = for_long _ _ board }

pub parents_none : {x y : Parents} → LongFor x → LongFor y → AgreeFor 0 x y
parents_none p q =
    record {
      hintprocessors = agree_none p.hintprocessors q.hintprocessors;
      hintmoves = agree_none p.hintmoves q.hintmoves;
      held = agree_none p.held q.held;
    }

-- the entry after the first k, by its desk d and its task t
module _ (k : ℕ) {d : ProcessorId} {t : TaskId} (de : d ≡ processor_id (k / 64 + 1)) (te : t ≡ task_id (k % 64 + 1)) where
  pub at_after : k < 384 → AtParent d t
  at_after h = rw (de, te) (record { processor_low = omega arith; processor = omega arith; task = omega arith })

  index_after : parent_index d t ≡ k
  index_after = rw (de, te) (omega arith)

  pub parent_after : (x : Parents) → parent_in x d t ≡ read_parent x k
  parent_after x = rw index_after refl

  pub stored_for : (x : Parents) (e : ParentEntry) → parent_stored x d t e ≡ write_parent x k e
  stored_for x e = rw index_after refl
