-- The pass over a list of instructions, each where it stands: what one more changes, what is kept of those before, and 3 to 6 by this.
use Rattle.std.specs.Prelude.{◌≡◌, Bool, true, false, not, ◌&&◌, ◌||◌, List, [], ◌∷◌, ◌++◌, ℕ, suc, ◌-◌, length, get_or, set, eqb, ltb, leb, Ok, Err}
use Rattle.base.specs.Choice.{pick, unless}
use Rattle.base.specs.Range.{joined, up_to}
use Rattle.base.specs.Lists.{every, table}
use Rattle.plan.specs.Answers.{PlanAnswer}
use Rattle.plan.specs.declared.Refusal.TheVariants.{BadInstruction, BadFinish, BadCreate, BadChannel}
use Rattle.plan.specs.Kinds.{op_create, op_send, op_receive, is_finish, is_use}
use Rattle.plan.specs.Programs.{Programs, program_at, instruction_at}
use Rattle.plan.specs.Layout.{count_of}
use Rattle.plan.specs.Users.{first_of, one_task, share}
use Rattle.plan_value.specs.declared.instruction.Edition.{Edition}
use Rattle.plan_value.specs.declared.pass.Entry.{Entry}
use Rattle.plan_value.specs.declared.pass.Pass.{Pass}
use Rattle.plan_value.specs.Editions.{allowed}
use Rattle.plan_value.specs.Marks.{kept_of, create_mark, end_mark, same_test}
use Rattle.plan_value.specs.Firsts.{all_created}
use Rattle.plan_value.specs.Ends.{unpaired_in}

-- the pass, and the tables beside it: of creates, sends and receives the first task, by argument
pub record Seen : Type 0 where
  pub pass : Pass
  pub parents : List ℕ
  pub senders : List ℕ
  pub receivers : List ℕ

abbrev pub seen : Pass → List ℕ → List ℕ → List ℕ → Seen
seen p x y z = record { pass = p; parents = x; senders = y; receivers = z }

abbrev pub start_pass : ℕ → Bool → Pass
start_pass n b = record { tasks = n; instructions = b; finishes = b; creates = b; channels = b; unpaired = 0 }

abbrev pub entry_ok : Edition → ℕ → Entry → Bool
entry_ok e n x = allowed e n x.instruction

-- it is a finish exactly where it is the last
abbrev pub finish_fits : Entry → Bool
finish_fits x = same_test (is_finish x.instruction) x.last

-- one instruction more: the table of kind k; whether creates and channels are in order still
abbrev pub next_table : ℕ → Entry → List ℕ → List ℕ
next_table k x l =
    pick (eqb x.instruction.opcode k) (set l x.instruction.operand (kept_of (get_or l x.instruction.operand 0) x.task)) l

abbrev pub next_create : Entry → List ℕ → Bool
next_create x parents =
    pick (eqb x.instruction.opcode op_create) (create_mark (get_or parents x.instruction.operand 0) x.task x.instruction.operand) true

abbrev pub next_end : ℕ → Entry → List ℕ → List ℕ → Bool
next_end k x l others =
    pick (eqb x.instruction.opcode k) (end_mark (get_or l x.instruction.operand 0) (get_or others x.instruction.operand 0) x.task) true

abbrev pub taken_seen : Entry → Seen → Seen
taken_seen x s =
    record {
      pass =
          record {
            tasks = s.pass.tasks;
            instructions = s.pass.instructions;
            finishes = s.pass.finishes && finish_fits x;
            creates = s.pass.creates && next_create x s.parents;
            channels = s.pass.channels && (next_end op_send x s.senders s.receivers && next_end op_receive x s.receivers s.senders);
            unpaired = unpaired_in (next_table op_send x s.senders) (next_table op_receive x s.receivers);
          };
      parents = next_table op_create x s.parents;
      senders = next_table op_send x s.senders;
      receivers = next_table op_receive x s.receivers;
    }

-- .. where it is not refused; else nothing more is asked
abbrev pub next_seen : Edition → Entry → Seen → Seen
next_seen e x s = pick (entry_ok e s.pass.tasks x) (taken_seen x s) (seen (start_pass s.pass.tasks false) s.parents s.senders s.receivers)

-- for each instruction of kind k with argument a among some, in order, the number of its task
unfoldable pub uses_of : ℕ → ℕ → List Entry → List ℕ
uses_of k a [] = []
uses_of k a (x ∷ l) = pick (is_use k a x.instruction) (x.task ∷ []) [] ++ uses_of k a l

abbrev pub firsts_of : ℕ → List Entry → List ℕ
firsts_of k l = table 129 (λ a. first_of (uses_of k a l))

-- one create at most, in a lower task
abbrev pub create_fine : ℕ → List ℕ → Bool
create_fine u [] = true
create_fine u (t ∷ []) = ltb t u
create_fine u (t ∷ s ∷ ts) = false

abbrev pub creates_fine : ℕ → List Entry → Bool
creates_fine n l = up_to n (λ u. leb u 1 || create_fine u (uses_of op_create u l))

-- one task at most at each end of a channel, and not the same at both
abbrev pub ends_fit : List ℕ → List ℕ → Bool
ends_fit ss rs = one_task ss && (one_task rs && not (share ss rs))

abbrev pub ends_fine : List Entry → Bool
ends_fine l = up_to 128 (λ c. ends_fit (uses_of op_send c l) (uses_of op_receive c l))

-- what is kept of some instructions of which none is refused
pub record Passed (e : Edition) (n : ℕ) (l : List Entry) (s : Seen) : Type 0 where
  pub size : s.pass.tasks ≡ n
  pub none : s.pass.instructions ≡ true
  pub instructions : every (entry_ok e n) l ≡ true
  pub finishes : s.pass.finishes ≡ every finish_fits l
  pub creates : s.pass.creates ≡ creates_fine n l
  pub channels : s.pass.channels ≡ ends_fine l
  pub unpaired : s.pass.unpaired ≡ unpaired_in s.senders s.receivers
  pub parents : s.parents ≡ firsts_of op_create l
  pub senders : s.senders ≡ firsts_of op_send l
  pub receivers : s.receivers ≡ firsts_of op_receive l
  pub tasks : every (λ x. leb 1 x.task) l ≡ true

-- the instructions of some programs, where they stand: those of the first k and i of the next, and all
abbrev pub entry_at : Programs → ℕ → ℕ → Entry
entry_at m k i = record { task = suc k; last = eqb i (count_of m k - 1); instruction = instruction_at (program_at m k) i }

abbrev pub entries_of : Programs → ℕ → List Entry
entries_of m k = table (count_of m k) (entry_at m k)

abbrev pub entries_to : Programs → ℕ → ℕ → List Entry
entries_to m k i = joined k (entries_of m) ++ table i (entry_at m k)

abbrev pub entries : Programs → List Entry
entries m = joined (length m) (entries_of m)

-- the pass over all of them
pub record PassOf (e : Edition) (m : Programs) (p : Pass) (x y z : List ℕ) : Type 0 where
  pub size : p.tasks ≡ length m
  pub instructions : p.instructions ≡ every (entry_ok e (length m)) (entries m)
  pub passed : p.instructions ≡ true → Passed e (length m) (entries m) (seen p x y z)

-- 3 to 6 by the pass over a plan
abbrev pub pass_answer : Pass → List ℕ → PlanAnswer
pass_answer p parents =
    unless p.instructions (Err BadInstruction)
    (unless p.finishes (Err BadFinish)
    (unless (p.creates && all_created p.tasks parents) (Err BadCreate)
    (unless (p.channels && eqb p.unpaired 0) (Err BadChannel) (Ok tt))))
