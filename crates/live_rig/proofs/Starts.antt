-- The rig that is written is the start, and what the call answers.
use mathlib.Core.Path.{◌≡◌, refl, sym, ap, ◌∙◌}
use mathlib.Core.Logic.{◌≢◌}
use mathlib.Core.Bool.{true, false}
use mathlib.Core.List.{List, ◌++◌}
use Prim.Native.Nat.{ℕ, ◌≤◌, ◌<◌}
use native.Mathlib.Omega.{arith}
use lib.ListN.{length, drop, replicate}
use borrow.Author.Tests.{le-leb, lt-leb, ne_eqb}
use Rattle.std.specs.Prelude.{Ok, Err}
use Rattle.base.specs.Choice.{within}
use Rattle.base.proofs.Tests.{within_low, within_high}
use Rattle.plan.specs.declared.Plan.{Plan}
use Rattle.plan.specs.declared.Refusal.{Refusal}
use Rattle.plan.specs.declared.Refusal.TheVariants.{BadProcessors, BadLayout, BadInstruction, BadFinish, BadCreate, BadChannel, OutputShort, BadRepeat, RepeatedCreate, TooLong}
use Rattle.plan.specs.Answers.{refusal_number}
use Rattle.plan.specs.Files.{file_answer, start_answer}
use Rattle.plan.specs.Outcomes.{plan_read, start_number}
use Rattle.plan_laws.specs.Bytes.{Bytes}
use Rattle.plan_file.specs.declared.opening.Opened.{Opened}
use Rattle.plan_file.specs.Opens.{file_plan, PlanOpened}
use Rattle.plan_write.specs.output.Output.{overlay}
use Rattle.plan_index.specs.ends.Derived.{ends_of}
use Rattle.plan_index.specs.user_table.Built.{Few, Built}
use Rattle.plan_index.specs.user_table.Users.{receivers_of}
use Rattle.rules.specs.declared.message.Network.{Network}
use Rattle.rules.specs.declared.system.System.{System}
use Rattle.rules.specs.declared.system.Tables.{Tables}
use Rattle.rules.specs.declared.system.TaskTable.{TaskTable}
use Rattle.rules.specs.Effects.{for_channels}
use Rattle.rules.specs.Numbers.{task_id, processor_id}
use Rattle.rules.specs.Starts.{blank, birth, started, no_messages, no_tables, none_chosen}
use Rattle.rules.specs.Systems.{with_task, with_parent, parent_at}
use Rattle.rig_parts.specs.declared.kept.Kept.{Kept}
use Rattle.rig_parts.specs.declared.sweep.CellRule.TheVariants.{Locate}
use Rattle.rig_parts.specs.Facts.{facts, kept_in}
use Rattle.rig_parts.specs.Sweeps.{for_ends}
use Rattle.board.specs.Acted.{StoredBy}
use Rattle.board.specs.Lent.{Lent, lent}
use Rattle.rig.specs.start.Parts.{StartsOn}
use Rattle.rig.proofs.start.Tables.{few_ends}
use Rattle.run.specs.file.Begins.{Begins}
use Rattle.run.proofs.file.Beginning.{begun}
use Rattle.run.proofs.file.Opening.{opened_file}
use Rattle.image.specs.Image.{image, rig_size, plan_room}
use Rattle.image_laws.specs.Parts.{system_on}
use Rattle.image_laws.proofs.Plans.{read_plan, plan_back, plan_size, plan_fits}
use Rattle.image_laws.proofs.Started.{start_imaged}
use Rattle.rig_write.specs.Head.{head_written}
use Rattle.rig_write.specs.Written.{lent_written, parts_written}
use Rattle.rig_write.proofs.Written.{no_letters}
use Rattle.rig_write.proofs.Images.{started_image}
use Rattle.image.specs.Live.{StartMeets}
use Rattle.live_rig.specs.Start.{Starts}
use Rattle.live_rig.proofs.Left.{left}

-- a rig put together of its parts
abbrev made : ℕ → Plan → TaskTable → Kept → Network → List ℕ → System
made n p ts s k chosen =
    record { processors = n; plan = p; tasks = ts; tables = s.store.tables; channels = s.store.channels; parents = s.parents; network = k; chosen = chosen }

made_same : {n : ℕ} {p : Plan} {ts : TaskTable} {s : Kept} {k : Network} {chosen : List ℕ} (r : System)
    → n ≡ r.processors → p ≡ r.plan → ts ≡ r.tasks → s ≡ kept_in r → k ≡ r.network → chosen ≡ r.chosen → made n p ts s k chosen ≡ r
made_same r en ep et es ek ec = rw (en, ep, et, es, ek, ec) refl

started_chosen : (n : ℕ) (p : Plan) → none_chosen ≡ (started n p).chosen
unfolding started blank birth with_task with_parent parent_at for_channels
started_chosen n p = refl

started_plan : (n : ℕ) (p : Plan) → p ≡ (started n p).plan
unfolding started blank birth with_task with_parent parent_at for_channels
started_plan n p = refl

module _ {b : List ℕ} {n : ℕ} {f senders receivers parents : List ℕ} (s : Starts b n f senders receivers parents) where
  abbrev read : Plan
  read = (plan_read f).plan

  pub few_users : Few senders receivers parents
  few_users = rw (s.senders_are, s.receivers_are, s.parents_are) (few_ends read (plan_fits f s.accepted).0)

  pub plan_room_lem : Bytes f → length f ≤ plan_room
  plan_room_lem bytes = rw (plan_back f bytes s.accepted) at (plan_size f)

  -- what is lent is the start
  module _ {users : List ℕ} (t : Built senders receivers parents users) {z : Tables} {hp hm board : List ℕ} (empty : z ≡ no_tables) (on : StartsOn board)
      (located : StoredBy (for_ends (receivers_of users) (task_id 1) (processor_id 1) (Locate (processor_id 1) 1))
      (lent z.hintprocessors z.hintmoves z.heldprocessors z.heldnumbers z.notes board)
      (lent hp hm z.heldprocessors z.heldnumbers z.notes board)) where
    abbrev given : Lent
    given = lent hp hm z.heldprocessors z.heldnumbers z.notes board

    begins : Begins n read (facts read.tasks read.codes (ends_of read).numbers senders receivers parents)
    begins =
        record {
          some = s.some;
          most = s.most;
          accepted = (plan_fits f s.accepted).0;
          derived = rw (s.senders_are, s.receivers_are, s.parents_are) refl;
        }

    start_is : system_on n read given no_messages none_chosen ≡ started n read
    start_is =
        let rig = begun read.tasks read.codes (ends_of read).numbers t {k = no_messages} {z = z} {hp = hp} {hm = hm} {board = board} begins refl empty on located in
        made_same (started n read) rig.parts.processors (started_plan n read) rig.parts.tasks rig.parts.kept rig.network (started_chosen n read)

    -- so its image is written: a head, zeros for the mail, and the parts
    pub start_written : Bytes f → {head blank after : List ℕ} → length head ≡ rig_size → head ≡ head_written b n f → blank ≡ overlay head 30024 (replicate 4096 0)
        → after ≡ lent_written blank given 0 none_chosen → after ≡ image (started n read)
    start_written bytes {head} {blank} long eh ez ea =
        ea
        ∙ no_letters head long blank given no_messages none_chosen refl ez
        ∙ ap (λ (x : List ℕ). parts_written x given no_messages none_chosen) eh
        ∙ ap (λ (x : List ℕ). parts_written (head_written b n x) given no_messages none_chosen) (sym (plan_back f bytes s.accepted))
        ∙ started_image b n read given no_messages none_chosen s.long (plan_size f)
        ∙ ap image start_is

-- what is opened of an accepted file
module _ (f : List ℕ) {o : Opened} {codes parents senders receivers : List ℕ} (h : PlanOpened f o codes parents senders receivers) (a : o.answer ≡ Ok tt) where
  pub starts : {b : List ℕ} {n : ℕ} → length b ≡ rig_size → within 1 6 n ≡ true → Starts b n f senders receivers parents
  unfolding ends_of
  starts {n = n} e d =
      let accepted = opened_file h a in
      let users = h.firsts a in
      let plan : file_plan f ≡ (plan_read f).plan = sym (read_plan f accepted) in
      record {
        long = e;
        some = within_low 1 6 n d;
        most = within_high 1 6 n d;
        accepted = accepted;
        senders_are = rw (← plan) users.senders;
        receivers_are = rw (← plan) users.receivers;
        parents_are = rw (← plan) users.parents;
      }
