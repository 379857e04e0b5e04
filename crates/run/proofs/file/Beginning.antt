-- The parts that a run makes are those of the rig at the start.
use mathlib.Core.Path.{◌≡◌, refl, sym, ◌∙◌, ap}
use mathlib.Core.List.{List}
use Prim.Native.Nat.{ℕ}
use Rattle.plan.specs.declared.Plan.{Plan}
use Rattle.rules.specs.declared.message.Network.{Network}
use Rattle.rules.specs.declared.system.Tables.{Tables}
use Rattle.rules.specs.declared.system.Channels.{Channels}
use Rattle.rules.specs.declared.system.Store.{Store}
use Rattle.rules.specs.Numbers.{task_id, processor_id}
use Rattle.rules.specs.Starts.{started, no_messages, no_tables, no_channels}
use Rattle.rules.specs.Systems.{store}
use Rattle.rules_laws.proofs.Shapes.{started_shaped, started_plan, started_processors}
use Rattle.rules_sound.proofs.Starts.{started_ok}
use Rattle.rig_parts.specs.declared.sweep.CellRule.TheVariants.{Locate}
use Rattle.rig_parts.specs.Sweeps.{for_ends}
use Rattle.rig_parts.specs.Facts.{Facts, facts, facts_of}
use Rattle.rig_parts.specs.Turns.{Rig}
use Rattle.plan_index.specs.user_table.Users.{receivers_of}
use Rattle.plan_index.specs.user_table.Built.{Few, Built}
use Rattle.board.specs.Lent.{lent, tasks_on, kept_of}
use Rattle.board.specs.Acted.{StoredBy}
use Rattle.board.specs.Rigs.{facts_in}
use Rattle.rig.specs.start.Parts.{start_store, StartsOn}
use Rattle.rig.proofs.start.Starting.{started_tasks, started_network, started_kept}
use Rattle.rig.proofs.start.Tables.{few_ends}
use Rattle.run.specs.file.Begins.{Begins}
use Rattle.run.proofs.all_steps.Acting.{both_kept}

-- who uses what of an accepted plan goes into the table
pub few_users : {n : ℕ} {p : Plan} {f : Facts} → Begins n p f → Few f.senders f.receivers f.parents
few_users {n} {p} b = rw b.derived (few_ends p b.accepted)

-- what is derived of the plan, with who uses what in one table
module _ (count : ℕ) (codes numbers : List ℕ) {senders receivers parents users : List ℕ} (t : Built senders receivers parents users) where
  pub facts_in_lem : facts_in count codes numbers users ≡ facts count codes numbers senders receivers parents
  facts_in_lem = rw (t.senders_of_lem, t.receivers_of_lem, t.parents_of_lem) refl

  -- pointers are set for the channels that task 1 receives on; there is nothing else in the tables, and the start on the board
  abbrev pub begun : {n : ℕ} {p : Plan} {k : Network} {z : Tables} {hp hm board : List ℕ}
      → Begins n p (facts count codes numbers senders receivers parents)
      → k ≡ no_messages
      → z ≡ no_tables
      → StartsOn board
      → StoredBy (for_ends (receivers_of users) (task_id 1) (processor_id 1) (Locate (processor_id 1) 1))
      (lent z.hintprocessors z.hintmoves z.heldprocessors z.heldnumbers z.notes board)
      (lent hp hm z.heldprocessors z.heldnumbers z.notes board)
      → Rig (facts_in count codes numbers users) n (tasks_on board) k (kept_of (lent hp hm z.heldprocessors z.heldnumbers z.notes board))
  begun {n} {p} {k} {z} {hp} {hm} {board} b network empty on located =
      let e = facts_in_lem ∙ b.derived in
      let sweep : List ℕ → Store → Store = λ receivers. for_ends receivers (task_id 1) (processor_id 1) (Locate (processor_id 1) 1) in
      record {
        parts =
            record {
              system = started n p;
              shaped = started_shaped n p;
              sound = started_ok n p b.some b.most b.accepted;
              facts_of_lem = e ∙ ap facts_of (sym (started_plan n p));
              processors = sym (started_processors n p);
              tasks = on.tasks ∙ sym (started_tasks n p);
              kept =
                  both_kept
                  (located.store
                  ∙ ap (λ (y : Channels). sweep (receivers_of users) (store z y)) on.channels
                  ∙ ap (λ (x : Tables). sweep (receivers_of users) (store x no_channels)) empty
                  ∙ ap (λ (x : Facts). start_store x.receivers) e)
                  on.parents
                  ∙ sym (started_kept n p);
              messages = ap (λ (q : Network). q.used) (network ∙ sym (started_network n p));
            };
        network = network ∙ sym (started_network n p);
      }
