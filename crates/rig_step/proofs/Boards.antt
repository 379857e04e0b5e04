-- The parts of a rig put on a board are a rig there, and what a run of one step leaves is the step on the parts.
use mathlib.Core.Path.{◌≡◌, refl, sym, ap, ◌∙◌, subst}
use mathlib.Core.List.{List, [], ◌∷◌}
use Prim.Native.Nat.{ℕ, ◌/◌, ◌≤◌}
use native.Mathlib.Omega.{arith}
use lib.ListN.{length}
use Rattle.base.proofs.Tables.{length_table}
use Rattle.rules.specs.declared.message.Network.{Network}
use Rattle.rules.specs.declared.step.Report.{Report}
use Rattle.rules.specs.declared.step.Step.{Step}
use Rattle.rules.specs.declared.system.TaskTable.{TaskTable}
use Rattle.rules.specs.declared.system.Channels.{Channels}
use Rattle.rules.specs.declared.system.Parents.{Parents}
use Rattle.rig_parts.specs.declared.kept.Kept.{Kept}
use Rattle.rules.specs.StepFiles.{step_at, file_steps}
use Rattle.rules_sound.proofs.Sound.{sound}
use Rattle.rig_parts.specs.Facts.{Facts, facts, PartsOf}
use Rattle.rig_parts.specs.Turns.{Rig, turn_of, turned}
use Rattle.plan_index.specs.user_table.Built.{Few, Built}
use Rattle.rig.proofs.start.Tables.{few_ends}
use Rattle.board.specs.Lent.{Lent, lent, Whole, tasks_on, channels_on, parents_on, tasks_of, store_of, kept_of}
use Rattle.board.specs.Rigs.{facts_in}
use Rattle.run.specs.all_steps.Writes.{turns_of, RanOn}
use Rattle.rig_step.specs.Rigs.{RigWith, said_of, TurnedOn}

-- what is lent where the tables are those that are kept
abbrev pub lent_by : Kept → List ℕ → Lent
lent_by s board = lent s.store.tables.hintprocessors s.store.tables.hintmoves s.store.tables.heldprocessors s.store.tables.heldnumbers s.store.tables.notes board

module _ (count : ℕ) (codes numbers senders receivers parents : List ℕ) (n : ℕ) (ts : TaskTable) (k : Network) (s : Kept) (users board : List ℕ)
    (b : Built senders receivers parents users) (et : tasks_on board ≡ ts) (ec : channels_on board ≡ s.store.channels) (ep : parents_on board ≡ s.parents) where
  abbrev given : Facts
  given = facts count codes numbers senders receivers parents

  pub packed_rig : Rig given n ts k s → Whole board
      → RigWith codes numbers users (record { tasks = count; processors = n; used = k.used }) k (lent_by s board)
  packed_rig g w = record { rig = rw (b.senders_of_lem, b.receivers_of_lem, b.parents_of_lem, et, ec, ep) g; messages = refl; whole = w; indexed = b.indexed }

  -- a step there is a step on the parts
  turn_same : (x : Step) → turn_of (facts_in count codes numbers users) n (tasks_on board) k (kept_of (lent_by s board)) x ≡ turn_of given n ts k s x
  turn_same x = rw (b.senders_of_lem, b.receivers_of_lem, b.parents_of_lem, et, ec, ep) refl

  -- the parts taken from the board after a step there
  pub packed_turn : (x : Step) (l' : Lent) {q : Report} {us : TaskTable} {k' : Network} {c' : Channels} {p' : Parents}
      → TurnedOn (facts_in count codes numbers users) n (lent_by s board) k x l' q k'
      → us ≡ tasks_of l' → c' ≡ channels_on l'.board → p' ≡ parents_on l'.board
      → turned q us k' (record { store = record { tables = (store_of l').tables; channels = c' }; parents = p' }) ≡ turn_of given n ts k s x
  packed_turn x l' {q} {us} {k'} {c'} {p'} r eu ec' ep' =
      let t = turn_of (facts_in count codes numbers users) n (tasks_on board) k (kept_of (lent_by s board)) x in
      let all : turned q us k' (record { store = record { tables = (store_of l').tables; channels = c' }; parents = p' }) ≡ t =
      rw (r.report, eu ∙ r.tasks, r.network, ec', ep') (ap (λ (z : Kept). turned t.report t.tasks t.network z) r.kept) in
      all ∙ turn_same x

-- what is decided of a step, and a run of it alone, are the step
pub ran_one : {f : Facts} {n : ℕ} {l : Lent} {k : Network} (x : Step) {l' : Lent} {q : Report} {k' : Network} (steps : List ℕ) {before progress after : List ℕ}
    → q ≡ said_of f n l k x → file_steps steps ≡ x ∷ [] → RanOn f n l k steps before l' k' progress after → TurnedOn f n l k x l' q k'
unfolding turns_of
ran_one x steps e h r = let ran = rw h at r in record { report = e; tasks = ran.0.tasks; network = ran.0.network; kept = ran.0.kept; whole = ran.1 }

-- who uses what in the plan of a rig
pub few_of : {count : ℕ} {codes numbers senders receivers parents : List ℕ} {n : ℕ} {ts : TaskTable} {s : Kept} {used : ℕ}
    → PartsOf (facts count codes numbers senders receivers parents) n ts s used → Few senders receivers parents
few_of p =
    let r = p.system in
    subst (λ (f : Facts). Few f.senders f.receivers f.parents) (sym p.facts_of_lem) (few_ends r.plan (sound r p.shaped p.sound).frame.plan)

-- a file of one step is short
pub one_step : (b : List ℕ) (x : Step) → file_steps b ≡ x ∷ [] → length b / 4 ≤ 2000
unfolding file_steps
one_step b x e = omega (arith, ap length e, length_table (length b / 4) (step_at b))
