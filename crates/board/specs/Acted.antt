-- A verdict carried out on what is lent.
use Rattle.std.specs.Prelude.{◌≡◌, List, ℕ, None, Ok, Err}
use Rattle.rules.specs.declared.rule.Outcome.{Outcome}
use Rattle.rules.specs.declared.rule.Posting.{Posting}
use Rattle.rules.specs.declared.rule.Posting.TheVariants.{Nothing as NoPosting}
use Rattle.rules.specs.Answers.{StepAnswer}
use Rattle.rules.specs.declared.system.TaskTable.{TaskTable}
use Rattle.rules.specs.declared.system.Parents.{Parents}
use Rattle.rules.specs.declared.system.Store.{Store}
use Rattle.rig_parts.specs.Answers.{Verdict}
use Rattle.rig_parts.specs.Sweeps.{swept_parents}
use Rattle.rig_parts.specs.Effects.{changed_tasks, changed_store}
use Rattle.board.specs.declared.act.Act.{Act}
use Rattle.board.specs.Lent.{Lent, Whole, tasks_of, store_of, parents_on}

abbrev pub refused_act : StepAnswer → Act
refused_act q = record { answer = q; received = None; posting = NoPosting }

abbrev pub accepted_act : Outcome → Act
accepted_act o = record { answer = Ok tt; received = o.received; posting = o.posting }

-- accepted, no word is received, and this is posted
abbrev pub posted_act : Posting → Act
posted_act p = record { answer = Ok tt; received = None; posting = p }

abbrev pub plain_act : Act
plain_act = posted_act NoPosting

-- what is said and posted
abbrev pub act_of : Verdict → Act
act_of (Err q) = refused_act (Err q)
act_of (Ok k) = accepted_act k.outcome

-- the tasks, what is kept for channels, and what is kept for parents, then
abbrev pub tasks_after : Verdict → TaskTable → TaskTable
tasks_after (Err q) ts = ts
tasks_after (Ok k) ts = changed_tasks k ts

abbrev pub store_after : List ℕ → List ℕ → Verdict → Store → Store
store_after senders receivers (Err q) s = s
store_after senders receivers (Ok k) s = changed_store senders receivers k s

abbrev pub parents_after : Verdict → Parents → Parents
parents_after (Err q) ps = ps
parents_after (Ok k) ps = swept_parents k.sweep ps

-- the verdict v was carried out: r is said, and what is lent is `after`
pub record Acted (senders receivers : List ℕ) (v : Verdict) (before : Lent) (r : Act) (after : Lent) : Type 0 where
  pub whole : Whole after.board
  pub act : r ≡ act_of v
  pub tasks : tasks_of after ≡ tasks_after v (tasks_of before)
  pub store : store_of after ≡ store_after senders receivers v (store_of before)
  pub parents : parents_on after.board ≡ parents_after v (parents_on before.board)

-- f was done to what is kept for channels; the tasks, and what is kept for parents, stayed
pub record StoredBy (f : Store → Store) (before after : Lent) : Type 0 where
  pub whole : Whole after.board
  pub tasks : tasks_of after ≡ tasks_of before
  pub store : store_of after ≡ f (store_of before)
  pub parents : parents_on after.board ≡ parents_on before.board
