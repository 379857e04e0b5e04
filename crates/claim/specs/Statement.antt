-- Demand 3: "a single claim about the whole list of steps, not one for each".
use Rattle.std.specs.Prelude.{◌≡◌, Bool, true, false, not, ◌&&◌, ◌||◌, List, [], ◌∷◌, ℕ, ◌+◌, ◌-◌, ◌*◌, ◌≤◌, eqb, Ok}
use Rattle.base.specs.Choice.{pick, within}
use Rattle.base.specs.Lists.{every}
use Rattle.base.specs.Sets.{member}
use Rattle.base.specs.Beginnings.{Beginning}
use Rattle.plan.specs.declared.Plan.{Plan}
use Rattle.plan.specs.declared.TaskId.{TaskId}
use Rattle.plan.specs.declared.ChannelId.{ChannelId}
use Rattle.plan.specs.Programs.{programs}
use Rattle.plan.specs.Users.{sender_of, receiver_of, parent_of}
use Rattle.plan.specs.Layout.{total_of}
use Rattle.plan.specs.Refusals.{plan_answer}
use Rattle.rules.specs.declared.task.TaskState.TheVariants.{Sending, Receiving, Moving}
use Rattle.rules.specs.declared.message.Message.{Message}
use Rattle.rules.specs.declared.message.Message.TheVariants.{Empty, Offered, Advert, ReadyToReceive, Data, Terminated, Migration}
use Rattle.rules.specs.declared.step.Step.{Step}
use Rattle.rules.specs.declared.step.Report.{Report}
use Rattle.rules.specs.declared.system.System.{System}
use Rattle.rules.specs.Answers.{is_accepted, step_number}
use Rattle.rules.specs.Tasks.{is_in, is_at}
use Rattle.rules.specs.Places.{is_on}
use Rattle.rules.specs.Networks.{message_at}
use Rattle.rules.specs.Systems.{task_at, channel_at, meaning, task_program}
use Rattle.rules.specs.Starts.{started}
use Rattle.rules.specs.Steps.{is_run, is_deliver, is_move, step_answer, step, quiescent, History, steps, received_on}

-- "A call supposes its sender sending on that channel at the letter's desk; a word, its receiver there, receiving and having called; ended, a
-- parent there with that child living; a mover, a moving task."; ended "now supposes only that the child is in its parent's set". An offer and an
-- advert suppose nothing; an empty slot is no letter.
unfoldable pub finds_its : System → Message → Bool
finds_its r Empty = false
finds_its r (Offered c o h) = true
finds_its r (Advert c d from) = true
finds_its r (ReadyToReceive c d h) =
    let s = sender_of (meaning r) c in
    is_on Sending (task_program r s) c (task_at r s) && is_at d (task_at r s)
finds_its r (Data c d w) =
    let u = receiver_of (meaning r) c in
    is_at d (task_at r u) && (is_on Receiving (task_program r u) c (task_at r u) && (channel_at r c).awaiting)
finds_its r (Terminated h t) = member t.0 (task_at r (parent_of (meaning r) t)).children
finds_its r (Migration d t) = is_in Moving (task_at r t)

-- "Where that isn't so, the letter is removed without effect": this step does so
unfoldable pub wastes : System → Step → Bool
wastes r s = is_deliver s && (is_accepted (step_answer r s) && not (finds_its r (message_at r.network s.number)))

-- no step of the list does, one after the other
unfoldable pub none_wasted : System → List Step → Bool
none_wasted r [] = true
none_wasted r (s ∷ ss) = not (wastes r s) && none_wasted (step r s).system ss

-- how many steps of the list that pass the test are accepted
unfoldable pub accepted_of : (Step → Bool) → System → List Step → ℕ
accepted_of test r [] = 0
accepted_of test r (s ∷ ss) = pick (test s && is_accepted (step_answer r s)) 1 0 + accepted_of test (step r s).system ss

abbrev pub any_step : Step → Bool
any_step s = true

-- the list from the start of plan p on n desks: its reports, and the rig that it leaves
abbrev pub from : ℕ → Plan → List Step → History
from n p ss = steps (started n p) ss

abbrev pub answered_nine : Report → Bool
answered_nine q = eqb (step_number q.answer) 9

-- "Instructions not yet executed are N less the accepted run steps so far, letters under way those in the mail."
abbrev pub not_executed : ℕ → Plan → List Step → ℕ
not_executed n p ss = total_of (programs p) - accepted_of is_run (started n p) ss

abbrev pub under_way : ℕ → Plan → List Step → ℕ
under_way n p ss = (from n p ss).system.network.used

-- the one-desk rig of the plan is at rest after the list ts
abbrev pub Rests : Plan → List Step → Type 0
Rests p ts = quiescent (from 1 p ts).system ≡ true

pub record ComesToRest (p : Plan) : Type 0 where
  pub list : List Step
  pub rests : Rests p list

-- two rigs agree on task t's state, place and word, which is four numbers, so on each level; "A still rig and a moving one must agree on marks
-- at rest."
pub record SameTask (r q : System) (t : TaskId) : Type 0 where
  pub state : (task_at r t).state ≡ (task_at q t).state
  pub place : (task_at r t).pc ≡ (task_at q t).pc
  pub word : (task_at r t).word ≡ (task_at q t).word
  pub overflow : (task_at r t).overflow ≡ (task_at q t).overflow

-- Demand 3 in its own words, clause by clause, with what renders each.
--
-- "Take any accepted plan and every list of run, deliver and move steps, refused ones included, from its start on a rig of one to six desks, where
-- tasks move at will.": p, ss and n of `Claim`, with its three premises. The list is "of any length and may hold any step, malformed ones too"; `from`
-- starts it at the start of the plan.
--
-- (a) "Every step is answered and done as the paper's rules say": `from` goes by `step` of `rules`, which is those rules. `no_nine` adds that the
-- rig is never one that 9 refuses, and `none_wasted_lem` that no letter is "removed without effect": "no run from the start of an accepted plan meets
-- this, and that is shown".
--
-- (b) "and after the list each channel's received words are a beginning of those on a one-desk rig where nothing moves, started from the same plan
-- and brought to rest by the paper's meaning, in whatever order.": `beginning`, for each list ts that brings the rig of one desk to rest; `one_processor`,
-- that there is such a list. That nothing moves there is no premise: on one desk no move is accepted (`NothingMoves` of Moves). The words are
-- whole ones: "Agreement between rigs covers all four" levels.
--
-- (c) "If the moving rig is at rest too, both share every channel's list of received words and every task's state, place and word.": `same_words`
-- and `same_tasks`, which has the task's mark too.
--
-- (d) "From the end of any such list on, at rest or not, if no more moves are accepted, every list of further steps has at most 10 × (instructions
-- not yet executed + letters under way) accepted ones, both counted at that moment,": `few_steps`, for each list us of further steps; `few_runs`, that
-- no more than N runs are accepted, so that the difference in `not_executed` cuts nothing off.
--
-- (e) "and the rig is at rest exactly when no run and no delivery would be accepted.": `rest_refuses` and `refuses_rest`, of every run and delivery
-- step, whatever its task number, position or unused field.
pub record Demand3 (n : ℕ) (p : Plan) (ss : List Step) : Type 0 where
  -- (a)
  pub no_nine : every (λ q. not (answered_nine q)) (from n p ss).reports ≡ true
  pub none_wasted_lem : none_wasted (started n p) ss ≡ true
  -- (b) the words "just as the steps' trace lines report" them
  pub beginning : (ts : List Step) → Rests p ts → (c : ChannelId)
      → Beginning (received_on c (from n p ss).reports) (received_on c (from 1 p ts).reports)
  pub one_processor : ComesToRest p
  -- (c)
  pub same_words : quiescent (from n p ss).system ≡ true → (ts : List Step) → Rests p ts → (c : ChannelId)
      → received_on c (from n p ss).reports ≡ received_on c (from 1 p ts).reports
  pub same_tasks : quiescent (from n p ss).system ≡ true → (ts : List Step) → Rests p ts → (t : TaskId) → within 1 p.tasks t.0 ≡ true
      → SameTask (from n p ss).system (from 1 p ts).system t
  -- (d)
  pub few_runs : accepted_of is_run (started n p) ss ≤ total_of (programs p)
  pub few_steps : (us : List Step) → accepted_of is_move (from n p ss).system us ≡ 0
      → accepted_of any_step (from n p ss).system us ≤ 10 * (not_executed n p ss + under_way n p ss)
  -- (e)
  pub rest_refuses : quiescent (from n p ss).system ≡ true → (s : Step) → (is_run s || is_deliver s) ≡ true
      → is_accepted (step_answer (from n p ss).system s) ≡ false
  pub refuses_rest : ((s : Step) → (is_run s || is_deliver s) ≡ true → is_accepted (step_answer (from n p ss).system s) ≡ false)
      → quiescent (from n p ss).system ≡ true

-- the claim: for every accepted plan, 1 to 6 desks and every list of steps
abbrev pub Claim : Type 0
Claim = (n : ℕ) (p : Plan) (ss : List Step) → 1 ≤ n → n ≤ 6 → plan_answer (programs p) ≡ Ok tt → Demand3 n p ss
