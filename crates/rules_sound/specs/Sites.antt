-- What a rule about one channel supposes of its site, and what it leaves.
use Rattle.std.specs.Prelude.{◌≡◌, true, ℕ, ◌≤◌, ◌<◌, length}
use Rattle.plan.specs.Programs.{Program}
use Rattle.rules.specs.declared.task.Task.{Task}
use Rattle.rules.specs.declared.task.TaskState.TheVariants.{Ready, Sending, Receiving, Unborn}
use Rattle.rules.specs.declared.rule.Site.{Site}
use Rattle.rules.specs.declared.rule.Posting.{Posting}
use Rattle.rules.specs.declared.rule.Outcome.{Outcome}
use Rattle.rules.specs.declared.rule.Finished.{Finished}
use Rattle.rules.specs.Tasks.{is_in}
use Rattle.rules.specs.Places.{next_in}
use Rattle.rules.specs.Sound.{task_ok}
use Rattle.rules_sound.specs.Fine.{FineCell, FinePosting, FineParent, FineReply}
use Rattle.rules.specs.declared.rule.Ended.{Ended}

-- in a rig of n desks and m tasks, a site whose receiver runs the program gr; a receiver that is at no desk may be none
pub record FineSite (n m : ℕ) (gr : Program) (x : Site) : Type 0 where
  pub here : 1 ≤ x.receiver.processor.0 → task_ok n m gr x.receiver ≡ true
  pub sending : x.sending ≡ true → is_in Sending x.sender ≡ true
  pub receiving : x.receiving ≡ true → is_in Receiving x.receiver ≡ true
  pub cell : FineCell n x.cell

-- a task's own pointer stays as it was, and the task is born or not as it was
pub record SameOrigin (x y : Task) : Type 0 where
  pub origin : y.origin ≡ x.origin
  pub unborn : is_in Unborn y ≡ is_in Unborn x

-- the outcome, where the sender runs the program gs and Q is to hold of what is posted: a task that was fine is fine
pub record FineOutcome (n m : ℕ) (gs gr : Program) (Q : Posting → Type 0) (x : Site) (o : Outcome) : Type 0 where
  pub sender : task_ok n m gs x.sender ≡ true → task_ok n m gs o.sender ≡ true
  pub receiver : task_ok n m gr x.receiver ≡ true → task_ok n m gr o.receiver ≡ true
  pub sender_origin : SameOrigin x.sender o.sender
  pub receiver_origin : SameOrigin x.receiver o.receiver
  pub cell : FineCell n o.cell
  pub posting : Q o.posting

-- a fine task that runs an instruction of kind k, which is not its last one
pub record Acting (n m : ℕ) (g : Program) (k : ℕ) (x : Task) : Type 0 where
  pub fine : task_ok n m g x ≡ true
  pub ready : is_in Ready x ≡ true
  pub more : x.pc < length g
  pub next : (next_in g x).opcode ≡ k

-- what a finish leaves, of a task x with the program g and a parent y with the program gp
pub record FineFinished (n m : ℕ) (g gp : Program) (x y : Task) (o : Finished) : Type 0 where
  pub task : task_ok n m g o.task ≡ true
  pub task_origin : SameOrigin x o.task
  pub parent : task_ok n m gp y ≡ true → task_ok n m gp o.parent ≡ true
  pub parent_origin : SameOrigin y o.parent
  pub entry : FineParent n m o.entry
  pub posting : FinePosting n m o.posting

-- what an ended letter leaves, of a parent y with the program gp
pub record FineEnded (n m : ℕ) (gp : Program) (y : Task) (o : Ended) : Type 0 where
  pub parent : task_ok n m gp y ≡ true → task_ok n m gp o.parent ≡ true
  pub parent_origin : SameOrigin y o.parent
  pub entry : FineParent n m o.entry
  pub posting : FineReply n m o.posting
