-- Each accepted step runs in the net.
use mathlib.Core.Path.{◌≡◌}
use mathlib.Core.List.{List, ◌++◌}
use mathlib.Core.Bool.{true}
use Rattle.std.specs.Prelude.{Ok}
use Rattle.plan.specs.declared.ChannelId.{ChannelId}
use Rattle.plan.specs.declared.Word.{Word}
use Rattle.plan.specs.Programs.{Programs}
use Rattle.plan.specs.Refusals.{plan_answer}
use Rattle.plan.specs.declared.TaskId.{TaskId}
use Rattle.plan.specs.declared.Instruction.{Instruction}
use Rattle.plan.specs.Kinds.{is_use, op_create}
use Rattle.rules.specs.Reports.{Received}
use Rattle.rules.specs.Steps.{word_on}
use Rattle.rules.specs.Tasks.{is_in}
use Rattle.rules.specs.declared.task.TaskState.TheVariants.{Unborn}
use Rattle.net.specs.States.{Net}
use Rattle.net.specs.Labels.{Label}
use Rattle.net.specs.Nets.{Reached}
use Rattle.net.specs.Consistent.{Consistent}
use Rattle.net.proofs.Consistent.{consistent}
use Rattle.transitions.specs.Readings.{Reading}
use Rattle.transitions.specs.Views.{Histories}
use Rattle.transitions.specs.Transitions.{RunTransition, transfers, owns, creates, finishes, DeliverTransition, delivers, ends, arrives, MoveTransition, Runs}
use Rattle.transitions.specs.Agreement.{Running}
use Rattle.invariant.proofs.NetSteps.{Follows}
use Rattle.invariant.proofs.NetChannel.{channel_follows}
use Rattle.invariant.proofs.NetTasks.{follows_nothing, own_transition_follows, create_follows, arrival_follows, move_follows, runs_unborn}
use Rattle.invariant.proofs.NetEnds.{finish_follows, ended_follows}

module _ (m : Programs) (accepted : plan_answer m ≡ Ok tt) {ls : List Label} {s : Net} (reached : Reached m ls s)
    {h : Histories} {x : Reading} {w : ChannelId → List Word} (run : Running m h s x w) where
  sane : Consistent m s
  sane = consistent m accepted reached

  -- a task that is about to create another finds it unborn
  pub creates_unborn : (t : TaskId) (i : Instruction) → Runs m x t i → (u : TaskId) → is_use op_create u.0 i ≡ true → is_in Unborn (x.tasks u) ≡ true
  creates_unborn t i runs = runs_unborn m accepted s sane run t i runs

  -- by each act
  pub follows_run : {h' : Histories} {y : Reading} {got : Received} → RunTransition m h x h' y got → Follows m s y (λ c. w c ++ word_on c got)
  follows_run (transfers e transition) = channel_follows m accepted s sane run transition
  follows_run (owns transition) = follows_nothing (own_transition_follows m accepted s sane run transition)
  follows_run (creates transition) = follows_nothing (create_follows m accepted s sane run transition)
  follows_run (finishes transition) = follows_nothing (finish_follows m accepted s sane run transition)

  pub follows_deliver : {y : Reading} {got : Received} → DeliverTransition m h x y got → Follows m s y (λ c. w c ++ word_on c got)
  follows_deliver (delivers p a transition) = channel_follows m accepted s sane run transition
  follows_deliver (ends transition) = follows_nothing (ended_follows m accepted s sane run transition)
  follows_deliver (arrives transition) = follows_nothing (arrival_follows m accepted s sane run transition)

  pub follows_move : {h' : Histories} {y : Reading} → MoveTransition m h h' x y → Follows m s y w
  follows_move transition = move_follows m accepted s sane run transition
