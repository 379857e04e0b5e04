-- "Old plans act on level 0.": a plan whose sets and adds all mean level 0 leaves the other three levels 0. Said of the definitions of `rules` and
-- of the statement alone.
use Rattle.std.specs.Prelude.{◌≡◌, Bool, true, ◌&&◌, List, ℕ, ◌≤◌, eqb, Ok}
use Rattle.base.specs.Lists.{every}
use Rattle.plan.specs.declared.ChannelId.{ChannelId}
use Rattle.plan.specs.declared.Plan.{Plan}
use Rattle.plan.specs.declared.ProcessorId.{ProcessorId}
use Rattle.plan.specs.declared.TaskId.{TaskId}
use Rattle.plan.specs.declared.Word.{Word}
use Rattle.plan.specs.Programs.{Programs, programs}
use Rattle.plan.specs.Refusals.{plan_answer}
use Rattle.rules.specs.declared.message.Message.TheVariants.{Data}
use Rattle.rules.specs.declared.step.Step.{Step}
use Rattle.rules.specs.Networks.{message_at}
use Rattle.rules.specs.Systems.{task_at}
use Rattle.rules.specs.Steps.{received_on}
use Rattle.claim.specs.Statement.{from}

-- "The second byte of set and add, 0 to 3, says which one is meant; for other kinds it stays zero.": here it is zero for all
abbrev pub is_old : Programs → Bool
is_old m = every (every (λ i. eqb i.level 0)) m

-- levels 1 to 3 of a word are 0
abbrev pub on_level0 : Word → Bool
on_level0 w = eqb w.1 0 && (eqb w.2 0 && eqb w.3 0)

-- after the list ss, of all words that there are
pub record OnlyLevel0 (n : ℕ) (p : Plan) (ss : List Step) : Type 0 where
  -- each task's
  pub tasks : (t : TaskId) → on_level0 (task_at (from n p ss).system t).word ≡ true
  -- that of each word letter, at any place in the mail
  pub messages : (k : ℕ) (c : ChannelId) (d : ProcessorId) (w : Word) → message_at (from n p ss).system.network k ≡ Data c d w → on_level0 w ≡ true
  -- each received on a channel
  pub received : (c : ChannelId) → every on_level0 (received_on c (from n p ss).reports) ≡ true

-- `old_plans`: for every accepted plan of this kind, 1 to 6 desks and every list of steps
abbrev pub OldPlansOnLevel0 : Type 0
OldPlansOnLevel0 =
    (n : ℕ) (p : Plan) (ss : List Step) → 1 ≤ n → n ≤ 6 → plan_answer (programs p) ≡ Ok tt → is_old (programs p) ≡ true → OnlyLevel0 n p ss
