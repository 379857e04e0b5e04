-- A property of words that a run keeps: of a task, of a letter, of what is received, of a rig, and of what a rule and a step leave.
use Rattle.std.specs.Prelude.{◌≡◌, Bool, true, ◌&&◌, ℕ, ◌<◌, leb, length, None, Some}
use Rattle.base.specs.Lists.{every}
use Rattle.plan.specs.declared.Instruction.{Instruction}
use Rattle.plan.specs.declared.Word.{Word as WordOf}
use Rattle.plan.specs.Programs.{Programs, program_at, instruction_at}
use Rattle.plan.specs.Words.{zero_word, set_word, add_word}
use Rattle.rules.specs.declared.task.Task.{Task}
use Rattle.rules.specs.declared.message.Message.{Message}
use Rattle.rules.specs.declared.message.Message.TheVariants.{Empty, Offered, Advert, ReadyToReceive, Data, Terminated, Migration}
use Rattle.rules.specs.declared.message.Slot.{Slot}
use Rattle.rules.specs.declared.rule.Posting.{Posting}
use Rattle.rules.specs.Reports.{Received}
use Rattle.rules.specs.declared.rule.Outcome.{Outcome}
use Rattle.rules.specs.declared.step.Report.{Report}
use Rattle.rules.specs.declared.system.System.{System}
use Rattle.rules.specs.Networks.{messages_of}
use Rattle.rules.specs.Effects.{Effect}
use Rattle.rules.specs.Steps.{History}

module _ (good : WordOf → Bool) where
  -- this instruction keeps the property, whether it is taken for a set or for an add
  pub record Keeps (i : Instruction) : Type 0 where
    pub set : (w : WordOf) → good w ≡ true → good (set_word w i) ≡ true
    pub add : (w : WordOf) → good w ≡ true → good (add_word w i).word ≡ true

  -- the word at birth has it, and each instruction of the plan keeps it
  pub record KeptBy (m : Programs) : Type 0 where
    pub birth : good zero_word ≡ true
    pub instructions : (k : ℕ) → k < length m → (i : ℕ) → i < length (program_at m k) → Keeps (instruction_at (program_at m k) i)

  abbrev pub task_good : Task → Bool
  task_good x = good x.word

  unfoldable pub message_good : Message → Bool
  message_good Empty = true
  message_good (Offered c o h) = true
  message_good (Advert c d from) = true
  message_good (ReadyToReceive c d h) = true
  message_good (Data c d w) = good w
  message_good (Terminated d t) = true
  message_good (Migration d t) = true

  abbrev pub slot_good : Slot → Bool
  slot_good s = message_good s.message

  -- the letters that a rule posts, in a rig of any number of desks
  pub record GoodPosting (p : Posting) : Type 0 where
    pub messages : (n : ℕ) → every message_good (messages_of n p) ≡ true

  -- what is received, on a channel that there is
  unfoldable pub received_good : Received → Bool
  received_good None = true
  received_good (Some (c, w)) = leb c.0 128 && good w

  abbrev pub report_good : Report → Bool
  report_good q = received_good q.received

  -- the words of a rig; a task that is born, and one that there is not, have the zero word
  pub record GoodSystem (r : System) : Type 0 where
    pub zero : good zero_word ≡ true
    pub tasks : every task_good r.tasks.records ≡ true
    pub slots : every slot_good r.network.slots ≡ true

  pub record GoodOutcome (o : Outcome) : Type 0 where
    pub sender : task_good o.sender ≡ true
    pub receiver : task_good o.receiver ≡ true
    pub posting : GoodPosting o.posting
    pub received : received_good o.received ≡ true

  pub record GoodEffect (e : Effect) : Type 0 where
    pub system : GoodSystem e.system
    pub posting : GoodPosting e.posting
    pub received : received_good e.received ≡ true

  -- every word of the rig that is reached, and every word received on the way
  pub record GoodHistory (h : History) : Type 0 where
    pub system : GoodSystem h.system
    pub reports : every report_good h.reports ≡ true
