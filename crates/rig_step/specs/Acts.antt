-- A step on what is lent, whose mail is not: the letter that it delivers is given, and what it posts is returned.
use Rattle.std.specs.Prelude.{◌≡◌, ◌≢◌, List, ℕ}
use Rattle.rules.specs.declared.message.Message.{Message}
use Rattle.rules.specs.declared.message.Network.{Network}
use Rattle.rules.specs.declared.rule.Posting.{Posting}
use Rattle.rules.specs.declared.step.Report.{Report}
use Rattle.rules.specs.declared.step.Step.{Step}
use Rattle.rules.specs.Networks.{message_at, enqueued_all, messages_of}
use Rattle.plan_value.specs.Slots.{plan_in}
use Rattle.plan_index.specs.ends.Derived.{ends_of}
use Rattle.plan_index.specs.user_table.Users.{senders_of, receivers_of}
use Rattle.network.specs.Positions.{position_of, mail_less}
use Rattle.board.specs.declared.act.Act.{Act}
use Rattle.board.specs.declared.act.Size.{Size}
use Rattle.board.specs.Lent.{Lent, tasks_of, kept_of}
use Rattle.board.specs.Acted.{Acted}
use Rattle.board.specs.Rigs.{facts_in}
use Rattle.board.specs.Verdicts.{step_verdict}
use Rattle.rig_step.specs.Rigs.{RigWith, TurnedOn}

-- the number of each send of the plan value of n tasks with these slots
abbrev pub numbers_of : ℕ → List ℕ → List ℕ → List ℕ
numbers_of n lengths codes = (ends_of (plan_in n lengths codes)).numbers

-- the mail after the step x that posts this, on n desks: the letter that x delivers has left it, and what is posted has joined it
unfoldable pub mail_after : ℕ → Network → Step → Posting → Network
mail_after n k x posting = enqueued_all (mail_less k (position_of k.used x)) (messages_of n posting)

-- m is the letter that the step x delivers, if x delivers one
abbrev pub Delivers : Size → Network → Message → Step → Type 0
Delivers n k m x = position_of n.used x ≢ 0 → m ≡ message_at k (position_of n.used x)

-- what is lent is a rig with some mail, and m is the letter there that the step x delivers
pub record Acts (codes numbers users : List ℕ) (n : Size) (l : Lent) (m : Message) (x : Step) : Type 0 where
  pub network : Network
  pub rig : RigWith codes numbers users n network l
  pub message : Delivers n network m x

-- what is said, without what is posted
abbrev pub said_in : Act → Report
said_in r = record { answer = r.answer; received = r.received }

-- a step that delivers no letter was carried out
abbrev pub OtherDone : List ℕ → List ℕ → List ℕ → Size → Step → Lent → Act → Lent → Type 0
OtherDone codes numbers users n x l r l' =
    Acted (senders_of users) (receivers_of users)
    (step_verdict (facts_in n.tasks codes numbers users) n.processors (tasks_of l) (kept_of l) n.used x)
    l r l'

-- with whatever mail that was a rig, the step x was carried out, and the mail then is the one after it
abbrev pub CarriedOut : List ℕ → List ℕ → List ℕ → Size → Message → Step → Lent → Act → Lent → Type 0
CarriedOut codes numbers users n m x l r l' =
    (k : Network) → RigWith codes numbers users n k l → Delivers n k m x
    → TurnedOn (facts_in n.tasks codes numbers users) n.processors l k x l' (said_in r) (mail_after n.processors k x r.posting)
