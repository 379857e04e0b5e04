-- What is said of two runs at different desks, used: each of the three rigs meets the premises, and the mails are those.
use mathlib.Core.Path.{◌≡◌, refl, sym, ◌∙◌}
use mathlib.Core.List.{List, [], ◌++◌}
use mathlib.Core.Logic.{◌≢◌}
use Prim.Native.Nat.{ℕ, ◌+◌, ◌≤◌}
use native.Mathlib.Omega.{arith}
use lib.ListN.{length}
use Rattle.std.specs.Prelude.{Ok}
use Rattle.plan.specs.Programs.{programs}
use Rattle.plan.specs.Refusals.{plan_answer}
use Rattle.rules.specs.declared.message.Message.{Message}
use Rattle.rules.specs.declared.system.System.{System}
use Rattle.rules.specs.Numbers.{task_id}
use Rattle.rules.specs.Networks.{messages}
use Rattle.rules.specs.Systems.{task_at}
use Rattle.rules.specs.Steps.{step_answer, run_step}
use Rattle.rules.proofs.Evaluated.{evaluated}
use Rattle.claim.specs.Statement.{from}
use Rattle.claim.specs.Commute.{after_run, posted_by, BothRun, EitherOrder}
use Rattle.claim.proofs.Commute.{runs_commute}
use Rattle.examples.specs.Commute.{senders_plan, senders_before, senders_mail, adverts2, adverts3, family_plan, family_before, ended2, ends_plan, ends_before, offer2}

-- what is evaluated of such a rig r: tasks t and u are at desks d and e, may run, and post these letters; so many are in the mail
record Facts (r : System) (t u d e used : ℕ) (first second : List Message) : Type 0 where
  pub one_at : (task_at r (task_id t)).processor.0 ≡ d
  pub other_at : (task_at r (task_id u)).processor.0 ≡ e
  pub one : step_answer r (run_step t) ≡ Ok tt
  pub other : step_answer r (run_step u) ≡ Ok tt
  pub mail : r.network.used ≡ used
  pub posts : posted_by r t ≡ first
  pub other_posts : posted_by r u ≡ second

-- they are the premises
both_run : (r : System) (t u d e used : ℕ) (first second : List Message) → Facts r t u d e used first second → d ≢ e
    → used + length first + length second ≤ 256
    → BothRun r t u
both_run r t u d e used first second f apart few =
    record {
      processors = λ z. apart (sym f.one_at ∙ z ∙ f.other_at);
      first = f.one;
      second = f.other;
      room = rw (f.posts, f.other_posts, f.mail) few;
    }

-- both post letters
abbrev senders : System
senders = (from 3 senders_plan senders_before).system

senders_accepted : plan_answer (programs senders_plan) ≡ Ok tt
unfolding evaluated
senders_accepted = refl

senders_facts : Facts senders 2 3 2 3 1 adverts2 adverts3
unfolding evaluated
senders_facts = record { one_at = refl; other_at = refl; one = refl; other = refl; mail = refl; posts = refl; other_posts = refl }

senders_old : messages senders.network ≡ senders_mail
unfolding evaluated
senders_old = refl

pub senders_commute : EitherOrder senders 2 3
senders_commute =
    runs_commute 3 senders_plan senders_before 2 3 (omega arith) (omega arith) senders_accepted
    (both_run senders 2 3 2 3 1 adverts2 adverts3 senders_facts (λ e. omega arith) (omega arith))

pub senders_mail_lem : messages (after_run (after_run senders 2) 3).network ≡ senders_mail ++ (adverts2 ++ adverts3)
senders_mail_lem = rw (senders_old, senders_facts.posts, senders_facts.other_posts) at senders_commute.then_u.mail

pub senders_other_mail : messages (after_run (after_run senders 3) 2).network ≡ senders_mail ++ (adverts3 ++ adverts2)
senders_other_mail = rw (senders_old, senders_facts.posts, senders_facts.other_posts) at senders_commute.then_t.mail

-- a finish and a create meet: the parent is at the other desk, and gets a letter whether it creates before or after
abbrev family : System
family = (from 2 family_plan family_before).system

family_accepted : plan_answer (programs family_plan) ≡ Ok tt
unfolding evaluated
family_accepted = refl

family_facts : Facts family 2 1 2 1 0 ended2 []
unfolding evaluated
family_facts = record { one_at = refl; other_at = refl; one = refl; other = refl; mail = refl; posts = refl; other_posts = refl }

pub family_commutes : EitherOrder family 2 1
family_commutes =
    runs_commute 2 family_plan family_before 2 1 (omega arith) (omega arith) family_accepted
    (both_run family 2 1 2 1 0 ended2 [] family_facts (λ e. omega arith) (omega arith))

-- the two ends of a channel meet: the receiver waits, and the sender's offer goes to its desk
abbrev ends : System
ends = (from 2 ends_plan ends_before).system

ends_accepted : plan_answer (programs ends_plan) ≡ Ok tt
unfolding evaluated
ends_accepted = refl

ends_facts : Facts ends 2 3 2 1 0 offer2 []
unfolding evaluated
ends_facts = record { one_at = refl; other_at = refl; one = refl; other = refl; mail = refl; posts = refl; other_posts = refl }

pub ends_commute : EitherOrder ends 2 3
ends_commute =
    runs_commute 2 ends_plan ends_before 2 3 (omega arith) (omega arith) ends_accepted
    (both_run ends 2 3 2 1 0 offer2 [] ends_facts (λ e. omega arith) (omega arith))
