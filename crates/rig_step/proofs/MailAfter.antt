-- The mail without a letter, and after a step: how many letters it has, and how many slots.
use mathlib.Core.Path.{◌≡◌, refl, sym, ap, ◌∙◌, subst}
use mathlib.Core.Logic.{◌≢◌, by_cases}
use mathlib.Core.List.{List}
use Prim.Native.Nat.{ℕ, ◌+◌, ◌≤◌}
use native.Mathlib.Omega.{arith}
use native.Mathlib.Decide.{ℕ_discrete}
use lib.Dec.{eqb}
use lib.ListN.{length}
use borrow.Author.Tests.{eq-eqb, ne_eqb}
use Rattle.base.specs.Choice.{within}
use Rattle.base.proofs.Choices.{pick_cases, pick_either}
use Rattle.base.proofs.Tests.{within_high}
use Rattle.rules.specs.declared.message.Network.{Network}
use Rattle.rules.specs.declared.rule.Posting.{Posting}
use Rattle.rules.specs.declared.step.Report.{Report}
use Rattle.rules.specs.declared.step.Step.{Step}
use Rattle.rules.specs.declared.system.TaskTable.{TaskTable}
use Rattle.rules.specs.Networks.{dequeued, messages_of}
use Rattle.rules.specs.Steps.{is_deliver}
use Rattle.rules_laws.proofs.Messages.{enqueued_all_used, enqueued_all_size, dequeued_used, dequeued_size}
use Rattle.rig_parts.specs.declared.kept.Kept.{Kept}
use Rattle.rig_parts.specs.Facts.{Facts}
use Rattle.rig_parts.specs.Turns.{Rig}
use Rattle.rig_parts.proofs.BoundsParts.{used_few}
use Rattle.rig_parts.proofs.Rigs.{rig_next}
use Rattle.network.specs.Positions.{position_of, mail_less}
use Rattle.board.specs.declared.act.Size.{Size}
use Rattle.board.specs.Lent.{Lent}
use Rattle.board.specs.Rigs.{facts_in}
use Rattle.rig_step.specs.Rigs.{RigWith, TurnedOn}
use Rattle.rig_step.specs.Acts.{mail_after}

-- a letter that is delivered is in the mail
pub position_there : (used : ℕ) (x : Step) → position_of used x ≤ used
unfolding position_of
position_there used x =
    let In : ℕ → Type 0 = λ p. p ≤ used in
    let none : In 0 = omega arith in
    pick_either In (is_deliver x) _ _
    (pick_either In (eqb x.task 0) _ _ (pick_cases In (within 1 used x.number) _ _ (within_high 1 used x.number) (λ e. none)) none)
    none

-- position 0 is that of no letter
pub less_none : (k : Network) {p : ℕ} → p ≡ 0 → mail_less k p ≡ k
less_none k {p} e = rw (eq-eqb p 0 e) refl

pub less_some : (k : Network) (p : ℕ) → p ≢ 0 → mail_less k p ≡ dequeued k p
less_some k p h = rw (ne_eqb p 0 h) refl

-- what is posted joins the mail
module _ (n : ℕ) (k : Network) (x : Step) (posting : Posting) where
  pub after_used : (mail_after n k x posting).used ≡ (mail_less k (position_of k.used x)).used + length (messages_of n posting)
  unfolding mail_after
  after_used = enqueued_all_used (mail_less k (position_of k.used x)) (messages_of n posting)

  pub after_size : length (mail_after n k x posting).slots ≡ length (mail_less k (position_of k.used x)).slots
  unfolding mail_after
  after_size = enqueued_all_size (mail_less k (position_of k.used x)) (messages_of n posting)

-- a mail of 256 letters at most, and 256 slots
pub record Room (k : Network) : Type 0 where
  pub few : k.used ≤ 256
  pub slots : length k.slots ≡ 256

pub rig_room : {f : Facts} {n : ℕ} {ts : TaskTable} {k : Network} {s : Kept} → Rig f n ts k s → Room k
rig_room g = record { few = used_few g.parts; slots = ap (λ (z : Network). length z.slots) g.network ∙ g.parts.shaped.slots }

-- without the letter at position p
pub less_room : {k : Network} → Room k → (p : ℕ) → p ≤ k.used → Room (mail_less k p)
less_room {k} m p there =
    by_cases (ℕ_discrete p 0)
    (λ (e : p ≡ 0). subst Room (sym (less_none k e)) m)
    (λ e.
    let some : 1 ≤ p = omega (arith, e) in
    subst Room (sym (less_some k p e))
    (record { few = omega (arith, dequeued_used k p, m.few); slots = dequeued_size k p some there (omega (arith, m.few, m.slots)) ∙ m.slots }))

-- after a step
pub turned_room : {codes numbers users : List ℕ} {n : Size} {k : Network} {l : Lent} {x : Step} {l' : Lent} {q : Report} {k' : Network} → RigWith codes numbers users n k l
    → TurnedOn (facts_in n.tasks codes numbers users) n.processors l k x l' q k' → Room k'
turned_room {x = x} g t = subst Room (sym t.network) (rig_room (rig_next g.rig x))
