-- A step carried out without its mail is the turn, with whatever mail the rig has.
use mathlib.Core.Path.{◌≡◌, refl, sym, ap, ◌∙◌, subst}
use mathlib.Core.Logic.{◌≢◌}
use mathlib.Core.Bool.{true}
use mathlib.Core.List.{List}
use Prim.Native.Nat.{ℕ}
use native.Mathlib.Omega.{arith}
use Rattle.std.specs.Prelude.{Ok}
use Rattle.rules.specs.declared.message.Message.{Message}
use Rattle.rules.specs.declared.message.Network.{Network}
use Rattle.rules.specs.declared.step.Report.{Report}
use Rattle.rules.specs.declared.step.Step.{Step}
use Rattle.rules.specs.Networks.{message_at, enqueued_all, messages_of}
use Rattle.rules.specs.Sound.{message_ok}
use Rattle.rig_parts.specs.declared.turn.Turn.{Turn}
use Rattle.rig_parts.specs.Facts.{Facts}
use Rattle.rig_parts.specs.Openings.{opened_in}
use Rattle.rig_parts.specs.Turns.{turned, turn_of}
use Rattle.rig_parts.proofs.Bounds.{message_ok_lem}
use Rattle.plan_index.specs.user_table.Users.{senders_of, receivers_of}
use Rattle.network.specs.Positions.{position_of}
use Rattle.board.specs.declared.act.Act.{Act}
use Rattle.board.specs.declared.act.Size.{Size}
use Rattle.board.specs.Lent.{Lent, Whole, tasks_of, kept_of}
use Rattle.board.specs.Acted.{Acted}
use Rattle.board.specs.Rigs.{facts_in, Opens, Opened}
use Rattle.board.specs.Verdicts.{step_verdict}
use Rattle.run.proofs.all_steps.Acting.{delivered_made, other_made}
use Rattle.rig_step.specs.Rigs.{TurnedOn}
use Rattle.rig_step.specs.Acts.{mail_after, Acts, CarriedOut}
use Rattle.rig_step.proofs.Reports.{rig_on}
use Rattle.rig_step.proofs.MailAfter.{position_there, less_none, less_some}

-- the parts of a turn are on what is lent
turned_on : {f : Facts} {n : ℕ} {l : Lent} {k : Network} {x : Step} {l' : Lent} {q : Report} {k' : Network} → Whole l'.board
    → turned q (tasks_of l') k' (kept_of l') ≡ turn_of f n (tasks_of l) k (kept_of l) x → TurnedOn f n l k x l' q k'
turned_on w e =
    record {
      report = ap (λ (t : Turn). t.report) e;
      tasks = ap (λ (t : Turn). t.tasks) e;
      network = ap (λ (t : Turn). t.network) e;
      kept = ap (λ (t : Turn). t.kept) e;
      whole = w;
    }

-- the letter that a step delivers can be opened
pub opens_letter : {codes numbers users : List ℕ} {n : Size} {l : Lent} {m : Message} {x : Step} → Acts codes numbers users n l m x
    → position_of n.used x ≢ 0 → Opens codes users l m
opens_letter {codes} {numbers} {users} {n} {l} {m} {x} a some =
    let p = position_of n.used x in
    let g = a.rig in
    record {
      numbers = numbers;
      size = n;
      rig = rig_on g;
      ok =
          subst (λ (z : Message). message_ok n.processors n.tasks z ≡ true) (sym (a.message some))
          (message_ok_lem g.rig p (omega (arith, some)) (omega (arith, position_there n.used x, g.messages)));
    }

module _ (codes numbers users : List ℕ) (n : Size) (m : Message) (x : Step) (l : Lent) (r : Act) (l' : Lent) where
  abbrev given : Facts
  given = facts_in n.tasks codes numbers users

  -- a step that delivers a letter
  pub delivery_carried_out : position_of n.used x ≢ 0 → Opened codes users m l r l' → CarriedOut codes numbers users n m x l r l'
  unfolding mail_after
  delivery_carried_out some o k g d =
      let p = position_of k.used x in
      let same : position_of n.used x ≡ p = ap (λ (u : ℕ). position_of u x) g.messages in
      let there : p ≢ 0 = λ e. some (same ∙ e) in
      let letter : m ≡ message_at k p = d some ∙ ap (message_at k) same in
      let a =
      subst (λ (z : Message). Acted (senders_of users) (receivers_of users) (Ok (opened_in given (tasks_of l) (kept_of l) z)) l r l') letter (o n.tasks numbers) in
      turned_on a.whole
      (delivered_made given n.processors k x l l' r p refl there a (ap (λ (z : Network). enqueued_all z (messages_of n.processors r.posting)) (less_some k p there)))

  -- any other step
  pub other_carried_out : position_of n.used x ≡ 0
      → Acted (senders_of users) (receivers_of users) (step_verdict given n.processors (tasks_of l) (kept_of l) n.used x) l r l'
      → CarriedOut codes numbers users n m x l r l'
  unfolding mail_after
  other_carried_out none a k g d =
      let same : position_of n.used x ≡ position_of k.used x = ap (λ (u : ℕ). position_of u x) g.messages in
      let zero : position_of k.used x ≡ 0 = sym same ∙ none in
      let b =
      subst (λ (u : ℕ). Acted (senders_of users) (receivers_of users) (step_verdict given n.processors (tasks_of l) (kept_of l) u x) l r l') g.messages a in
      turned_on a.whole
      (other_made given n.processors k x l l' r zero b (ap (λ (z : Network). enqueued_all z (messages_of n.processors r.posting)) (less_none k zero)))
