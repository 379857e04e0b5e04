-- A step made on what is lent and on the mail's bytes: the rig then is there again.
use mathlib.Core.Path.{◌≡◌, refl, sym, ap, ◌∙◌, subst}
use mathlib.Core.List.{List}
use mathlib.Core.Logic.{by_cases}
use Prim.Native.Nat.{ℕ, ◌+◌, ◌≤◌}
use native.Mathlib.Omega.{arith}
use native.Mathlib.Decide.{ℕ_discrete}
use borrow.Author.Tests.{eq-eqb, ne_eqb}
use lib.ListN.{length}
use Rattle.base.proofs.Tests.{within_high}
use Rattle.rules.specs.declared.message.Message.{Message}
use Rattle.rules.specs.declared.message.Network.{Network}
use Rattle.rules.specs.declared.rule.Posting.{Posting}
use Rattle.rules.specs.declared.step.Step.{Step}
use Rattle.rules.specs.declared.system.System.{System}
use Rattle.rules.specs.Networks.{messages_of, posted}
use Rattle.rules.specs.Steps.{step}
use Rattle.rules_laws.proofs.Sound.{system_passed}
use Rattle.network.specs.Positions.{position_of, mail_less}
use Rattle.board.specs.declared.act.Act.{Act}
use Rattle.board.specs.declared.act.Size.{Size}
use Rattle.board.specs.Lent.{Lent}
use Rattle.board.specs.Rigs.{facts_in}
use Rattle.rig_step.specs.Rigs.{RigWith, TurnedOn}
use Rattle.rig_step.specs.Acts.{numbers_of, Delivers, CarriedOut, said_in, mail_after}
use Rattle.rig_step.proofs.MailAfter.{position_there, after_used}
use Rattle.dispatch.specs.Boards.{On}
use Rattle.image_laws.specs.Held.{MailFits, PostingFits}
use Rattle.image.specs.Letters.{mail_numbers}
use Rattle.image_laws.proofs.Numbers.{length_numbers}
use Rattle.image_laws.proofs.Mails.{length_mail}
use Rattle.image_laws.proofs.MailKept.{dequeued_fits, posted_fits}
use Rattle.rig_write.specs.Mail.{MailIn, TakenFrom, PostedInto}
use Rattle.live_rig.specs.Calls.{RigLive, sized, StepLeft}
use Rattle.live_rig.proofs.Turns.{rig_with_lem, turn_says, on_turn, few_letters}

-- with the rig's own mail, and however many letters there were
pub own : {codes numbers users : List ℕ} {n : Size} {k : Network} {l : Lent} {last : List ℕ} {r : System} (used : ℕ) → On codes numbers users n k l last r
    → On codes numbers users (sized n used) r.network l last r
own used o =
    record {
      shaped = o.shaped;
      sound = o.sound;
      facts_of_lem = o.facts_of_lem;
      processors = o.processors;
      tasks = o.tasks;
      kept = o.kept;
      network = refl;
      chosen = o.chosen;
      whole = o.whole;
      indexed = o.indexed;
    }

-- the mail without a letter fits
less_fits : (k : Network) (p : ℕ) → p ≤ k.used → k.used ≤ 256 → MailFits k → MailFits (mail_less k p)
less_fits k p there few f =
    by_cases (ℕ_discrete p 0)
    (λ (e : p ≡ 0). rw (eq-eqb p 0 e) f)
    (λ ne. rw (ne_eqb p 0 ne) (dequeued_fits k p (omega (arith, ne)) there few f))

module _ {lengths codes users : List ℕ} {n : Size} {l : Lent} {mail last : List ℕ} {r : System} (o : RigLive lengths codes users n l mail last r) where
  abbrev numbers : List ℕ
  numbers = numbers_of n.tasks lengths codes

  pub rig_live : RigWith codes numbers users n r.network l
  rig_live = rig_with_lem o.on o.used

  pub mail_long : length mail ≡ 4096
  mail_long = ap length o.mail_in_lem.bytes ∙ omega (arith, length_numbers 8 (mail_numbers r.network), length_mail r.network)

  pub few_used : n.used ≤ 256
  few_used = omega (arith, o.used, o.mail_in_lem.few)

  pub few_desks : n.processors ≤ 6
  few_desks = omega (arith, o.on.processors, within_high 1 6 r.processors (system_passed r o.on.sound).processors)

  module _ (x : Step) (m : Message) (given : Delivers n r.network m x) {l' : Lent} (a : Act) (h : CarriedOut codes numbers users n m x l a l') where
    turned : TurnedOn (facts_in n.tasks codes numbers users) n.processors l r.network x l' (said_in a) (mail_after n.processors r.network x a.posting)
    turned = h r.network rig_live given

    after : On codes numbers users n (mail_after n.processors r.network x a.posting) l' last (step r x).system
    after = on_turn o.on x turned

    -- the letter that is delivered leaves
    module _ {p : ℕ} (at : p ≡ position_of n.used x) where
      abbrev rest : Network
      rest = mail_less r.network p

      here : p ≤ r.network.used
      here = omega (arith, at, o.used, position_there n.used x)

      less_same : mail_less r.network (position_of r.network.used x) ≡ rest
      less_same = ap (λ (i : ℕ). mail_less r.network i) (ap (λ (i : ℕ). position_of i x) (sym o.used) ∙ sym at)

      room : rest.used + length (messages_of n.processors a.posting) ≤ 256
      room =
          let u = after_used n.processors r.network x a.posting in
          let v = ap (λ (k : Network). k.used) less_same in
          omega (arith, u, v, few_letters after)

      mail_same : posted n.processors a.posting rest ≡ (step r x).system.network
      unfolding mail_after
      mail_same = ap (posted n.processors a.posting) (sym less_same) ∙ after.network

      module _ {left : ℕ} {mail' : List ℕ} (t : TakenFrom mail p n.used left mail') where
        taken : (left ≡ rest.used) × MailIn mail' rest
        taken = t r.network o.mail_in_lem (sym o.used)

        pub post_room : left + length (messages_of n.processors a.posting) ≤ 256
        post_room = omega (arith, taken.0, room)

        pub post_long : length mail' ≡ 4096
        post_long = ap length taken.1.bytes ∙ omega (arith, length_numbers 8 (mail_numbers rest), length_mail rest)

        -- and what is posted joins
        pub step_left : {used : ℕ} {mail'' : List ℕ} → PostedInto mail' left n.processors a.posting used mail'' → PostingFits a.posting
            → StepLeft lengths codes users n r x (said_in a) used l' mail'' last
        step_left {used} {mail''} q f =
            let (u, b) = q rest taken.1 (sym taken.0) in
            let kept = less_fits r.network p here o.mail_in_lem.few o.fits in
            record {
              report = turn_says o.on x turned;
              on =
                  record {
                    on = own used after;
                    mail_in_lem = subst (MailIn mail'') mail_same b;
                    fits = subst MailFits mail_same (posted_fits n.processors a.posting rest (omega (arith, few_desks)) f room kept);
                    used = u ∙ ap (λ (k : Network). k.used) mail_same;
                  };
            }
