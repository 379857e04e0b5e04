-- A rig on what is lent, opened from bytes, with its mail in them: a step of it, and the bytes that hold what the step leaves.
use mathlib.Core.Path.{◌≡◌, refl, sym, ap, ◌∙◌}
use mathlib.Core.Logic.{◌≢◌}
use mathlib.Core.Bool.{Bool, true, false, ◌&&◌}
use mathlib.Core.List.{List}
use Prim.Native.Nat.{ℕ, ◌<◌, ◌≤◌}
use native.Mathlib.Omega.{arith}
use lib.ListN.{length, get_or}
use Rattle.std.specs.Prelude.{Ok}
use Rattle.base.proofs.Tables.{length_table}
use Rattle.base.proofs.Tests.{and_left, and_right, within_high}
use Rattle.plan.specs.Programs.{programs}
use Rattle.plan.specs.Refusals.{plan_answer}
use Rattle.plan_laws.specs.Bytes.{Bytes}
use Rattle.plan_value.specs.Slots.{plan_in}
use Rattle.plan_file.specs.declared.opening.Opened.{Opened}
use Rattle.plan_index.specs.user_table.Built.{Built}
use Rattle.rules.specs.declared.message.Message.{Message}
use Rattle.rules.specs.declared.message.Network.{Network}
use Rattle.rules.specs.declared.step.Report.{Report}
use Rattle.rules.specs.declared.step.Step.{Step}
use Rattle.rules.specs.declared.system.System.{System}
use Rattle.rules.specs.Networks.{message_at}
use Rattle.rules.specs.Sound.{system_ok}
use Rattle.rules.specs.Steps.{step}
use Rattle.rules_laws.proofs.Steps.{ruled_step_lem}
use Rattle.rules_laws.proofs.Shapes.{step_shaped, step_plan, step_processors, step_chosen}
use Rattle.rules_laws.proofs.Sound.{system_passed, messages_fit}
use Rattle.rules_sound.proofs.Kept.{step_kept}
use Rattle.rig_parts.specs.declared.kept.Kept.{Kept}
use Rattle.rig_parts.specs.declared.turn.Turn.{Turn}
use Rattle.rig_parts.specs.Facts.{Facts, facts_of}
use Rattle.rig_parts.specs.Turns.{Rig, turn_of, parts_of}
use Rattle.rig_parts.proofs.Rigs.{rig_turn}
use Rattle.network.specs.Positions.{position_of}
use Rattle.board.specs.declared.act.Size.{Size}
use Rattle.board.specs.Lent.{Lent, tasks_of, kept_of}
use Rattle.board.specs.Rigs.{facts_in}
use Rattle.rig_step.specs.Rigs.{RigWith, TurnedOn}
use Rattle.rig_step.specs.Acts.{numbers_of, Delivers}
use Rattle.dispatch.specs.Boards.{On}
use Rattle.image.specs.Numbers.{number_at, numbers_at}
use Rattle.image.specs.Image.{image, rig_of, is_image, rig_size, plan_file, board_in, tables_in, network_in, chosen_in}
use Rattle.image_laws.specs.Parts.{lent_in, system_on}
use Rattle.image_laws.specs.Held.{top8, top16, top64, AllBelow, Array, MailFits, Imaged}
use Rattle.image_laws.proofs.Plans.{plan_fits}
use Rattle.image_laws.proofs.Imaged.{LentFits, imaged_parts}
use Rattle.image_laws.proofs.Read.{image_tidy, mail_fits}
use Rattle.image_laws.proofs.MailKept.{image_mail}
use Rattle.image_laws.proofs.Held.{every_rig_held}
use Rattle.rig_write.specs.Mail.{mail_bytes}
use Rattle.rig_write.specs.Written.{lent_written, parts_written}
use Rattle.rig_write.proofs.Images.{written_image}
use Rattle.rig_write.proofs.Loans.{mail_of, back_in, lent_all, back_written}
use Rattle.live_rig.specs.Open.{sound, size_of, PlanIn}
use Rattle.live_rig.specs.Turns.{Planned, Holds}
use Rattle.live_rig.specs.Calls.{RigLive}
use Rattle.live_rig.proofs.Opened.{shaped, plan_of_lem, plan_accepted, facts_of_lem}

pub record Long (l : Lent) : Type 0 where
  pub hintprocessors : length l.hintprocessors ≡ 768
  pub hintmoves : length l.hintmoves ≡ 768
  pub heldprocessors : length l.heldprocessors ≡ 768
  pub heldnumbers : length l.heldnumbers ≡ 768
  pub notes : length l.notes ≡ 768

-- the rig of bytes that 9 does not refuse
module _ (b lengths codes users : List ℕ) (tasks : ℕ) (p : Planned b lengths codes users tasks) {l : Lent} (t : l ≡ lent_in b) {n : Size} (e : n ≡ size_of (rig_of b))
    {chosen : List ℕ} (c : chosen ≡ chosen_in b) (ok : sound b ≡ true) where
  image_here : is_image b ≡ true
  image_here = and_left (is_image b) (system_ok (rig_of b)) ok

  passed : system_ok (rig_of b) ≡ true
  passed = and_right (is_image b) (system_ok (rig_of b)) ok

  tasks_same : n.tasks ≡ tasks
  unfolding rig_of
  tasks_same = ap (λ (s : Size). s.tasks) e ∙ sym p.plan.tasks_are

  facts_here : facts_in n.tasks codes (numbers_of n.tasks lengths codes) users ≡ facts_of (rig_of b).plan
  unfolding rig_of
  facts_here = rw tasks_same p.facts_of_lem

  pub accepted_opened : plan_answer (programs (plan_in n.tasks lengths codes)) ≡ Ok tt
  accepted_opened = rw tasks_same (plan_accepted p.plan)

  pub used_opened : n.used ≡ number_at 4 b 8
  unfolding rig_of network_in
  used_opened = ap (λ (s : Size). s.used) e

  -- the letter that a step delivers
  pub letter_opened : (s : Step) {q : ℕ} {m : Message} → q ≡ position_of n.used s → (q ≢ 0 → m ≡ message_at (network_in b) q) → Delivers n (rig_of b).network m s
  unfolding rig_of
  letter_opened s {q} at h ne = h (λ z. ne (sym at ∙ z)) ∙ ap (message_at (network_in b)) at

  on_opened : On codes (numbers_of n.tasks lengths codes) users n (rig_of b).network l chosen (rig_of b)
  unfolding rig_of tables_in board_in numbers_at
  on_opened =
      record {
        shaped = shaped b;
        sound = passed;
        facts_of_lem = facts_here;
        processors = ap (λ (s : Size). s.processors) e;
        tasks = ap tasks_of t;
        kept = ap kept_of t;
        network = refl;
        chosen = c;
        whole = rw t (length_table 1094 _);
        indexed = p.indexed;
      }

  mail_bytes_lem : mail_of b ≡ mail_bytes (rig_of b).network
  unfolding rig_of
  mail_bytes_lem = lent_all b p.long ∙ image_mail b image_here

  pub live_opened : Bytes b → RigLive lengths codes users n l (mail_of b) chosen (rig_of b)
  unfolding rig_of
  live_opened bytes =
      record {
        on = on_opened;
        mail_in_lem = record { bytes = mail_bytes_lem; slots = (shaped b).slots; few = messages_fit (rig_of b) passed };
        fits = mail_fits b bytes (image_tidy b image_here);
        used = ap (λ (s : Size). s.used) e;
      }

module _ {codes numbers users : List ℕ} {n : Size} {k : Network} {l : Lent} {last : List ℕ} {r : System} (o : On codes numbers users n k l last r) where
  abbrev given : Facts
  given = facts_in n.tasks codes numbers users

  -- its parts
  abbrev rig_of_lem : Rig given n.processors (tasks_of l) k (kept_of l)
  rig_of_lem =
      record {
        parts =
            record {
              system = r;
              shaped = o.shaped;
              sound = o.sound;
              facts_of_lem = o.facts_of_lem;
              processors = o.processors;
              tasks = o.tasks;
              kept = o.kept;
              messages = ap (λ (z : Network). z.used) o.network;
            };
        network = o.network;
      }

  pub rig_with_lem : n.used ≡ k.used → RigWith codes numbers users n k l
  rig_with_lem e = record { rig = rig_of_lem; messages = e; whole = o.whole; indexed = o.indexed }

  -- a step of it
  module _ (x : Step) {l' : Lent} {q : Report} {k' : Network} (h : TurnedOn given n.processors l k x l' q k') where
    turn_is : turn_of given n.processors (tasks_of l) k (kept_of l) x ≡ parts_of (step r x)
    turn_is = rig_turn rig_of_lem x ∙ ap parts_of (ruled_step_lem r x o.sound)

    pub turn_says : q ≡ (step r x).report
    turn_says = h.report ∙ ap (λ (t : Turn). t.report) turn_is

    pub on_turn : On codes numbers users n k' l' last (step r x).system
    on_turn =
        record {
          shaped = step_shaped r x o.shaped;
          sound = step_kept r x o.shaped o.sound;
          facts_of_lem = o.facts_of_lem ∙ ap facts_of (sym (step_plan r x));
          processors = o.processors ∙ sym (step_processors r x);
          tasks = h.tasks ∙ ap (λ (t : Turn). t.tasks) turn_is;
          kept = h.kept ∙ ap (λ (t : Turn). t.kept) turn_is;
          network = h.network ∙ ap (λ (t : Turn). t.network) turn_is;
          chosen = o.chosen ∙ sym (step_chosen r x);
          whole = h.whole;
          indexed = o.indexed;
        }

  -- the rig put together
  system_is : system_on r.processors r.plan l k last ≡ r
  system_is =
      λ i.
      record {
        processors = r.processors;
        plan = r.plan;
        tasks = o.tasks i;
        tables = (o.kept i).store.tables;
        channels = (o.kept i).store.channels;
        parents = (o.kept i).parents;
        network = o.network i;
        chosen = o.chosen i;
      }

  pub few_letters : k.used ≤ 256
  few_letters = rw o.network (messages_fit r o.sound)

  -- the tables have their sizes
  pub lent_long : Long l
  lent_long =
      let s = o.shaped in
      record {
        hintprocessors = ap (λ (x : Kept). length x.store.tables.hintprocessors) o.kept ∙ s.hintprocessors;
        hintmoves = ap (λ (x : Kept). length x.store.tables.hintmoves) o.kept ∙ s.hintmoves;
        heldprocessors = ap (λ (x : Kept). length x.store.tables.heldprocessors) o.kept ∙ s.heldprocessors;
        heldnumbers = ap (λ (x : Kept). length x.store.tables.heldnumbers) o.kept ∙ s.heldnumbers;
        notes = ap (λ (x : Kept). length x.store.tables.notes) o.kept ∙ s.notes;
      }

  pub chosen_long : length last ≡ 6
  chosen_long = ap length o.chosen ∙ o.shaped.chosen

-- what types tell of numbers that are lent
pub record Small (l : Lent) (last : List ℕ) : Type 0 where
  pub hintprocessors : AllBelow top8 l.hintprocessors
  pub hintmoves : AllBelow top16 l.hintmoves
  pub heldprocessors : AllBelow top8 l.heldprocessors
  pub heldnumbers : AllBelow top8 l.heldnumbers
  pub notes : AllBelow top8 l.notes
  pub board : AllBelow top64 l.board
  pub chosen : AllBelow top8 last

-- the rig is written into bytes of the same desks and the same plan
module _ {lengths codes users : List ℕ} {n : Size} {l : Lent} {mail last : List ℕ} {r : System} (o : RigLive lengths codes users n l mail last r) (z : Small l last) where
  lent_fits : LentFits l
  lent_fits =
      let s = lent_long o.on in
      record {
        hintprocessors = record { long = s.hintprocessors; small = z.hintprocessors };
        hintmoves = record { long = s.hintmoves; small = z.hintmoves };
        heldprocessors = record { long = s.heldprocessors; small = z.heldprocessors };
        heldnumbers = record { long = s.heldnumbers; small = z.heldnumbers };
        notes = record { long = s.notes; small = z.notes };
        board = record { long = o.on.whole; small = z.board };
      }

  module _ (b lengths' codes' users' : List ℕ) (tasks : ℕ) (p : Planned b lengths' codes' users' tasks) (is : is_image b ≡ true)
      (same-desks : r.processors ≡ (rig_of b).processors) (same_plan : r.plan ≡ (rig_of b).plan) where
    imaged : Imaged (system_on r.processors r.plan l r.network last)
    imaged =
        let fits = plan_fits (plan_file b) p.plan.accepted in
        imaged_parts r.processors r.plan l r.network last (omega (arith, within_high 1 6 r.processors (system_passed r o.on.sound).processors))
        (rw same_plan (unfold rig_of in fits.0))
        (rw same_plan (unfold rig_of in fits.1))
        lent_fits
        o.fits
        (record { long = chosen_long o.on; small = z.chosen })

    pub written_holds : {used : ℕ} → used ≡ n.used → {after : List ℕ} → after ≡ lent_written (back_in b mail) l used last → Holds r after
    written_holds {used} u {after} e =
        let there : system_on (rig_of b).processors (rig_of b).plan l r.network last ≡ r = rw (← same-desks, ← same_plan) (system_is o.on) in
        let parts : after ≡ parts_written b l r.network last =
        e ∙ ap (λ (i : ℕ). lent_written (back_in b mail) l i last) (u ∙ o.used) ∙ back_written b p.long mail l r.network last o.mail_in_lem.bytes in
        let bytes : after ≡ image r = parts ∙ written_image b l r.network last is ∙ ap image there in
        let h = every_rig_held r (rw (system_is o.on) at imaged) in
        record { bytes = bytes; image = rw bytes h.is; rig = rw bytes h.rig; long = rw bytes h.size }

-- what is derived of a plan that was opened
module _ {b : List ℕ} {o : Opened} {codes parents senders receivers : List ℕ} (p : PlanIn b o codes parents senders receivers) (a : o.answer ≡ Ok tt) where
  pub planned : length b ≡ rig_size → {users : List ℕ} → Built senders receivers parents users → Planned b o.lengths codes users o.tasks
  planned long {users} u =
      record {
        long = long;
        plan = plan_of_lem p a;
        facts_of_lem = facts_of_lem p a refl u;
        indexed = u.indexed;
      }
