-- A rig on what is lent: its parts, a step of it, a choice.
use mathlib.Core.Path.{◌≡◌, refl, sym, ap, ◌∙◌, subst}
use mathlib.Core.Bool.{true}
use mathlib.Core.List.{List}
use Prim.Native.Nat.{ℕ, ◌+◌, ◌-◌, ◌≤◌, ◌<◌}
use native.Mathlib.Omega.{arith}
use lib.ListN.{length, set, get_or, length-set}
use borrow.Author.Tests.{eq-eqb, ne_eqb}
use Rattle.std.specs.Prelude.{Ok}
use Rattle.base.proofs.Tests.{within_low, within_high, within_both}
use Rattle.plan.specs.declared.ProcessorId.{ProcessorId}
use Rattle.rules.specs.declared.message.Network.{Network}
use Rattle.rules.specs.declared.message.Slot.{Slot}
use Rattle.rules.specs.declared.step.Report.{Report}
use Rattle.rules.specs.declared.step.Step.{Step}
use Rattle.rules.specs.declared.system.System.{System}
use Rattle.rules.specs.Networks.{messages, no_slot, message_at, dequeued, enqueued_all, messages_of}
use Rattle.rules.specs.Sound.{message_ok}
use Rattle.rules.specs.Steps.{step, run_step, quiescent}
use Rattle.rules.specs.Dispatch.{Turned, deliver_step, earliest, choice, choosing, next_ready, delivery_turn, run_turn, step_of}
use Rattle.rules_laws.specs.Shapes.{Shaped}
use Rattle.rules_laws.proofs.Steps.{ruled_step_lem}
use Rattle.rules_laws.proofs.Shapes.{step_shaped, step_plan, step_processors, step_chosen}
use Rattle.rules_laws.proofs.Sound.{system_passed, messages_fit}
use Rattle.rules_laws.proofs.Blind.{system_blind}
use Rattle.rules_laws.proofs.Dispatch.{last_few, choosing_ok}
use Rattle.rules_sound.proofs.Kept.{step_kept}
use Rattle.rules_sound.proofs.Sound.{sound}
use Rattle.rules_sound.proofs.Frames.{tasks_few}
use Rattle.rig_parts.specs.Answers.{Verdict}
use Rattle.rig_parts.specs.Facts.{Facts, facts_of}
use Rattle.rig_parts.specs.Openings.{opened_in}
use Rattle.rig_parts.specs.declared.turn.Turn.{Turn}
use Rattle.rig_parts.specs.Turns.{Rig, turned, turn_of, parts_of}
use Rattle.rig_parts.proofs.Bounds.{message_ok_lem}
use Rattle.rig_parts.proofs.Rigs.{rig_turn, rig_rest}
use Rattle.rig.specs.rest.Rests.{quiet_in}
use Rattle.rig.proofs.rest.Refusals.{rest_quiet}
use Rattle.plan_index.specs.user_table.Users.{senders_of, receivers_of}
use Rattle.network.specs.Positions.{position_of}
use Rattle.network.specs.Rounds.{rounds_of, message_of}
use Rattle.network.proofs.Shift.{shifted}
use Rattle.network.proofs.Gaps.{holding}
use Rattle.board.specs.declared.act.Act.{Act}
use Rattle.board.specs.declared.act.Size.{Size}
use Rattle.board.specs.Lent.{Lent, lent, Whole, tasks_of, kept_of}
use Rattle.board.specs.Acted.{Acted, act_of}
use Rattle.board.specs.Rigs.{RigOn, facts_in}
use Rattle.board.specs.Verdicts.{step_verdict}
use Rattle.run.specs.all_steps.Writes.{LineNext}
use Rattle.run.proofs.all_steps.Progress.{next_none}
use Rattle.run.proofs.all_steps.Mail.{opened_posts, delivered_mail}
use Rattle.run.proofs.all_steps.Acting.{step_room, delivered_made, other_made}
use Rattle.dispatch.specs.Calls.{step_bytes}
use Rattle.dispatch.specs.Boards.{On, TurnMade}

-- a turn that was made, with what is lent and written by other names
pub turn_as : {codes numbers users : List ℕ} {size : Size} {o : Turned} {last progress out : List ℕ} {k k' : Network} {a a' b b' c c' d d' e e' f f' g g' h h' : List ℕ}
    → a ≡ a' → b ≡ b' → c ≡ c' → d ≡ d' → e ≡ e' → f ≡ f' → g ≡ g' → h ≡ h' → k ≡ k'
    → TurnMade codes numbers users size o k' (lent a' b' c' d' e' f') last progress out h' g'
    → TurnMade codes numbers users size o k (lent a b c d e f) last progress out h g
turn_as pa pb pc pd pe pf pg ph pk t = rw (pa, pb, pc, pd, pe, pf, pg, ph, pk) t

-- a run that makes no step leaves the rig as it is
pub run_skipped : (r : System) (d : ProcessorId) → choice r d ≡ 0 → (run_turn r d).system ≡ r
unfolding run_turn
run_skipped r d z = rw (eq-eqb (choice r d) 0 z) refl

choosing_shaped : (r : System) (d : ProcessorId) (t : ℕ) → Shaped r → Shaped (choosing r d t)
choosing_shaped r d t s = let six = length-set r.chosen (d.0 - 1) t ∙ s.chosen in search

module _ {codes numbers users : List ℕ} {size : Size} {k : Network} {l : Lent} {last : List ℕ} {r : System} (o : On codes numbers users size k l last r) where
  abbrev given : Facts
  given = facts_in size.tasks codes numbers users

  -- its parts
  abbrev pub rig_of_lem : Rig given size.processors (tasks_of l) k (kept_of l)
  rig_of_lem =
      record {
        parts =
            record {
              system = r;
              shaped = o.shaped;
              sound = o.sound;
              facts_of_lem = o.facts_of_lem;
              processors = o.processors;
              tasks = o.tasks;
              kept = o.kept;
              messages = ap (λ (z : Network). z.used) o.network;
            };
        network = o.network;
      }

  -- whether it is at rest
  pub rest_of : quiet_in size.tasks codes (tasks_of l) k.used ≡ quiescent r
  rest_of = sym (rest_quiet rig_of_lem.parts) ∙ rig_rest rig_of_lem

  pub few_letters : k.used ≤ 256
  few_letters = rw o.network (messages_fit r o.sound)

  pub full_mail : length k.slots ≡ 256
  full_mail = rw o.network o.shaped.slots

  -- a letter can be delivered, and a task be run
  pub rig_on : RigOn codes numbers users (record { tasks = size.tasks; processors = size.processors; used = k.used }) l
  rig_on = record { whole = o.whole; parts = rig_of_lem.parts; indexed = o.indexed }

  pub letter_ok : (place : ℕ) → place < k.used → message_ok size.processors size.tasks (get_or k.slots place no_slot).message ≡ true
  unfolding message_at
  letter_ok place there =
      let back : place + 1 - 1 ≡ place = omega arith in
      subst (λ (i : ℕ). message_ok size.processors size.tasks (get_or k.slots i no_slot).message ≡ true) back (message_ok_lem rig_of_lem (place + 1) (omega arith) (omega arith))

  tasks_of_lem : size.tasks ≡ r.plan.tasks
  tasks_of_lem = ap (λ (f : Facts). f.tasks) o.facts_of_lem

  few_in : r.plan.tasks ≤ 64
  few_in = tasks_few r.processors r.plan (sound r o.shaped o.sound).frame

  pub few_tasks : size.tasks ≤ 64
  few_tasks = omega (arith, tasks_of_lem, few_in)

  pub few_choices : (d : ProcessorId) → get_or last (d.0 - 1) 0 ≤ 64
  few_choices d = rw o.chosen (omega (arith, few_in, last_few r d (system_passed r o.sound).chosen))

  -- a step carried out
  turn_of_lem : (x : Step) → turn_of given size.processors (tasks_of l) k (kept_of l) x ≡ parts_of (step r x)
  turn_of_lem x = rig_turn rig_of_lem x ∙ ap parts_of (ruled_step_lem r x o.sound)

  on_turn : (x : Step) {q : Report} {k' : Network} {l' : Lent} → Whole l'.board
      → turned q (tasks_of l') k' (kept_of l') ≡ turn_of given size.processors (tasks_of l) k (kept_of l) x → On codes numbers users size k' l' last (step r x).system
  on_turn x w e =
      let h = e ∙ turn_of_lem x in
      record {
        shaped = step_shaped r x o.shaped;
        sound = step_kept r x o.shaped o.sound;
        facts_of_lem = o.facts_of_lem ∙ ap facts_of (sym (step_plan r x));
        processors = o.processors ∙ sym (step_processors r x);
        tasks = ap (λ (t : Turn). t.tasks) h;
        kept = ap (λ (t : Turn). t.kept) h;
        network = ap (λ (t : Turn). t.network) h;
        chosen = o.chosen ∙ sym (step_chosen r x);
        whole = w;
        indexed = o.indexed;
      }

  -- the letter at a place of the mail was delivered: it left, and what it posts stands last
  module _ (place : ℕ) (there : place < k.used) where
    back : place + 1 - 1 ≡ place
    back = omega arith

    position_is : place + 1 ≡ position_of k.used (deliver_step (place + 1))
    unfolding position_of
    position_is = rw (within_both 1 k.used (place + 1) (omega arith) (omega arith)) refl

    pub delivered_posts : {act : Act} → act ≡ act_of (Ok (opened_in given (tasks_of l) (kept_of l) (get_or k.slots place no_slot).message))
        → (j : ℕ) → place + j ≡ k.used - 1 → {z : Network} → z ≡ holding k.used (shifted k.slots place j)
        → {w : Slot} → w.message ≡ message_of act.posting 0 → {u : ℕ} → u ≡ rounds_of 1 act.posting
        → holding (k.used - 1 + u) (set z.slots (k.used - 1) w) ≡ enqueued_all (dequeued k (place + 1)) (messages_of size.processors act.posting)
    delivered_posts {act} e j all {z} moved w u =
        delivered_mail size.processors k full_mail few_letters (place + 1) (omega arith) (omega arith) act.posting
        (opened_posts given (tasks_of l) (kept_of l) (get_or k.slots place no_slot).message e) j (omega arith)
        (subst (λ (i : ℕ). z ≡ holding k.used (shifted k.slots i j)) (sym back) moved) w u

    pub on_delivery : {act : Act} {k' : Network} {l' : Lent}
        → Acted (senders_of users) (receivers_of users) (Ok (opened_in given (tasks_of l) (kept_of l) (get_or k.slots place no_slot).message)) l act l'
        → k' ≡ enqueued_all (dequeued k (place + 1)) (messages_of size.processors act.posting)
        → On codes numbers users size k' l' last (step r (deliver_step (place + 1))).system
    unfolding message_at
    on_delivery {act} {k'} {l'} a e =
        on_turn (deliver_step (place + 1)) a.whole
        (delivered_made given size.processors k (deliver_step (place + 1)) l l' act (place + 1) position_is (λ z. omega (arith, z))
        (subst (λ (i : ℕ). Acted (senders_of users) (receivers_of users) (Ok (opened_in given (tasks_of l) (kept_of l) (get_or k.slots i no_slot).message)) l act l') (sym back) a) e)

  -- a task was run: there is room for its letters, which stand last
  module _ (t : ℕ) where
    abbrev verdict : Verdict
    verdict = step_verdict given size.processors (tasks_of l) (kept_of l) k.used (run_step t)

    pub run_room : {act : Act} → act ≡ act_of verdict → k.used + length (messages_of size.processors act.posting) ≤ 256
    run_room e = step_room rig_of_lem.parts (run_step t) e

    pub on_run : {act : Act} {k' : Network} {l' : Lent} → Acted (senders_of users) (receivers_of users) verdict l act l'
        → k' ≡ enqueued_all k (messages_of size.processors act.posting) → On codes numbers users size k' l' last (step r (run_step t)).system
    unfolding position_of
    on_run {act} {k'} {l'} a e = on_turn (run_step t) a.whole (other_made given size.processors k (run_step t) l l' act refl a e)

  -- what desk d's dispatcher chooses
  pub choice_of : (d : ProcessorId) → next_ready size.tasks (get_or last (d.0 - 1) 0) (get_or (tasks_of l).ready (d.0 - 1) 0) ≡ choice r d
  unfolding choice
  choice_of d = rw (tasks_of_lem, o.chosen, o.tasks) refl

  pub on_choice : (d : ProcessorId) → On codes numbers users size k l (set last (d.0 - 1) (choice r d)) (choosing r d (choice r d))
  on_choice d =
      let ok = (system_passed r o.sound).chosen in
      record {
        shaped = choosing_shaped r d (choice r d) o.shaped;
        sound = system_blind r _ (choosing_ok r d ok ∙ sym ok) ∙ o.sound;
        facts_of_lem = o.facts_of_lem;
        processors = o.processors;
        tasks = o.tasks;
        kept = o.kept;
        network = o.network;
        chosen = ap (λ (x : List ℕ). set x (d.0 - 1) (choice r d)) o.chosen;
        whole = o.whole;
        indexed = o.indexed;
      }

  pub on_chosen : (d : ProcessorId) {t i : ℕ} → t ≡ choice r d → i ≡ d.0 - 1 → On codes numbers users size k l (set last i t) (choosing r d t)
  on_chosen d e f = rw (e, f) (on_choice d)

  -- one to six desks
  pub some_desks : 1 ≤ size.processors
  some_desks = rw o.processors (within_low 1 6 r.processors (system_passed r o.sound).processors)

  pub few_desks : size.processors ≤ 6
  few_desks = rw o.processors (within_high 1 6 r.processors (system_passed r o.sound).processors)

  module _ (progress out : List ℕ) (d : ProcessorId) where
    -- a turn that makes no step
    pub no_delivery : earliest d (messages k) ≡ 0 → TurnMade codes numbers users size (delivery_turn r d) k l last progress out progress out
    unfolding delivery_turn step_of
    no_delivery e =
        let z : earliest d (messages r.network) ≡ 0 = rw o.network at e in
        rw (eq-eqb (earliest d (messages r.network)) 0 z) (record { on = o; lines = next_none progress out })

    pub no_run : choice r d ≡ 0 → TurnMade codes numbers users size (run_turn r d) k l last progress out progress out
    unfolding run_turn step_of
    no_run z = rw (eq-eqb (choice r d) 0 z) (record { on = o; lines = next_none progress out })

    -- it leaves the rig as it is
    pub delivery_skipped : earliest d (messages k) ≡ 0 → (delivery_turn r d).system ≡ r
    unfolding delivery_turn
    delivery_skipped e =
        let z : earliest d (messages r.network) ≡ 0 = rw o.network at e in
        rw (eq-eqb (earliest d (messages r.network)) 0 z) refl

    -- one that makes one
    module _ {k' : Network} {l' : Lent} {progress' out' : List ℕ} where
      pub some_delivery : {p : ℕ} → p ≡ earliest d (messages k) → (p ≡ 0 → ⊥) → On codes numbers users size k' l' last (step r (deliver_step p)).system
          → LineNext (step_bytes (deliver_step p)) progress out progress' out'
          → TurnMade codes numbers users size (delivery_turn r d) k' l' last progress out progress' out'
      unfolding delivery_turn step_of
      some_delivery {p} e ne on lines =
          let z : p ≡ earliest d (messages r.network) = rw o.network at e in
          rw (ne_eqb (earliest d (messages r.network)) 0 (λ w. ne (z ∙ w)), ← z) (record { on = on; lines = lines })

      pub some_run : {t : ℕ} {last' : List ℕ} → t ≡ choice r d → (t ≡ 0 → ⊥) → On codes numbers users size k' l' last' (step (choosing r d t) (run_step t)).system
          → LineNext (step_bytes (run_step t)) progress out progress' out'
          → TurnMade codes numbers users size (run_turn r d) k' l' last' progress out progress' out'
      unfolding run_turn step_of
      some_run {t} z ne on lines = rw (ne_eqb (choice r d) 0 (λ w. ne (z ∙ w)), ← z) (record { on = on; lines = lines })
