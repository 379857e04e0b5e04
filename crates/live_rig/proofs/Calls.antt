-- The turns of a call on what is lent: a letter found or none, a task chosen or none.
use mathlib.Core.Path.{◌≡◌, refl, sym, ap, ◌∙◌}
use mathlib.Core.Logic.{◌≢◌}
use mathlib.Core.List.{List, [], ◌∷◌}
use Prim.Native.Nat.{ℕ, suc, ◌-◌, ◌≤◌}
use native.Mathlib.Omega.{arith}
use lib.Dec.{eqb}
use lib.ListN.{length, take, set, get_or, length-set, length-map}
use lib.Seq.{length-take-le}
use borrow.Author.Tests.{eq-eqb, ne_eqb}
use Rattle.std.specs.Prelude.{None, Some}
use Rattle.base.specs.Choice.{pick, within}
use Rattle.base.proofs.Choices.{pick_either}
use Rattle.plan.specs.declared.ProcessorId.{ProcessorId}
use Rattle.rules.specs.Reports.{Turn}
use Rattle.rules.specs.declared.message.Message.{Message}
use Rattle.rules.specs.declared.message.Network.{Network}
use Rattle.rules.specs.declared.message.Slot.{Slot}
use Rattle.rules.specs.declared.step.Report.{Report}
use Rattle.rules.specs.declared.step.Step.{Step}
use Rattle.rules.specs.declared.system.System.{System}
use Rattle.rules.specs.Numbers.{same_processor}
use Rattle.rules.specs.Networks.{messages, message_at}
use Rattle.rules.specs.Steps.{step, run_step}
use Rattle.rules.specs.Dispatch.{deliver_step, addressee, earliest, choice, choosing, next_ready, made, delivery_turn, run_turn}
use Rattle.rules_laws.specs.Shapes.{Shaped}
use Rattle.rules_laws.proofs.Sound.{system_passed}
use Rattle.rules_laws.proofs.Blind.{system_blind}
use Rattle.rules_laws.proofs.Dispatch.{last_few, choosing_ok}
use Rattle.rules_sound.proofs.Sound.{sound}
use Rattle.rules_sound.proofs.Frames.{tasks_few}
use Rattle.rig_parts.specs.Facts.{Facts}
use Rattle.network.specs.Positions.{position_of}
use Rattle.board.specs.declared.act.Size.{Size}
use Rattle.board.specs.Lent.{Lent, tasks_of}
use Rattle.rig_step.specs.Acts.{Delivers}
use Rattle.dispatch.specs.Boards.{On}
use Rattle.live_rig.specs.Calls.{RigLive, sized, StepLeft, TurnLeft, LetterAt}
use Rattle.live_rig.proofs.Making.{own}

choosing_shaped : (r : System) (d : ProcessorId) (t : ℕ) → Shaped r → Shaped (choosing r d t)
choosing_shaped r d t s = let six = length-set r.chosen (d.0 - 1) t ∙ s.chosen in search

-- the earliest letter is one of the mail
earliest_few : (d : ProcessorId) (ms : List Message) → earliest d ms ≤ length ms
unfolding earliest
earliest_few d [] = omega arith
earliest_few d (m ∷ ms) =
    let p = earliest d ms in
    pick_either (λ (i : ℕ). i ≤ length (m ∷ ms)) (same_processor (addressee m) d) 1 (pick (eqb p 0) 0 (suc p)) (omega arith)
    (pick_either (λ (i : ℕ). i ≤ length (m ∷ ms)) (eqb p 0) 0 (suc p) (omega arith) (omega (arith, earliest_few d ms)))

pub earliest_there : (d : ProcessorId) (k : Network) → length k.slots ≡ 256 → k.used ≤ 256 → earliest d (messages k) ≤ 256
unfolding messages
earliest_there d k l few =
    let long = length-map (take k.used k.slots) (λ (s : Slot). s.message) ∙ length-take-le k.used k.slots (omega (arith, l)) in
    omega (arith, long, earliest_few d (messages k))

-- the letter at position p is the one that its delivery delivers
pub delivers : (n : Size) (k : Network) (m : Message) (p : ℕ) → LetterAt k p m → Delivers n k m (deliver_step p)
unfolding position_of
delivers n k m p h = pick_either (λ (i : ℕ). i ≢ 0 → m ≡ message_at k i) (within 1 n.used p) p 0 h (λ ne. absurd (ne refl))

-- a run delivers none
pub run_delivers : (n : Size) (k : Network) (m : Message) (t : ℕ) → Delivers n k m (run_step t)
unfolding position_of
run_delivers n k m t ne = absurd (ne refl)

module _ {lengths codes users : List ℕ} {n : Size} {l : Lent} {mail last : List ℕ} {r : System} (o : RigLive lengths codes users n l mail last r) where
  -- nothing is made
  idle : {used : ℕ} → used ≡ n.used → RigLive lengths codes users (sized n used) l mail last r
  idle {used} e = record { on = own used o.on; mail_in_lem = o.mail_in_lem; fits = o.fits; used = e ∙ o.used }

  -- no letter for the desk, and one
  module _ (d : ProcessorId) {p : ℕ} (e : p ≡ earliest d (messages r.network)) {used : ℕ} where
    pub no_letter : p ≡ 0 → used ≡ n.used → {t : Turn} → t ≡ None → TurnLeft lengths codes users n (delivery_turn r d) t used l mail last
    unfolding delivery_turn
    no_letter z u q = rw (eq-eqb (earliest d (messages r.network)) 0 (sym e ∙ z)) (record { turn = q; on = idle u })

    pub letter : (p ≡ 0 → ⊥) → {q : Report} {l' : Lent} {mail' : List ℕ} → StepLeft lengths codes users n r (deliver_step p) q used l' mail' last
        → TurnLeft lengths codes users n (delivery_turn r d) (Some (deliver_step p, q)) used l' mail' last
    unfolding delivery_turn
    letter ne h =
        rw (ne_eqb (earliest d (messages r.network)) 0 (λ w. ne (e ∙ w)), ← e) (record { turn = ap (λ (q : Report). Some (deliver_step p, q)) h.report; on = h.on })

  -- the choice of the desk
  tasks_of_lem : n.tasks ≡ r.plan.tasks
  tasks_of_lem = ap (λ (f : Facts). f.tasks) o.on.facts_of_lem

  few_in : r.plan.tasks ≤ 64
  few_in = tasks_few r.processors r.plan (sound r o.on.shaped o.on.sound).frame

  pub few_tasks : n.tasks ≤ 64
  few_tasks = omega (arith, tasks_of_lem, few_in)

  module _ (d : ProcessorId) where
    pub few_choices : get_or last (d.0 - 1) 0 ≤ 64
    few_choices = rw o.on.chosen (omega (arith, few_in, last_few r d (system_passed r o.on.sound).chosen))

    pub choice_of : next_ready n.tasks (get_or last (d.0 - 1) 0) (get_or (tasks_of l).ready (d.0 - 1) 0) ≡ choice r d
    unfolding choice
    choice_of = rw (tasks_of_lem, o.on.chosen, o.on.tasks) refl

    live_choice : RigLive lengths codes users n l mail (set last (d.0 - 1) (choice r d)) (choosing r d (choice r d))
    live_choice =
        let g = o.on in
        let ok = (system_passed r g.sound).chosen in
        record {
          on =
              record {
                shaped = choosing_shaped r d (choice r d) g.shaped;
                sound = system_blind r _ (choosing_ok r d ok ∙ sym ok) ∙ g.sound;
                facts_of_lem = g.facts_of_lem;
                processors = g.processors;
                tasks = g.tasks;
                kept = g.kept;
                network = g.network;
                chosen = ap (λ (x : List ℕ). set x (d.0 - 1) (choice r d)) g.chosen;
                whole = g.whole;
                indexed = g.indexed;
              };
          mail_in_lem = o.mail_in_lem;
          fits = o.fits;
          used = o.used;
        }

    pub live_chosen : {t i : ℕ} → t ≡ choice r d → i ≡ d.0 - 1 → RigLive lengths codes users n l mail (set last i t) (choosing r d t)
    live_chosen e f = rw (e, f) live_choice

    pub no_task_lem : choice r d ≡ 0 → {used : ℕ} → used ≡ n.used → {t : Turn} → t ≡ None → TurnLeft lengths codes users n (run_turn r d) t used l mail last
    unfolding run_turn
    no_task_lem z u q = rw (eq-eqb (choice r d) 0 z) (record { turn = q; on = idle u })

    pub task : {t : ℕ} → t ≡ choice r d → (t ≡ 0 → ⊥) → {q : Report} {used : ℕ} {l' : Lent} {mail' last' : List ℕ}
        → StepLeft lengths codes users n (choosing r d t) (run_step t) q used l' mail' last'
        → TurnLeft lengths codes users n (run_turn r d) (Some (run_step t, q)) used l' mail' last'
    unfolding run_turn
    task {t} z ne h = rw (ne_eqb (choice r d) 0 (λ w. ne (z ∙ w)), ← z) (record { turn = ap (λ (q : Report). Some (run_step t, q)) h.report; on = h.on })
