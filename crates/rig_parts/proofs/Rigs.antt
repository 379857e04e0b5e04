-- The parts of a rig that 9 does not refuse: whole, in a step, after it, and at rest.
use mathlib.Core.Path.{◌≡◌, refl, ◌∙◌, ap}
use mathlib.Core.Bool.{true}
use Prim.Native.Nat.{ℕ}
use Rattle.rules.specs.declared.message.Network.{Network}
use Rattle.rules.specs.declared.step.Step.{Step}
use Rattle.rules.specs.declared.system.TaskTable.{TaskTable}
use Rattle.rules.specs.declared.system.System.{System}
use Rattle.rules.specs.Sound.{system_ok}
use Rattle.rules.specs.Steps.{ruled_step, quiescent}
use Rattle.rules_laws.specs.Shapes.{Shaped}
use Rattle.rules_laws.proofs.Steps.{ruled_step_lem}
use Rattle.rules_laws.proofs.Shapes.{step_shaped, step_plan, step_processors}
use Rattle.rules_sound.proofs.Kept.{step_kept}
use Rattle.rig_parts.specs.declared.kept.Kept.{Kept}
use Rattle.rig_parts.specs.Facts.{Facts, facts_of, kept_in}
use Rattle.rig_parts.specs.Rests.{rest_in}
use Rattle.rig_parts.proofs.AtRest.{rest_is}
use Rattle.rig_parts.specs.declared.turn.Turn.{Turn}
use Rattle.rig_parts.specs.Turns.{turn_of, parts_of, Rig}
use Rattle.rig_parts.proofs.Turning.{turn_is}

-- a rig's own parts
abbrev pub own_parts : (r : System) → Shaped r → system_ok r ≡ true → Rig (facts_of r.plan) r.processors r.tasks r.network (kept_in r)
own_parts r z o =
    record { parts = record { system = r; shaped = z; sound = o; facts_of_lem = refl; processors = refl; tasks = refl; kept = refl; messages = refl }; network = refl }

-- rest and a step of parts that are those of rig r
module _ {f : Facts} {n : ℕ} {ts : TaskTable} {k : Network} {s : Kept} (r : System) (z : Shaped r) (o : system_ok r ≡ true)
    (e : f ≡ facts_of r.plan) (d : n ≡ r.processors) (t : ts ≡ r.tasks) (m : k ≡ r.network) (c : s ≡ kept_in r) where
  rest_of : rest_in f n ts s k.used ≡ quiescent r
  rest_of = rw (e, d, t, m, c) (rest_is r z o)

  turn_of_lem : (x : Step) → turn_of f n ts k s x ≡ parts_of (ruled_step r x)
  turn_of_lem x = rw (e, d, t, m, c) (turn_is r z o x)

module _ {f : Facts} {n : ℕ} {ts : TaskTable} {k : Network} {s : Kept} (g : Rig f n ts k s) where
  abbrev pub rig_system : System
  rig_system = g.parts.system

  pub rig_rest : rest_in f n ts s k.used ≡ quiescent rig_system
  rig_rest = let p = g.parts in rest_of p.system p.shaped p.sound p.facts_of_lem p.processors p.tasks g.network p.kept

  module _ (x : Step) where
    pub rig_turn : turn_of f n ts k s x ≡ parts_of (ruled_step rig_system x)
    rig_turn = let p = g.parts in turn_of_lem p.system p.shaped p.sound p.facts_of_lem p.processors p.tasks g.network p.kept x

    -- after the step
    unfoldable pub rig_next : let t = turn_of f n ts k s x in Rig f n t.tasks t.network t.kept
    rig_next =
        let p = g.parts in
        let r = rig_system in
        let stepped = ruled_step_lem r x p.sound in
        let network = ap (λ (t : Turn). t.network) rig_turn in
        record {
          parts =
              record {
                system = (ruled_step r x).system;
                shaped = rw stepped (step_shaped r x p.shaped);
                sound = rw stepped (step_kept r x p.shaped p.sound);
                facts_of_lem = p.facts_of_lem ∙ rw (stepped, step_plan r x) refl;
                processors = p.processors ∙ rw (stepped, step_processors r x) refl;
                tasks = ap (λ (t : Turn). t.tasks) rig_turn;
                kept = ap (λ (t : Turn). t.kept) rig_turn;
                messages = ap (λ (q : Network). q.used) network;
              };
          network = network;
        }

    pub rig_next_system : rig_next.parts.system ≡ (ruled_step rig_system x).system
    unfolding rig_next
    rig_next_system = refl
