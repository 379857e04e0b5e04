-- What a scope reaches in the parts of a rig that 9 does not refuse.
use mathlib.Core.Path.{◌≡◌}
use mathlib.Core.Bool.{true, or-true}
use Prim.Native.Nat.{ℕ, ◌≤◌}
use native.Mathlib.Omega.{arith}
use lib.Dec.{eqb}
use borrow.Author.Tests.{le-leb, eqb-false}
use Rattle.base.specs.Choice.{within}
use Rattle.base.proofs.Choices.{pick_cases}
use Rattle.rules.specs.declared.channel.Cell.{Cell}
use Rattle.rules.specs.declared.system.TaskTable.{TaskTable}
use Rattle.rules.specs.Systems.{task_in, channel_at}
use Rattle.rig_parts.specs.declared.kept.Kept.{Kept}
use Rattle.rig_parts.specs.declared.change.Scope.{Scope}
use Rattle.rig_parts.specs.Facts.{Facts, PartsOf}
use Rattle.rig_parts.specs.Fetches.{no_cell, scope_ok, cell_of}
use Rattle.rig_parts.proofs.BoundsParts.{rig_sound, count_few, place_few}

pub record Reached (ts : TaskTable) (s : Kept) (k : Scope) : Type 0 where
  pub ok : scope_ok k ≡ true
  pub processor : within 1 6 k.processor.0 ≡ true
  pub sender : k.sender.0 ≤ 64
  pub sender_place : (task_in ts k.sender).pc ≤ 65
  pub receiver_place : (task_in ts k.receiver).pc ≤ 65
  pub called : (cell_of s.store k).channel.granted ≤ 64

module _ {f : Facts} {n : ℕ} {ts : TaskTable} {s : Kept} {used : ℕ} (p : PartsOf f n ts s used) (k : Scope) where
  called_few : k.channel.0 ≤ 128 → (cell_of s.store k).channel.granted ≤ 64
  unfolding cell_of channel_at
  called_few h =
      let c = k.channel in
      rw p.kept
      (pick_cases (λ (x : Cell). x.channel.granted ≤ 64) (eqb c.0 0) no_cell _
      (λ e. omega arith)
      (λ e. let some = eqb-false c.0 0 e in ((rig_sound p).rig.channels c (omega arith) h).granted))

  -- tasks of the rig or none, a channel or none, a desk
  pub scope_reached : k.sender.0 ≤ f.tasks → k.receiver.0 ≤ f.tasks → k.channel.0 ≤ 128 → within 1 6 k.processor.0 ≡ true
      → Reached ts s k
  scope_reached sh uh ch d =
      let few = count_few p in
      record {
        ok = simp (le-leb k.sender.0 64 (omega arith), le-leb k.receiver.0 64 (omega arith), le-leb k.channel.0 128 ch, d, or-true);
        processor = d;
        sender = omega arith;
        sender_place = place_few p k.sender sh;
        receiver_place = place_few p k.receiver uh;
        called = called_few ch;
      }
