-- What a birth, a departure and an arrival do for each channel of a task and to what a desk keeps for it as a parent, in the rig and in what
-- the rig keeps.
use mathlib.Core.Path.{◌≡◌, ◌∙◌, ap, sym}
use Prim.Native.Nat.{ℕ, suc}
use lib.Dec.{eqb}
use Rattle.plan.specs.declared.TaskId.{TaskId}
use Rattle.plan.specs.declared.ProcessorId.{ProcessorId}
use Rattle.rules.specs.declared.channel.Hint.{Hint}
use Rattle.rules.specs.declared.system.System.{System}
use Rattle.rules.specs.Systems.{meaning, store_in, with_store, with_parents, parent_at, with_parent}
use Rattle.rules.specs.Effects.{for_channels, receives_on, sends_on, for_receiving, for_sending}
use Rattle.rules.specs.Hints.{hint}
use Rattle.rules.specs.Starts.{located, pointed}
use Rattle.rules.specs.Arrivals.{arrival_receiving, arrival_sending, arrival_parent}
use Rattle.rules.specs.Moves.{departure_sending}
use Rattle.plan_index.specs.ends.Derived.{ends_of}
use Rattle.plan_index.proofs.ends.Entries.{sender_at_lem, receiver_at_lem}
use Rattle.rig_parts.specs.declared.sweep.CellRule.{CellRule}
use Rattle.rig_parts.specs.declared.sweep.CellRule.TheVariants.{Locate, ArriveReceiving, ArriveSending, DepartSending}
use Rattle.rig_parts.specs.declared.sweep.Sweep.{Sweep}
use Rattle.rig_parts.specs.declared.sweep.Sweep.TheVariants.{Birth, Departure, Arrival}
use Rattle.rig_parts.specs.Sweeps.{rule_of, end_is, for_ends, swept, swept_parents}
use Rattle.rig_parts.proofs.Sweeping.{for_cells_same}

module _ (r : System) (t : TaskId) (d : ProcessorId) (rule : CellRule) where
  pub for_receiving_lem : for_receiving r t d (rule_of rule) ≡ with_store r (for_ends (ends_of r.plan).receivers t d rule (store_in r))
  unfolding for_channels
  for_receiving_lem =
      ap (with_store r)
      (for_cells_same (rule_of rule) d 128 (receives_on (meaning r) t) (end_is (ends_of r.plan).receivers t) (store_in r)
      (λ k h. ap (λ n. eqb n t.0) (sym (receiver_at_lem r.plan (suc k) h))))

  pub for_sending_lem : for_sending r t d (rule_of rule) ≡ with_store r (for_ends (ends_of r.plan).senders t d rule (store_in r))
  unfolding for_channels
  for_sending_lem =
      ap (with_store r)
      (for_cells_same (rule_of rule) d 128 (sends_on (meaning r) t) (end_is (ends_of r.plan).senders t) (store_in r)
      (λ k h. ap (λ n. eqb n t.0) (sym (sender_at_lem r.plan (suc k) h))))

-- the rig with what a sweep leaves of its own
abbrev swept_store : System → Sweep → System
swept_store r w = with_store r (swept (ends_of r.plan).senders (ends_of r.plan).receivers w (store_in r))

abbrev pub swept_in : System → Sweep → System
swept_in r w = with_parents (swept_store r w) (swept_parents w r.parents)

module _ (r : System) (t : TaskId) (d : ProcessorId) where
  pub birth_swept : for_receiving (pointed r d t (hint d 1)) t d (located d 1) ≡ swept_in r (Birth t d)
  unfolding with_parent parent_at
  birth_swept = for_receiving_lem (pointed r d t (hint d 1)) t d (Locate d 1)

  pub departure_swept : (h : Hint)
      → for_sending (for_receiving (pointed r d t h) t d (located h.processor h.moves)) t d departure_sending ≡ swept_in r (Departure t d h)
  unfolding with_parent parent_at
  departure_swept h =
      let p = pointed r d t h in
      let s = for_ends (ends_of r.plan).receivers t d (Locate h.processor h.moves) (store_in r) in
      ap (λ (q : System). for_sending q t d departure_sending) (for_receiving_lem p t d (Locate h.processor h.moves))
      ∙ for_sending_lem (with_store p s) t d DepartSending

  pub arrival_swept : (n : ℕ)
      → for_sending (for_receiving (with_parent r d t (arrival_parent d n)) t d (arrival_receiving d n)) t d arrival_sending ≡ swept_in r (Arrival t d n)
  unfolding with_parent
  arrival_swept n =
      let p = with_parent r d t (arrival_parent d n) in
      let s = for_ends (ends_of r.plan).receivers t d (ArriveReceiving d n) (store_in r) in
      ap (λ (q : System). for_sending q t d arrival_sending) (for_receiving_lem p t d (ArriveReceiving d n))
      ∙ for_sending_lem (with_store p s) t d ArriveSending
