-- The tests of tables, of channels and of parents say of each entry that it is fine, and no more.
use mathlib.Core.Path.{◌≡◌}
use mathlib.Core.Bool.{true}
use Prim.Native.Nat.{ℕ, ◌+◌, ◌*◌, ◌-◌, ◌/◌, ◌%◌, ◌≤◌, ◌<◌, ◌^◌}
use native.Mathlib.Omega.{arith}
use lib.Dec.{leb}
use borrow.Author.Tests.{leb-true, le-leb, ltb-true, lt-ltb}
use Rattle.base.specs.Lists.{every, every_pair}
use Rattle.base.proofs.Tests.{and_both, every_at}
use Rattle.base.proofs.Pairs.{every_all, every_pair_at, every_pair_all}
use Rattle.plan.specs.declared.ProcessorId.{ProcessorId}
use Rattle.plan.specs.declared.ChannelId.{ChannelId}
use Rattle.plan_laws.proofs.Answers.{and_parts}
use Rattle.rules.specs.declared.system.System.{System}
use Rattle.rules.specs.Numbers.{processor_id, channel_id, task_id}
use Rattle.rules.specs.Cells.{hint, offer}
use Rattle.rules.specs.Systems.{entry_index, entry_at, channel_at, parent_index, parent_at}
use Rattle.rules.specs.Sound.{hint_ok, offer_ok, tables_ok, channel_entries_ok, parents_ok}
use Rattle.rules_laws.specs.Shapes.{Shaped}
use Rattle.rules_sound.specs.Fine.{FineEntry, FineChannel, FineParent}
use Rattle.plan.specs.declared.TaskId.{TaskId}

module _ (n : ℕ) (r : System) (s : Shaped r) where
  pub tables_fine : tables_ok n r.tables ≡ true → (d : ProcessorId) (c : ChannelId) → 1 ≤ d.0 → d.0 ≤ 6 → 1 ≤ c.0 → c.0 ≤ 128 → FineEntry n (entry_at r d c)
  unfolding tables_ok entry_at
  tables_fine h d c dl dh cl ch =
      let x = r.tables in
      let i = entry_index d c in
      let l : i < 768 = omega arith in
      let (hints, h₁) = and_parts (every_pair (λ e k. hint_ok n (hint (processor_id e) k)) x.hintprocessors x.hintmoves) _ h in
      let (offers, notes) = and_parts (every_pair (λ e w. offer_ok n (offer (processor_id e) w)) x.heldprocessors x.heldnumbers) _ h₁ in
      record {
        hint = every_pair_at _ x.hintprocessors x.hintmoves i 0 0 (omega (arith, s.hintprocessors)) (omega (arith, s.hintmoves)) hints;
        held = every_pair_at _ x.heldprocessors x.heldnumbers i 0 0 (omega (arith, s.heldprocessors)) (omega (arith, s.heldnumbers)) offers;
        noted = leb-true _ n (every_at _ x.notes i 0 (omega (arith, s.notes)) notes);
      }

  -- place i of the tables is that of desk i / 128 + 1 and channel i % 128 + 1
  place : (i : ℕ) → 128 * (i / 128 + 1 - 1) + (i % 128 + 1 - 1) ≡ i
  place i = omega arith

  pub fine_tables : ((d : ProcessorId) (c : ChannelId) → 1 ≤ d.0 → d.0 ≤ 6 → 1 ≤ c.0 → c.0 ≤ 128 → FineEntry n (entry_at r d c))
      → tables_ok n r.tables ≡ true
  unfolding tables_ok entry_at
  fine_tables f =
      let x = r.tables in
      let at : (i : ℕ) → i < 768 → FineEntry n (entry_at r (processor_id (i / 128 + 1)) (channel_id (i % 128 + 1))) =
      λ i l. f (processor_id (i / 128 + 1)) (channel_id (i % 128 + 1)) (omega arith) (omega arith) (omega arith) (omega arith) in
      and_both _ _ (every_pair_all _ x.hintprocessors x.hintmoves 0 0 (λ i l k. rw (place i) at (at i (omega (arith, s.hintprocessors))).hint))
      (and_both _ _ (every_pair_all _ x.heldprocessors x.heldnumbers 0 0 (λ i l k. rw (place i) at (at i (omega (arith, s.heldprocessors))).held))
      (every_all _ x.notes 0 (λ i l. le-leb _ n (rw (place i) at (at i (omega (arith, s.notes))).noted))))

  -- the same of parents' entries: place i is that of desk i / 64 + 1 and task i % 64 + 1
  module _ (m : ℕ) where
    pub parents_fine : parents_ok n m r.parents ≡ true → (d : ProcessorId) (t : TaskId) → d.0 ≤ 6 → t.0 ≤ 64 → FineParent n m (parent_at r d t)
    unfolding parents_ok parent_at
    parents_fine h d t dh th =
        let x = r.parents in
        let i = parent_index d t in
        let l : i < 384 = omega arith in
        let (hints, held) = and_parts (every_pair (λ e k. hint_ok n (hint (processor_id e) k)) x.hintprocessors x.hintmoves) _ h in
        record {
          hint = every_pair_at _ x.hintprocessors x.hintmoves i 0 0 (omega (arith, s.parentprocessors)) (omega (arith, s.parentmoves)) hints;
          held = ltb-true _ (2 ^ m) (every_at _ x.held i 0 (omega (arith, s.parentheld)) held);
        }

    parent_place : (i : ℕ) → 64 * (i / 64 + 1 - 1) + (i % 64 + 1 - 1) ≡ i
    parent_place i = omega arith

    pub fine_parents : ((d : ProcessorId) (t : TaskId) → d.0 ≤ 6 → t.0 ≤ 64 → FineParent n m (parent_at r d t)) → parents_ok n m r.parents ≡ true
    unfolding parents_ok parent_at
    fine_parents f =
        let x = r.parents in
        let at : (i : ℕ) → i < 384 → FineParent n m (parent_at r (processor_id (i / 64 + 1)) (task_id (i % 64 + 1))) =
        λ i l. f (processor_id (i / 64 + 1)) (task_id (i % 64 + 1)) (omega arith) (omega arith) in
        and_both _ _ (every_pair_all _ x.hintprocessors x.hintmoves 0 0 (λ i l k. rw (parent_place i) at (at i (omega (arith, s.parentprocessors))).hint))
        (every_all _ x.held 0 (λ i l. lt-ltb _ (2 ^ m) (rw (parent_place i) at (at i (omega (arith, s.parentheld))).held)))

  pub channels_fine : channel_entries_ok n r.channels ≡ true → (c : ChannelId) → 1 ≤ c.0 → c.0 ≤ 128 → FineChannel n (channel_at r c)
  unfolding channel_entries_ok channel_at
  channels_fine h c cl ch =
      let x = r.channels in
      let i = c.0 - 1 in
      let l : i < 128 = omega arith in
      let (calls, h₁) = and_parts (every (λ w. leb w 64) x.granted) _ h in
      let (offers, hints) = and_parts (every_pair (λ e w. offer_ok n (offer (processor_id e) w)) x.carriedprocessors x.carriednumbers) _ h₁ in
      record {
        granted = leb-true _ 64 (every_at _ x.granted i 0 (omega (arith, s.granted)) calls);
        carried = every_pair_at _ x.carriedprocessors x.carriednumbers i 0 0 (omega (arith, s.carriedprocessors)) (omega (arith, s.carriednumbers)) offers;
        travelling =
            every_pair_at _ x.travellingprocessors x.travellingmoves i 0 0 (omega (arith, s.travellingprocessors)) (omega (arith, s.travellingmoves)) hints;
      }

  pub fine_channels : ((c : ChannelId) → 1 ≤ c.0 → c.0 ≤ 128 → FineChannel n (channel_at r c)) → channel_entries_ok n r.channels ≡ true
  unfolding channel_entries_ok channel_at
  fine_channels f =
      let x = r.channels in
      let back : (i : ℕ) → i + 1 - 1 ≡ i = λ i. omega arith in
      let at : (i : ℕ) → i < 128 → FineChannel n (channel_at r (channel_id (i + 1))) = λ i l. f (channel_id (i + 1)) (omega arith) (omega arith) in
      and_both _ _ (every_all _ x.granted 0 (λ i l. le-leb _ 64 (rw (back i) at (at i (omega (arith, s.granted))).granted)))
      (and_both _ _ (every_pair_all _ x.carriedprocessors x.carriednumbers 0 0 (λ i l k. rw (back i) at (at i (omega (arith, s.carriedprocessors))).carried))
      (every_pair_all _ x.travellingprocessors x.travellingmoves 0 0 (λ i l k. rw (back i) at (at i (omega (arith, s.travellingprocessors))).travelling)))
