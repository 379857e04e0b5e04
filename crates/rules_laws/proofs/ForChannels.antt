-- A rule applied at one desk to each of the channels 1 .. n of which a test holds: each such channel's cell is as the rule says, by what
-- it was at first, and nothing else has changed.
use mathlib.Core.Path.{◌≡◌, refl, sym, ◌∙◌, ap}
use mathlib.Core.Bool.{Bool, ◌&&◌}
use mathlib.Core.Logic.{◌≢◌, by_cases}
use Prim.Native.Nat.{ℕ, zero, suc, ◌≤◌, ◌<◌}
use native.Mathlib.Omega.{arith}
use native.Mathlib.Decide.{ℕ_discrete, dec_le}
use lib.Dec.{leb}
use borrow.Author.Tests.{le-leb, lt-leb}
use Rattle.base.specs.Choice.{pick}
use Rattle.base.proofs.Choices.{pick_either, pick_under}
use Rattle.plan.specs.declared.TaskId.{TaskId}
use Rattle.plan.specs.declared.ProcessorId.{ProcessorId}
use Rattle.plan.specs.declared.ChannelId.{ChannelId}
use Rattle.rules.specs.declared.channel.Cell.{Cell}
use Rattle.rules.specs.declared.system.System.{System}
use Rattle.rules.specs.Numbers.{channel_id}
use Rattle.rules.specs.Systems.{store_in, with_store, task_at, entry_at, channel_at, cell_at, with_cell, parent_at}
use Rattle.rules.specs.Effects.{cell_ruled, for_cells, for_channels}
use Rattle.rules_laws.specs.Shapes.{Shaped}
use Rattle.rules_laws.proofs.CellAt.{with_cell_processors, with_cell_plan, with_cell_parents, with_cell_tasks, with_cell_network, with_cell_task_at, with_cell_shaped}
use Rattle.rules_laws.proofs.CellAt.{entry_at_other_processor, cell_at_same, cell_at_other}
use Rattle.rules_laws.proofs.ParentAt.{with_cell_parent_at}

-- a bound that is one higher
leb_step : (k n : ℕ) → k ≢ suc n → leb k n ≡ leb k (suc n)
leb_step k n h =
    by_cases (dec_le k n) (λ l. le-leb k n l ∙ sym (le-leb k (suc n) (omega arith))) (λ l. lt-leb k n (omega arith) ∙ sym (lt-leb k (suc n) (omega arith)))

module _ (test : ChannelId → Bool) (rule : Cell → Cell) (d : ProcessorId) where
  -- none, and one more
  pub for_channels_zero : (r : System) → for_channels 0 test rule d r ≡ r
  unfolding for_channels for_cells
  for_channels_zero r = refl

  pub for_channels_suc : (n : ℕ) (r : System)
      → let q = for_channels n test rule d r in
      let c = channel_id (suc n) in
      for_channels (suc n) test rule d r ≡ pick (test c) (with_cell q d c (rule (cell_at q d c))) q
  unfolding for_channels for_cells with_cell entry_at channel_at
  for_channels_suc n r =
      let s = for_cells n test rule d (store_in r) in
      let c = channel_id (suc n) in
      pick_under (with_store r) (test c) (cell_ruled rule d c s) s

  -- what each change keeps
  pub for_channels_all : (P : System → Type 0) (n : ℕ) (r : System)
      → ((q : System) (k : ℕ) (x : Cell) → k < n → P q → P (with_cell q d (channel_id (suc k)) x))
      → P r
      → P (for_channels n test rule d r)
  for_channels_all P zero r each h = rw (for_channels_zero r) h
  for_channels_all P (suc n) r each h =
      let q = for_channels n test rule d r in
      let c = channel_id (suc n) in
      let x = rule (cell_at q d c) in
      let p = for_channels_all P n r (λ q k x l. each q k x (omega arith)) h in
      rw (for_channels_suc n r) (pick_either P (test c) (with_cell q d c x) q (each q n x (omega arith) p) p)

  pub for_channels_keeps : {A : Type 0} (f : System → A) (n : ℕ) (r : System)
      → ((q : System) (k : ℕ) (x : Cell) → k < n → f (with_cell q d (channel_id (suc k)) x) ≡ f q)
      → f (for_channels n test rule d r) ≡ f r
  for_channels_keeps f n r same = for_channels_all (λ q. f q ≡ f r) n r (λ q k x l h. same q k x l ∙ h) refl

  module _ (n : ℕ) (r : System) where
    pub for_channels_processors : (for_channels n test rule d r).processors ≡ r.processors
    for_channels_processors = for_channels_keeps (λ q. q.processors) n r (λ q k x h. with_cell_processors q d (channel_id (suc k)) x)

    pub for_channels_plan : (for_channels n test rule d r).plan ≡ r.plan
    for_channels_plan = for_channels_keeps (λ q. q.plan) n r (λ q k x h. with_cell_plan q d (channel_id (suc k)) x)

    pub for_channels_parents : (for_channels n test rule d r).parents ≡ r.parents
    for_channels_parents = for_channels_keeps (λ q. q.parents) n r (λ q k x h. with_cell_parents q d (channel_id (suc k)) x)

    pub for_channels_tasks : (for_channels n test rule d r).tasks ≡ r.tasks
    for_channels_tasks = for_channels_keeps (λ q. q.tasks) n r (λ q k x h. with_cell_tasks q d (channel_id (suc k)) x)

    pub for_channels_network : (for_channels n test rule d r).network ≡ r.network
    for_channels_network = for_channels_keeps (λ q. q.network) n r (λ q k x h. with_cell_network q d (channel_id (suc k)) x)

    pub for_channels_task_at : (t : TaskId) → task_at (for_channels n test rule d r) t ≡ task_at r t
    for_channels_task_at t = for_channels_keeps (λ q. task_at q t) n r (λ q k x h. with_cell_task_at q d (channel_id (suc k)) x t)

    pub for_channels_parent_at : (e : ProcessorId) (t : TaskId) → parent_at (for_channels n test rule d r) e t ≡ parent_at r e t
    for_channels_parent_at e t = for_channels_keeps (λ q. parent_at q e t) n r (λ q k x h. with_cell_parent_at q d (channel_id (suc k)) x e t)

    pub for_channels_elsewhere : (e : ProcessorId) (c : ChannelId) → n ≤ 128 → 1 ≤ d.0 → 1 ≤ e.0 → c.0 ≤ 128 → d.0 ≢ e.0
        → entry_at (for_channels n test rule d r) e c ≡ entry_at r e c
    for_channels_elsewhere e c few dl el ch ne =
        for_channels_keeps (λ q. entry_at q e c) n r (λ q k x h. entry_at_other_processor q d (channel_id (suc k)) x e c dl el (omega arith) ch ne)

  pub for_channels_shaped : (n : ℕ) (r : System) → Shaped r → Shaped (for_channels n test rule d r)
  for_channels_shaped n r s = for_channels_all Shaped n r (λ q k x l. with_cell_shaped q d (channel_id (suc k)) x) s

  -- one channel's cell, where the rule may be applied to it
  chosen : (q : System) (c : ChannelId) (x : Cell) (b : Bool) → Shaped q → d.0 ≤ 6 → c.0 ≤ 128 → cell_at (pick b (with_cell q d c x) q) d c ≡ pick b x (cell_at q d c)
  chosen q c x b s dh ch = pick_under (λ p. cell_at p d c) b (with_cell q d c x) q ∙ rw (cell_at_same q d c x s dh ch) refl

  pub for_channels_cell_at : (n : ℕ) (r : System) (c : ChannelId) → Shaped r → n ≤ 128 → d.0 ≤ 6 → 1 ≤ c.0 → c.0 ≤ 128
      → cell_at (for_channels n test rule d r) d c ≡ pick (leb c.0 n && test c) (rule (cell_at r d c)) (cell_at r d c)
  for_channels_cell_at zero r c s few dh cl ch = rw (for_channels_zero r, lt-leb c.0 0 cl) refl
  for_channels_cell_at (suc n) r c s few dh cl ch =
      let q = for_channels n test rule d r in
      let e = channel_id (suc n) in
      let y = rule (cell_at q d e) in
      let before : cell_at q d c ≡ pick (leb c.0 n && test c) (rule (cell_at r d c)) (cell_at r d c) = for_channels_cell_at n r c s (omega arith) dh cl ch in
      rw (for_channels_suc n r)
      (by_cases
      (ℕ_discrete c.0 (suc n))
      (λ (h : c.0 ≡ suc n).
      let was : cell_at q d c ≡ cell_at r d c = rw (lt-leb c.0 n (omega arith)) at before in
      let here : e ≡ c = ap channel_id (sym h) in
      rw (here, le-leb c.0 (suc n) (omega arith))
      (chosen q c (rule (cell_at q d c)) (test c) (for_channels_shaped n r s) dh ch ∙ ap (λ (x : Cell). pick (test c) (rule x) x) was))
      (λ h.
      let same : leb c.0 n ≡ leb c.0 (suc n) = leb_step c.0 n h in
      pick_either (λ p. cell_at p d c ≡ cell_at q d c) (test e) (with_cell q d e y) q (cell_at_other q d e y d c (omega arith) (omega arith) cl ch (λ z. h (sym z))) refl
      ∙ (rw same at before)))

  module _ (n : ℕ) (r : System) (c : ChannelId) (s : Shaped r) (few : n ≤ 128) (dh : d.0 ≤ 6) (cl : 1 ≤ c.0) (ch : c.0 ≤ 128) where
    pub for_channels_entry_at : entry_at (for_channels n test rule d r) d c ≡ pick (leb c.0 n && test c) (rule (cell_at r d c)).entry (entry_at r d c)
    for_channels_entry_at =
        ap (λ (x : Cell). x.entry) (for_channels_cell_at n r c s few dh cl ch) ∙ pick_under (λ x. x.entry) (leb c.0 n && test c) (rule (cell_at r d c)) (cell_at r d c)

    pub for_channels_channel_at : channel_at (for_channels n test rule d r) c ≡ pick (leb c.0 n && test c) (rule (cell_at r d c)).channel (channel_at r c)
    for_channels_channel_at =
        ap (λ (x : Cell). x.channel) (for_channels_cell_at n r c s few dh cl ch) ∙ pick_under (λ x. x.channel) (leb c.0 n && test c) (rule (cell_at r d c)) (cell_at r d c)
