-- A rule for the channels of a task, applied along the links.
use mathlib.Core.Path.{◌≡◌, refl, sym, ◌∙◌, ap, subst}
use mathlib.Core.List.{List}
use mathlib.Core.Logic.{◌≢◌}
use Prim.Native.Nat.{ℕ, ◌+◌, ◌-◌, ◌≤◌, ◌<◌}
use native.Mathlib.Omega.{arith}
use lib.ListN.{get_or}
use borrow.Author.Tests.{eq-eqb, ne_eqb}
use Rattle.plan.specs.declared.TaskId.{TaskId}
use Rattle.plan.specs.declared.ProcessorId.{ProcessorId}
use Rattle.rules.specs.Numbers.{channel_id}
use Rattle.rules.specs.declared.system.Store.{Store}
use Rattle.rules.specs.Effects.{for_cells}
use Rattle.rig_parts.specs.declared.sweep.CellRule.{CellRule}
use Rattle.rig_parts.specs.Sweeps.{rule_of, ruled_at, end_is, for_ends}
use Rattle.rig_parts.proofs.Sweeping.{cells_none, cells_here, cells_past}
use Rattle.plan_index.specs.user_table.Links.{Linked}
use Rattle.plan_index.proofs.user_table.Following.{reached, reached_end, reached_before, Follows, first_skips, after_skips, first_follows, after_follows, after_later, after_most}
use Rattle.board.specs.Lent.{Lent, Whole, store_of}
use Rattle.board.specs.Acted.{StoredBy}

-- nothing was done to what is lent
pub stored_none : {f : Store → Store} (l : Lent) → Whole l.board → ((s : Store) → f s ≡ s) → StoredBy f l l
stored_none l w none = record { whole = w; tasks = refl; store = sym (none (store_of l)); parents = refl }

-- one was done, and then the other
pub stored_next : {f g one : Store → Store} {l m n : Lent} → ((s : Store) → g s ≡ one (f s)) → StoredBy f l m → StoredBy one m n → StoredBy g l n
stored_next {one = one} {l = l} more before here =
    record {
      whole = here.whole;
      tasks = here.tasks ∙ before.tasks;
      store = here.store ∙ ap one before.store ∙ sym (more (store_of l));
      parents = here.parents ∙ before.parents;
    }

-- the rule applied to the task's channels before channel c
abbrev pub done_to : List ℕ → TaskId → ProcessorId → CellRule → ℕ → Store → Store
done_to ends t d rule c s = for_cells (reached c) (end_is ends t) (rule_of rule) d s

-- The links that start at first have led to channel c, and By says what is done so far: for each task that these are the links of.
pub record Walked (ends firsts : List ℕ) (d : ProcessorId) (rule : CellRule) (first c : ℕ) (By : (Store → Store) → Type 0) : Type 0 where
  pub most : c ≤ 128
  pub follows : (t : TaskId) → t.0 ≤ 64 → first ≡ get_or firsts t.0 0 → Follows ends t.0 c
  pub done : (t : TaskId) → t.0 ≤ 64 → first ≡ get_or firsts t.0 0 → By (done_to ends t d rule c)

module _ (ends : List ℕ) (t : TaskId) (d : ProcessorId) (rule : CellRule) (s : Store) where
  -- the rule applied to the channels 1 .. n
  abbrev up_to : ℕ → Store
  up_to n = for_cells n (end_is ends t) (rule_of rule) d s

  past : (k : ℕ) → get_or ends (k + 1) 0 ≢ t.0 → up_to (k + 1) ≡ up_to k
  past k ne = cells_past _ _ _ _ k (ne_eqb (get_or ends (k + 1) 0) t.0 ne)

  here : (k c : ℕ) → k + 1 ≡ c → get_or ends c 0 ≡ t.0 → up_to c ≡ ruled_at rule d (channel_id c) (up_to k)
  here k c e =
      subst
      (λ n. get_or ends n 0 ≡ t.0 → up_to n ≡ ruled_at rule d (channel_id n) (up_to k)) e
      (λ h. cells_here _ _ _ _ k (eq-eqb (get_or ends (k + 1) 0) t.0 h))

  module _ {firsts nexts : List ℕ} (links : Linked ends firsts nexts) where
    -- none is done before the first
    walk_first : t.0 ≤ 64 → done_to ends t d rule (get_or firsts t.0 0) s ≡ s
    walk_first h = first_skips links t.0 up_to past h ∙ cells_none _ _ _ _

    -- one more is done before the next
    walk_next : (c : ℕ) → 1 ≤ c → Follows ends t.0 c → done_to ends t d rule (get_or nexts c 0) s ≡ ruled_at rule d (channel_id c) (done_to ends t d rule c s)
    walk_next c h f = after_skips links t.0 up_to past c h f ∙ here (reached c) c (reached_before c h) (f.has h)

module _ {ends firsts nexts : List ℕ} (links : Linked ends firsts nexts) {d : ProcessorId} {rule : CellRule} where
  module _ (t : TaskId) (small : t.0 ≤ 64) {first : ℕ} (e : first ≡ get_or firsts t.0 0) {By : (Store → Store) → Type 0} where
    -- at the first channel, where nothing was done
    pub walked_first : ((f : Store → Store) → ((s : Store) → f s ≡ s) → By f) → Walked ends firsts d rule first first By
    walked_first none =
        record {
          most = rw e (first_follows links t.0 small).most;
          follows = λ u h p. rw p (first_follows links u.0 h);
          done = λ u h p. none (done_to ends u d rule first) (λ s. rw p (walk_first ends u d rule s links h));
        }

    -- at the end, where the rule was applied to all
    pub walked_end : {c : ℕ} → Walked ends firsts d rule first c By → c ≡ 0 → By (for_ends ends t d rule)
    walked_end all z = subst (λ n. By (for_cells n (end_is ends t) (rule_of rule) d)) (reached_end z) (all.done t small e)

  module _ {first c : ℕ} {By : (Store → Store) → Type 0} (before : Walked ends firsts d rule first c By) (h : 1 ≤ c) {next : ℕ} (e : next ≡ get_or nexts c 0) where
    -- at the next, where the rule was applied to this one
    pub walked_next : {By' : (Store → Store) → Type 0}
        → ((f g : Store → Store) → ((s : Store) → g s ≡ ruled_at rule d (channel_id c) (f s)) → By f → By' g)
        → Walked ends firsts d rule first next By'
    walked_next more =
        rw e
        (record {
          most = after_most links c h before.most;
          follows = λ t small p. after_follows links t.0 c h (before.follows t small p);
          done =
              λ t small p.
              more (done_to ends t d rule c) (done_to ends t d rule (get_or nexts c 0))
              (λ s. walk_next ends t d rule s links c h (before.follows t small p))
              (before.done t small p);
        })

    -- which is later
    pub walked_less : 128 - reached next < 128 - reached c
    walked_less = rw e (omega (arith, before.most, reached_before c h, after_later links c h before.most))
