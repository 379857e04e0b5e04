-- The panel of bytes that were opened.
use mathlib.Core.Path.{◌≡◌, refl, sym, ap, ◌∙◌}
use mathlib.Core.Bool.{true, false}
use mathlib.Core.List.{List, ◌++◌}
use Prim.Native.Nat.{ℕ, ◌≤◌, ◌<◌}
use native.Mathlib.Omega.{arith}
use lib.ListN.{length, drop}
use borrow.Author.Tests.{le-leb, lt-leb}
use Rattle.std.specs.Prelude.{Ok}
use Rattle.base.proofs.Tables.{length_table}
use Rattle.base.proofs.Tests.{tests_differ}
use Rattle.plan.specs.declared.Plan.{Plan}
use Rattle.plan_value.specs.Slots.{plan_in}
use Rattle.plan_file.specs.declared.opening.Opened.{Opened}
use Rattle.plan_index.specs.ends.Derived.{ends_of}
use Rattle.plan_index.specs.user_table.Built.{Built}
use Rattle.rules.specs.Panel.{panel_steps, panel}
use Rattle.rig_parts.specs.Facts.{facts_of}
use Rattle.board.specs.declared.act.Size.{Size}
use Rattle.board.specs.Lent.{Lent, Whole}
use Rattle.board.specs.Rigs.{RigOn, facts_in}
use Rattle.panel_laws.specs.Tallies.{tallied}
use Rattle.panel_laws.proofs.Tallies.{panel_counts}
use Rattle.panel_laws.proofs.Inside.{inside}
use Rattle.panel.specs.Counted.{Lends}
use Rattle.image.specs.Numbers.{numbers_at}
use Rattle.image.specs.Image.{rig_of, board_in}
use Rattle.live_rig.specs.declared.open.Opening.{Opening}
use Rattle.live_rig.specs.declared.counts.Counted.{Counted}
use Rattle.image.specs.Live.{held, PanelMeets}
use Rattle.live_rig.specs.Open.{sound, PlanIn, Opens}
use Rattle.live_rig.specs.Shows.{Counts}
use Rattle.live_rig.proofs.Opened.{plan_is, plan_of_lem, facts_of_lem, shaped, passed_here, tasks_here, kept_here}

-- 9, or the counts
module _ {b : List ℕ} {q : Counted} where
  pub counts_nine : sound b ≡ false → q.ok ≡ false → Counts b q
  counts_nine h e = record { ok_is = e ∙ sym h; counts_are = λ k. absurd (tests_differ k h) }

  pub counts_shown : sound b ≡ true → q.ok ≡ true → q.counts ≡ panel (rig_of b) → Counts b q
  counts_shown h e c = record { ok_is = e ∙ sym h; counts_are = λ k. c }

-- the rig is lent, with its plan and what is derived of it
module _ {b : List ℕ} {p : Opened} {codes parents senders receivers : List ℕ} (k : PlanIn b p codes parents senders receivers) (a : p.answer ≡ Ok tt)
    {o : Opening} {t : Lent} (h : Opens b o t) (ok : o.ok ≡ true) {numbers users : List ℕ} (n : numbers ≡ (ends_of (plan_in p.tasks p.lengths codes)).numbers)
    (u : Built senders receivers parents users) where
  facts_here : facts_in o.size.tasks codes numbers users ≡ facts_of (rig_of b).plan
  unfolding rig_of
  facts_here =
      ap (λ (s : Size). facts_in s.tasks codes numbers users) h.size
      ∙ ap (λ (x : Plan). facts_in x.tasks codes numbers users) (sym (plan_is (plan_of_lem k a)))
      ∙ facts_of_lem k a n u

  pub lends_here : Lends (rig_of b) codes numbers users o.size t
  lends_here =
      record {
        shaped = shaped b;
        sound = passed_here h ok;
        facts_of_lem = facts_here;
        processors = ap (λ (s : Size). s.processors) h.size;
        tasks = tasks_here h ok;
        kept = kept_here h ok;
        messages = ap (λ (s : Size). s.used) h.size;
      }

  whole_here : Whole t.board
  unfolding board_in numbers_at
  whole_here = rw h.parts (length_table 1094 _)

  pub rig_here : RigOn codes numbers users o.size t
  rig_here =
      let r = lends_here in
      record {
        whole = whole_here;
        parts =
            record {
              system = rig_of b;
              shaped = r.shaped;
              sound = r.sound;
              facts_of_lem = r.facts_of_lem;
              processors = r.processors;
              tasks = r.tasks;
              kept = r.kept;
              messages = r.messages;
            };
        indexed = u.indexed;
      }

  -- so its counts are the panel
  pub panel_here : {q : List ℕ} → q ≡ tallied (rig_of b) (panel_steps o.size.tasks o.size.processors) → q ≡ panel (rig_of b)
  panel_here e =
      e
      ∙ ap (λ (s : Size). tallied (rig_of b) (panel_steps s.tasks s.processors)) h.size
      ∙ sym (panel_counts (rig_of b) (inside (rig_of b) (passed_here h ok)))
