-- How many words pass in the net: none on a channel that there is not, and on all channels together no more than a plan has instructions.
use mathlib.Core.Path.{◌≡◌, refl, sym, ap, ◌∙◌}
use mathlib.Core.Bool.{true, false}
use mathlib.Core.List.{List, [], ◌∷◌, ◌++◌}
use mathlib.Core.Logic.{by_cases}
use Prim.Native.Nat.{ℕ, zero, suc, ◌+◌, ◌-◌, ◌≤◌, ◌<◌}
use native.Mathlib.Decide.{ℕ_discrete}
use native.Mathlib.Omega.{arith}
use lib.Dec.{eqb, leb}
use lib.ListN.{length, length-append}
use borrow.Author.Tests.{eq-eqb, ne_eqb, le-leb, lt-leb}
use Rattle.std.specs.Prelude.{Ok}
use Rattle.base.specs.Choice.{pick, within}
use Rattle.base.specs.Range.{fold, sum_below}
use Rattle.base.proofs.Choices.{pick_either}
use Rattle.base.proofs.Sums.{sum_const, sum_at_most}
use Rattle.base.proofs.Updates.{updated_at, updated_other}
use Rattle.net.specs.Machines.{Run, stop, take}
use Rattle.plan.specs.declared.ChannelId.{ChannelId}
use Rattle.plan.specs.declared.Word.{Word}
use Rattle.plan.specs.Numbers.{task_id, channel_id}
use Rattle.plan.specs.Programs.{Programs}
use Rattle.plan.specs.Refusals.{plan_answer}
use Rattle.plan.specs.Users.{sender_of}
use Rattle.plan_laws.proofs.Answers.{plan_passed, sized}
use Rattle.plan_laws.proofs.Ends.{no_ends}
use Rattle.net.specs.States.{Net, start_net}
use Rattle.net.specs.Labels.{Label, own, pass}
use Rattle.net.specs.Guards.{program_for, enabled}
use Rattle.net.specs.Effects.{after_own, after_pass, effect}
use Rattle.net.specs.Nets.{net, Reached, remaining}
use Rattle.net.proofs.Parts.{sender_part, acting}
use Rattle.net.proofs.Remaining.{active_task, run_ends}

-- the sum over the numbers 1 .. n of a function that is one more at d
pub sum_tick : (n d : ℕ) (f g : ℕ → ℕ) → ((k : ℕ) → g k ≡ f k + pick (eqb (suc k) d) 1 0)
    → sum_below n g ≡ sum_below n f + pick (within 1 n d) 1 0
unfolding fold
sum_tick zero d f g more =
    by_cases
    (ℕ_discrete d 0)
    (λ (e : d ≡ 0). rw e refl)
    (λ ne. rw (le-leb 1 d (omega arith), lt-leb d 0 (omega arith)) refl)
sum_tick (suc n) d f g more =
    by_cases
    (ℕ_discrete (suc n) d)
    (λ (e : suc n ≡ d).
    let one : ◌≡◌ {A = ℕ} (pick (eqb (suc n) d) 1 0) 1 = rw (eq-eqb (suc n) d e) refl in
    let out : ◌≡◌ {A = ℕ} (pick (within 1 n d) 1 0) 0 = rw (le-leb 1 d (omega arith), lt-leb d n (omega arith)) refl in
    let last : ◌≡◌ {A = ℕ} (pick (within 1 (suc n) d) 1 0) 1 = rw (le-leb 1 d (omega arith), le-leb d (suc n) (omega arith)) refl in
    omega (arith, sum_tick n d f g more, more n, one, out, last))
    (λ ne.
    let none : ◌≡◌ {A = ℕ} (pick (eqb (suc n) d) 1 0) 0 = rw (ne_eqb (suc n) d ne) refl in
    let same : leb d n ≡ leb d (suc n) =
    by_cases (ℕ_discrete (d - n) 0) (λ (e : d - n ≡ 0). le-leb d n (omega arith) ∙ sym (le-leb d (suc n) (omega arith)))
    (λ z. lt-leb d n (omega arith) ∙ sym (lt-leb d (suc n) (omega arith))) in
    rw (← same) (omega (arith, sum_tick n d f g more, more n, none)))

abbrev pub tally : (ChannelId → List Word) → ℕ
tally words = sum_below 128 (λ k. length (words (channel_id (suc k))))

module _ (m : Programs) (a : plan_answer m ≡ Ok tt) where
  -- a channel that there is not
  module _ (c : ChannelId) (out : within 1 128 c.0 ≡ false) where
    label_none : (s : Net) (l : Label) → enabled m s l ≡ true → s.passed c ≡ [] → (effect m s l).passed c ≡ []
    unfolding effect after_own after_pass
    label_none s (own t) h e = e
    label_none s (pass d) h e =
        by_cases
        (ℕ_discrete c.0 d.0)
        (λ (q : c.0 ≡ d.0).
        let (low, high) = active_task m s (sender_of m d) (acting m s (pass d) (sender_of m d) h (sender_part m d)).active in
        let none = (no_ends m a d (rw q at out)).0 in
        absurd (omega arith))
        (λ ne. updated_other (λ (x : ChannelId). x.0) s.passed d c _ ne ∙ e)

    pub run_none : {s z : Net} {ls : List Label} → Run (net m) s ls z → s.passed c ≡ [] → z.passed c ≡ []
    run_none stop e = e
    run_none (take {s = s} l h r) e = run_none r (label_none s l h e)

  -- each label passes at most one word
  label_tally : (s : Net) (l : Label) → tally (effect m s l).passed ≤ tally s.passed + 1
  unfolding effect after_own after_pass
  label_tally s (own t) = omega arith
  label_tally s (pass d) =
      let then = s.passed d ++ (s.word (sender_of m d) ∷ []) in
      let f : ℕ → ℕ = λ k. length (s.passed (channel_id (suc k))) in
      let g : ℕ → ℕ = λ k. length ((effect m s (pass d)).passed (channel_id (suc k))) in
      let more : (k : ℕ) → g k ≡ f k + pick (eqb (suc k) d.0) 1 0 =
      λ k. by_cases
      (ℕ_discrete (suc k) d.0)
      (λ (e : suc k ≡ d.0).
      let here : channel_id (suc k) ≡ d = ap channel_id e in
      ap length (updated_at (λ (x : ChannelId). x.0) s.passed d (channel_id (suc k)) (s.passed d ++ (s.word (sender_of m d) ∷ [])) e)
      ∙ length-append (s.passed d) (s.word (sender_of m d) ∷ [])
      ∙ rw (here, eq-eqb (suc k) d.0 e) refl)
      (λ ne.
      ap length (updated_other (λ (x : ChannelId). x.0) s.passed d (channel_id (suc k)) (s.passed d ++ (s.word (sender_of m d) ∷ [])) ne)
      ∙ rw (ne_eqb (suc k) d.0 ne) (omega arith)) in
      let one : pick (within 1 128 d.0) 1 0 ≤ 1 = pick_either (λ n. n ≤ 1) (within 1 128 d.0) 1 0 (omega arith) (omega arith) in
      omega (arith, sum_tick 128 d.0 f g more, one)

  run_tally : {s z : Net} {ls : List Label} → Run (net m) s ls z → tally z.passed ≤ tally s.passed + length ls
  run_tally stop = omega arith
  run_tally (take {s = s} l h r) = omega (arith, run_tally r, label_tally s l)

  -- 64 tasks of 64 instructions
  all_few : remaining m start_net ≤ 4096
  unfolding remaining start_net program_for
  all_few =
      let z = sized m (plan_passed m a).sizes in
      let each : (k : ℕ) → k < length m → length (program_for m (task_id (suc k))) - 0 ≤ 64 =
      λ k l. let e : suc k - 1 ≡ k = omega arith in rw (ne_eqb (suc k) 0 (λ q. omega arith), e) (omega (arith, (z.counts k l).few)) in
      omega (arith, z.tasks.few, sum_at_most 64 (length m) (λ k. length (program_for m (task_id (suc k))) - 0) each)

  start_tally : tally start_net.passed ≡ 0
  unfolding start_net
  start_tally = sum_const 0 128

  pub passed_few : {ls : List Label} {s : Net} → Reached m ls s → tally s.passed ≤ 4096
  passed_few r = omega (arith, run_tally r, run_ends m r, all_few, start_tally)

  pub passed_none : {ls : List Label} {s : Net} → Reached m ls s → (c : ChannelId) → within 1 128 c.0 ≡ false → s.passed c ≡ []
  unfolding start_net
  passed_none r c out = run_none c out r refl
