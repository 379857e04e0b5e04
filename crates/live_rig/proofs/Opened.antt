-- The rig of bytes that were opened.
use mathlib.Core.Path.{◌≡◌, refl, sym, ap, ◌∙◌}
use mathlib.Core.Bool.{true, false}
use mathlib.Core.List.{List}
use Prim.Native.Nat.{ℕ, ◌≤◌, ◌<◌}
use native.Mathlib.Omega.{arith}
use lib.ListN.{length, get_or, replicate, length-replicate}
use Rattle.std.specs.Prelude.{Ok, Err}
use Rattle.base.proofs.Answers.{err_not_ok}
use Rattle.base.proofs.Tables.{length_table}
use Rattle.base.proofs.Tests.{and_right}
use Rattle.plan.specs.declared.Plan.{Plan}
use Rattle.plan.specs.declared.Refusal.{Refusal}
use Rattle.plan.specs.declared.Refusal.TheVariants.{BadLayout}
use Rattle.plan.specs.Programs.{programs}
use Rattle.plan.specs.Refusals.{plan_answer}
use Rattle.plan.specs.Outcomes.{plan_read}
use Rattle.plan_value.specs.Slots.{plan_in}
use Rattle.plan_file.specs.declared.opening.Opened.{Opened}
use Rattle.plan_file.specs.Opens.{PlanOpened}
use Rattle.plan_index.specs.ends.Derived.{ends_of}
use Rattle.plan_index.specs.user_table.Built.{Few, Built}
use Rattle.rules.specs.Sound.{system_ok}
use Rattle.rules.specs.Steps.{quiescent}
use Rattle.rules_laws.specs.Shapes.{Shaped}
use Rattle.rules_laws.proofs.Sound.{messages_fit}
use Rattle.rig_parts.specs.Facts.{facts_of, kept_in, PartsOf}
use Rattle.rig_parts.proofs.AtRest.{rest_is}
use Rattle.rig_parts.proofs.Rigs.{own_parts}
use Rattle.board.specs.declared.act.Size.{Size}
use Rattle.board.specs.Lent.{Lent, lent, tasks_on, records_on, ready_on, channels_on, channel_column, parents_on, parent_column, tasks_of, kept_of}
use Rattle.board.specs.Rigs.{facts_in}
use Rattle.steps.specs.instruction.Refusals.{Placed}
use Rattle.steps.proofs.instruction.Refusals.{placed}
use Rattle.rig.specs.rest.Rests.{quiet_in}
use Rattle.rig.proofs.rest.Refusals.{rest_quiet}
use Rattle.rig.proofs.start.Tables.{few_ends}
use Rattle.run.proofs.file.Beginning.{facts_in_lem}
use Rattle.run.proofs.file.Opening.{opened_file}
use Rattle.image.specs.Numbers.{number_at, numbers_at}
use Rattle.image.specs.Image.{rig_of, is_image, rig_size, plan_room, plan_file, tables_in, network_in, chosen_in}
use Rattle.image_laws.specs.Parts.{lent_in}
use Rattle.image_laws.proofs.Plans.{read_plan, plan_fits}
use Rattle.rig_read.specs.Opened.{Opened as RigOpened}
use Rattle.rig_read.specs.Room.{Room}
use Rattle.live_rig.specs.declared.open.Opening.{Opening}
use Rattle.live_rig.specs.Open.{sound, PlanIn, PlanOf, size_of, Opens}
use Rattle.live_rig.proofs.Refused.{long_refused, plan_refused}

-- the plan file is too long, or was opened
module _ (b : List ℕ) (o : Opened) {codes parents senders receivers : List ℕ} where
  pub too_long : plan_room < number_at 4 b 4 → o.answer ≡ Err BadLayout → PlanIn b o codes parents senders receivers
  too_long h r =
      record {
        refused = λ n. long_refused b h;
        room = λ a. absurd (err_not_ok BadLayout tt (sym r ∙ a));
        opens = λ a. absurd (err_not_ok BadLayout tt (sym r ∙ a));
      }

  pub plan_opened : number_at 4 b 4 ≤ plan_room → {f : List ℕ} → f ≡ plan_file b → PlanOpened f o codes parents senders receivers → PlanIn b o codes parents senders receivers
  plan_opened e q h = let k = rw q at h in record { refused = λ n. plan_refused b (λ a. n (k.answered ∙ a)); room = λ a. e; opens = λ a. k }

-- the plan of bytes, by its numbers
module _ {b : List ℕ} {tasks : ℕ} {lengths codes : List ℕ} (p : PlanOf b tasks lengths codes) where
  pub plan_is : plan_in tasks lengths codes ≡ (plan_read (plan_file b)).plan
  plan_is = λ i. plan_in (p.tasks_are i) (p.lengths_are i) (p.codes_are i)

  pub plan_here : plan_in tasks lengths codes ≡ (rig_of b).plan
  unfolding rig_of
  plan_here = plan_is

  pub plan_accepted : plan_answer (programs (plan_in tasks lengths codes)) ≡ Ok tt
  plan_accepted = rw plan_is (plan_fits (plan_file b) p.accepted).0

-- the plan of accepted bytes, and who uses what in it
module _ {b : List ℕ} {o : Opened} {codes parents senders receivers : List ℕ} (p : PlanIn b o codes parents senders receivers) (a : o.answer ≡ Ok tt) where
  abbrev plan : Plan
  plan = plan_in o.tasks o.lengths codes

  plan_read_lem : plan ≡ (plan_read (plan_file b)).plan
  plan_read_lem = (p.opens a).plan a ∙ sym (read_plan (plan_file b) (opened_file (p.opens a) a))

  pub plan_of_lem : PlanOf b o.tasks o.lengths codes
  plan_of_lem =
      record {
        room = p.room a;
        accepted = opened_file (p.opens a) a;
        tasks_are = ap (λ (x : Plan). x.tasks) plan_read_lem;
        lengths_are = ap (λ (x : Plan). x.lengths) plan_read_lem;
        codes_are = ap (λ (x : Plan). x.codes) plan_read_lem;
      }

  pub senders_of_lem : senders ≡ (ends_of plan).senders
  unfolding ends_of
  senders_of_lem = rw ((p.opens a).plan a) ((p.opens a).firsts a).senders

  pub receivers_of_lem : receivers ≡ (ends_of plan).receivers
  unfolding ends_of
  receivers_of_lem = rw ((p.opens a).plan a) ((p.opens a).firsts a).receivers

  pub parents_of_lem : parents ≡ (ends_of plan).parents
  unfolding ends_of
  parents_of_lem = rw ((p.opens a).plan a) ((p.opens a).firsts a).parents

  pub users_of : Few senders receivers parents
  users_of = rw (senders_of_lem, receivers_of_lem, parents_of_lem) (few_ends plan (plan_accepted plan_of_lem))

  -- what is derived of it
  pub facts_of_lem : {numbers users : List ℕ} → numbers ≡ (ends_of plan).numbers → Built senders receivers parents users
      → facts_in o.tasks codes numbers users ≡ facts_of (plan_read (plan_file b)).plan
  facts_of_lem {numbers} n u = facts_in_lem o.tasks codes numbers u ∙ rw (n, senders_of_lem, receivers_of_lem, parents_of_lem) (ap facts_of plan_read_lem)

-- room for its parts
pub blank_room : Room (lent (replicate 768 0) (replicate 768 0) (replicate 768 0) (replicate 768 0) (replicate 768 0) (replicate 1094 0))
blank_room =
    record {
      hintprocessors = length-replicate {A = ℕ} 768 0;
      hintmoves = length-replicate {A = ℕ} 768 0;
      heldprocessors = length-replicate {A = ℕ} 768 0;
      heldnumbers = length-replicate {A = ℕ} 768 0;
      notes = length-replicate {A = ℕ} 768 0;
      board = length-replicate {A = ℕ} 1094 0;
    }

-- its parts
module _ (b lengths codes : List ℕ) (tasks : ℕ) (e : length b ≡ rig_size) (p : PlanOf b tasks lengths codes) {used : ℕ} (m : used ≡ number_at 4 b 8) where
  abbrev pub size_read : Size
  size_read = record { tasks = tasks; processors = get_or b 12 0; used = used }

  pub opened : {l : Lent} → l ≡ lent_in b → {chosen : List ℕ} → chosen ≡ chosen_in b → RigOpened b lengths codes size_read l chosen
  opened t c =
      record {
        long = e;
        room = p.room;
        plan = p.accepted;
        plan_lengths = p.lengths_are;
        plan_codes = p.codes_are;
        tasks = p.tasks_are;
        processors = refl;
        used = m;
        parts = t;
        last = c;
      }

  pub size_read_lem : size_read ≡ size_of (rig_of b)
  unfolding rig_of network_in
  size_read_lem = rw (p.tasks_are, m) refl

-- arrays of a rig that is read have their sizes
pub shaped : (b : List ℕ) → Shaped (rig_of b)
unfolding rig_of tasks_on records_on ready_on channels_on channel_column parents_on parent_column tables_in numbers_at network_in chosen_in
shaped b =
    record {
      tasks = length_table 64 _;
      ready = length_table 6 _;
      chosen = length_table 6 _;
      hintprocessors = length_table 768 _;
      hintmoves = length_table 768 _;
      heldprocessors = length_table 768 _;
      heldnumbers = length_table 768 _;
      notes = length_table 768 _;
      granted = length_table 128 _;
      awaiting = length_table 128 _;
      carriedprocessors = length_table 128 _;
      carriednumbers = length_table 128 _;
      travellingprocessors = length_table 128 _;
      travellingmoves = length_table 128 _;
      parentprocessors = length_table 384 _;
      parentmoves = length_table 384 _;
      parentheld = length_table 384 _;
      slots = length_table 256 _;
    }

-- what is lent, where 9 does not refuse the bytes
module _ {b : List ℕ} {o : Opening} {t : Lent} (h : Opens b o t) (ok : o.ok ≡ true) where
  pub sound_here : sound b ≡ true
  sound_here = sym h.ok ∙ ok

  pub passed_here : system_ok (rig_of b) ≡ true
  passed_here = and_right (is_image b) (system_ok (rig_of b)) sound_here

  pub tasks_here : tasks_on t.board ≡ (rig_of b).tasks
  unfolding rig_of
  tasks_here = ap tasks_of h.parts

  pub kept_here : kept_of t ≡ kept_in (rig_of b)
  unfolding rig_of tables_in
  kept_here = ap kept_of h.parts

  parts_here : PartsOf (facts_of (rig_of b).plan) (rig_of b).processors (rig_of b).tasks (kept_in (rig_of b)) (rig_of b).network.used
  parts_here = (own_parts (rig_of b) (shaped b) passed_here).parts

  pub used_here : o.size.used ≡ (rig_of b).network.used
  used_here = ap (λ (n : Size). n.used) h.size

  pub few_here : o.size.used ≤ 256
  few_here = rw used_here (messages_fit (rig_of b) passed_here)

  -- with its plan
  module _ {tasks : ℕ} {lengths codes : List ℕ} (p : PlanOf b tasks lengths codes) where
    pub placed_here : Placed tasks (tasks_on t.board)
    placed_here = rw (ap (λ (x : Plan). x.tasks) (plan_here p), tasks_here) (placed parts_here)

    pub quiet_here : quiet_in tasks codes (tasks_on t.board) o.size.used ≡ quiescent (rig_of b)
    quiet_here =
        rw (ap (λ (x : Plan). x.tasks) (plan_here p), ap (λ (x : Plan). x.codes) (plan_here p), tasks_here, used_here)
        (sym (rest_quiet parts_here) ∙ rest_is (rig_of b) (shaped b) passed_here)

-- a plan that was refused
pub refused_plan : {b : List ℕ} {o : Opened} {codes parents senders receivers : List ℕ} → PlanIn b o codes parents senders receivers
    → {r : Refusal} → o.answer ≡ Err r → sound b ≡ false
refused_plan p e = p.refused (λ a. err_not_ok _ tt (sym e ∙ a))

-- 9 refuses what was opened
pub refused_here : {b : List ℕ} {o : Opening} {t : Lent} → Opens b o t → o.ok ≡ false → sound b ≡ false
refused_here h f = sym h.ok ∙ f
