-- A run step of a ready task leaves a fine effect.
use mathlib.Core.Path.{◌≡◌, refl}
use mathlib.Core.Bool.{true, false, ◌||◌}
use Prim.Native.Nat.{ℕ, ◌-◌, ◌≤◌, ◌<◌}
use native.Mathlib.Omega.{arith}
use lib.Dec.{eqb}
use lib.ListN.{length}
use borrow.Author.Tests.{eqb-true, ne_eqb}
use Rattle.base.specs.Choice.{within}
use Rattle.base.proofs.Choices.{pick_cases, pick_either}
use Rattle.base.proofs.Sets.{inserted_below}
use Rattle.base.proofs.Tests.{within_low, within_high, within_both, and_both}
use Rattle.plan.specs.declared.TaskId.{TaskId}
use Rattle.plan.specs.declared.Instruction.{Instruction}
use Rattle.plan.specs.Kinds.{op_create, op_sync, op_finish, op_send, op_receive, op_set, is_finish}
use Rattle.plan.specs.Programs.{programs, program_at, instruction_at}
use Rattle.plan.specs.Refusals.{instruction_ok}
use Rattle.plan.specs.Users.{parent_of}
use Rattle.plan.specs.Words.{set_word, add_word}
use Rattle.plan.proofs.Parts.{tasks_of_lem}
use Rattle.plan_laws.proofs.Programs.{instruction_fine, more_after, create_operand, send_operand, receive_operand}
use Rattle.rules.specs.declared.task.Task.{Task}
use Rattle.rules.specs.declared.task.TaskState.TheVariants.{Ready, Unborn, Waiting}
use Rattle.rules.specs.declared.system.System.{System}
use Rattle.rules.specs.Numbers.{task_id, channel_id}
use Rattle.rules.specs.Tasks.{is_in, state_number, is_childless, advanced, with_state}
use Rattle.rules.specs.Systems.{task_at, with_task, meaning, parent_at}
use Rattle.rules.specs.Places.{next_in}
use Rattle.rules.specs.Effects.{Effect, changed}
use Rattle.rules.specs.Local.{create_rule, finish_rule, sync_rule, set_rule, add_rule}
use Rattle.rules.specs.Runs.{ran_create, ran_finish, executed, next_of, ran}
use Rattle.rules.specs.Sound.{task_ok, known_ok, origin_ok}
use Rattle.rules_sound.specs.Fine.{FinePosting}
use Rattle.rules_sound.specs.Settled.{Settled}
use Rattle.rules_sound.specs.Sites.{Acting, SameOrigin}
use Rattle.rules_sound.specs.Sound.{program_in, Startable}
use Rattle.rules_sound.specs.Stands.{Whole, FineEffect}
use Rattle.rules_sound.proofs.Settled.{settled}
use Rattle.rules_sound.proofs.TaskRules.{create_ok_lem, word_ok, sync_ok}
use Rattle.rules_sound.proofs.FinishRule.{finish_fine}
use Rattle.rules_sound.proofs.Postings.{nothing_posted}
use Rattle.rules_sound.proofs.Rigs.{task_stands, same_stands, parent_stands}
use Rattle.rules_sound.proofs.Frames.{user_in_lem, tasks_few, in_plan}
use Rattle.rules_sound.proofs.Births.{birth_stands}
use Rattle.rules_sound.proofs.ChannelRuns.{send_effect, receive_effect}
use Rattle.rules.specs.Hints.{hint}
use Rattle.rules_sound.proofs.Origins.{born_origin, origin_kept}

module _ (r : System) (s : Startable r.processors r.plan) (w : Whole r) (t : TaskId) (l : 1 ≤ t.0) (h : t.0 ≤ r.plan.tasks)
    (ready : is_in Ready (task_at r t) ≡ true) where
  abbrev Left : Effect → Type 0
  Left = FineEffect r.processors r.plan r.network (FinePosting r.processors r.plan.tasks)

  abbrev Acts : ℕ → Type 0
  Acts k = Acting r.processors r.plan.tasks (program_in r.plan t) k (task_at r t)

  fine : task_ok r.processors r.plan.tasks (program_in r.plan t) (task_at r t) ≡ true
  fine = w.holds.tasks t l h

  here : Settled r.processors r.plan.tasks (length (program_in r.plan t)) (task_at r t)
  here = settled _ _ _ (task_at r t) Ready refl ready fine

  -- the instruction is one of the plan's
  pub next_in_lem : (P : Instruction → Type 0)
      → ((k : ℕ) → k < length (meaning r) → (i : ℕ) → i < length (program_at (meaning r) k) → P (instruction_at (program_at (meaning r) k) i))
      → P (next_of r t)
  unfolding next_in
  next_in_lem P each =
      let low = here.place in
      let high = here.place_few in
      each (t.0 - 1) (in_plan _ _ s t l h) ((task_at r t).pc - 1) (omega arith)

  pub next_fine : instruction_ok r.plan.tasks (next_of r t) ≡ true
  next_fine = rw (tasks_of_lem r.plan) at (next_in_lem (λ i. instruction_ok (length (meaning r)) i ≡ true) (instruction_fine (meaning r) s.plan))

  -- and another follows if it is no finish
  more : is_finish (next_of r t) ≡ false → (task_at r t).pc < length (program_in r.plan t)
  unfolding next_in
  more e =
      let low = here.place in
      let high = here.place_few in
      omega (arith, more_after (programs r.plan) s.plan (t.0 - 1) (in_plan _ _ s t l h) ((task_at r t).pc - 1) (omega arith) e)

  acting : (k : ℕ) → (next_of r t).opcode ≡ k → eqb k op_finish ≡ false → Acts k
  acting k e z = record { fine = fine; ready = ready; more = more (rw e z); next = e }

  -- another record of the task, and no letter
  changes : (x : Task) → task_ok r.processors r.plan.tasks (program_in r.plan t) x ≡ true → SameOrigin (task_at r t) x → Left (changed (with_task r t x))
  changes x f e = record { system = same_stands _ _ _ r w (tasks_few _ _ s) t x h (λ z. f) e; posting = nothing_posted _ _ }

  -- it was ready, and is born still
  stays : (x : Task) → x.origin ≡ (task_at r t).origin → is_in Unborn x ≡ false → SameOrigin (task_at r t) x
  stays x e u = born_origin Ready (task_at r t) x ready refl e u

  born_yet : is_in Unborn (task_at r t) ≡ false
  born_yet = rw (eqb-true (state_number (task_at r t).state) 1 ready) refl

  -- its desk and its count are a pointer
  known_here : known_ok r.processors (hint (task_at r t).processor (task_at r t).moves) ≡ true
  known_here =
      and_both _ _ (within_both 1 r.processors (task_at r t).processor.0 here.processor here.processor_few)
      (within_both 1 9999 (task_at r t).moves here.moves here.moves_few)

  creates : Acts op_create → (u : TaskId) → within 2 r.plan.tasks u.0 ≡ true → Left (ran_create r t u)
  unfolding ran_create origin_ok
  creates a u o =
      let low = within_low 2 r.plan.tasks u.0 o in
      let high = within_high 2 r.plan.tasks u.0 o in
      let few = inserted_below u.0 (task_at r t).children r.plan.tasks (omega arith) high here.children in
      let z = create_rule (task_at r t) u in
      let made = changes z (create_ok_lem _ _ _ (task_at r t) op_create a u few) (stays z refl born_yet) in
      let own = hint (task_at r t).processor (task_at r t).moves in
      let child : eqb u.0 1 ≡ false = ne_eqb u.0 1 (λ q. omega arith) in
      let processor = within_both 1 r.processors (task_at r t).processor.0 here.processor here.processor_few in
      record { system = birth_stands _ _ _ s _ made.system u high (task_at r t).processor processor own (rw child known_here); posting = nothing_posted _ _ }

  sync_stays : SameOrigin (task_at r t) (sync_rule (task_at r t))
  unfolding sync_rule
  sync_stays =
      let x = task_at r t in
      pick_either (SameOrigin x) (is_childless x) (advanced x) (advanced (with_state x Waiting)) (stays (advanced x) refl born_yet)
      (stays (advanced (with_state x Waiting)) refl refl)

  finishes : Left (ran_finish r t)
  unfolding ran_finish
  finishes =
      let v = parent_of (meaning r) t in
      let vh = user_in_lem r.plan op_create t.0 in
      let few = tasks_few _ _ s in
      let d = (task_at r t).processor in
      let dh : d.0 ≤ 6 = omega (arith, here.processor_few, s.few) in
      let e = parent_at r d v in
      let o = finish_rule t (task_at r t) (task_at r v) e in
      let f =
      finish_fine _ _ (program_in r.plan t) (program_in r.plan v) t (task_at r t) (task_at r v) e here ready l h (w.holds.origins t l h)
      (w.holds.parents d v dh (omega arith)) in
      let first = with_task r v o.parent in
      let left = same_stands _ _ _ r w few v o.parent vh (λ z. f.parent (w.holds.tasks v z vh)) f.parent_origin in
      let both =
      task_stands _ _ _ first left few t o.task h (λ z. f.task)
      (λ z. origin_kept r.processors t.0 (task_at r t) o.task f.task_origin (w.holds.origins t l h)) in
      record { system = parent_stands _ _ _ (with_task first t o.task) both d v dh (omega arith) o.entry f.entry; posting = f.posting }

  pub run_fine : Left (ran r t)
  unfolding ran executed
  run_fine =
      let i = next_of r t in
      let x = task_at r t in
      pick_cases Left (eqb i.opcode op_create) _ _
      (λ e. let k = eqb-true i.opcode op_create e in creates (acting op_create k refl) (task_id i.operand) (create_operand _ i next_fine k))
      (λ e.
      pick_cases Left (eqb i.opcode op_sync) _ _
      (λ e. changes _ (sync_ok _ _ _ x op_sync (acting op_sync (eqb-true i.opcode op_sync e) refl)) sync_stays)
      (λ e.
      pick_cases Left (eqb i.opcode op_finish) _ _
      (λ e. finishes)
      (λ f.
      pick_cases Left (eqb i.opcode op_send) _ _
      (λ e. let k = eqb-true i.opcode op_send e in send_effect r s w t l h (channel_id i.operand) (send_operand _ i next_fine k) (acting op_send k refl) refl)
      (λ e.
      pick_cases Left (eqb i.opcode op_receive) _ _
      (λ e. let k = eqb-true i.opcode op_receive e in receive_effect r s w t l h (channel_id i.operand) (receive_operand _ i next_fine k) (acting op_receive k refl))
      (λ e.
      pick_cases Left (eqb i.opcode op_set) _ _
      (λ e. changes _ (word_ok _ _ _ x i.opcode (acting i.opcode refl f) (set_word x.word i) x.overflow) (stays (set_rule x i) refl born_yet))
      (λ e. changes _ (word_ok _ _ _ x i.opcode (acting i.opcode refl f) (add_word x.word i).word (x.overflow || (add_word x.word i).overflow)) (stays (add_rule x i) refl born_yet)))))))
