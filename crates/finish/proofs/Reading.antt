-- The lines of the answer, read off the board, are those of the rig.
use mathlib.Core.Path.{◌≡◌, refl, sym, ap, ◌∙◌}
use mathlib.Core.Bool.{Bool, true, false, not, ◌&&◌, ◌||◌, or-true}
use mathlib.Core.List.{List, [], ◌∷◌, ◌++◌, map, map-append}
use Prim.Native.Nat.{ℕ, zero, suc, ◌-◌, ◌≤◌, ◌<◌}
use native.Mathlib.Omega.{arith}
use lib.Dec.{eqb, ltb}
use lib.ListN.{length, get_or}
use borrow.Author.Tests.{ne_eqb, lt-ltb}
use Rattle.base.specs.Choice.{pick, within}
use Rattle.base.specs.Range.{fold, joined}
use Rattle.base.proofs.Choices.{pick_cases, pick_under}
use Rattle.base.proofs.Folds.{fold_same}
use Rattle.base.proofs.Tests.{within_both, within_high}
use Rattle.plan.specs.declared.Plan.{Plan}
use Rattle.plan.specs.declared.TaskId.{TaskId}
use Rattle.plan.specs.declared.Instruction.{Instruction}
use Rattle.plan.specs.Numbers.{channel_id}
use Rattle.plan.specs.Programs.{programs, instruction_of}
use Rattle.plan.specs.Users.{sender_of, receiver_of}
use Rattle.rules.specs.declared.task.Task.{Task}
use Rattle.rules.specs.declared.task.TaskState.TheVariants.{Sending, Receiving}
use Rattle.rules.specs.declared.step.Step.{Step}
use Rattle.rules.specs.declared.system.System.{System}
use Rattle.rules.specs.Numbers.{task_id}
use Rattle.rules.specs.Tasks.{is_in}
use Rattle.rules.specs.Places.{last_in}
use Rattle.rules.specs.Systems.{task_at, task_in, task_program, meaning}
use Rattle.rules.specs.Finish.{is_stuck, verdict, lowest, depends_on, Stuck, stuck_at, stuck_list, stuck_line, verdict_line, finish_lines}
use Rattle.rules_sound.specs.Sound.{Sound}
use Rattle.rules_sound.proofs.Sound.{sound}
use Rattle.plan.proofs.Parts.{tasks_of_lem}
use Rattle.plan_laws.proofs.Canonical.{fits}
use Rattle.plan_index.specs.ends.Derived.{ends_of}
use Rattle.plan_index.specs.user_table.Users.{senders_of, receivers_of}
use Rattle.rig_parts.specs.Facts.{Facts, facts_of}
use Rattle.rig_parts.specs.Fetches.{instruction_in, slot_at, last_of}
use Rattle.rig_parts.specs.Scopes.{named_in}
use Rattle.rig_parts.proofs.Fetching.{last_read}
use Rattle.rig_parts.proofs.Names.{sender_named, receiver_named}
use Rattle.board.specs.Lent.{Lent, tasks_of}
use Rattle.claim.specs.Statement.{from}
use Rattle.claim.proofs.Blocked.{Blocked, sends_or_receives}
use Rattle.claim.proofs.Whole.{list_kept}
use Rattle.finish.specs.Answers.{LastOn, AllDependent, finishes_in, depends_in, stuck_line_in, stuck_lines_in, lines_in}
use Rattle.finish.specs.Files.{lines_after}
use Rattle.finish.specs.Settles.{After}

-- a rule for each element of joined lists
map_joined : {A B : Type 0} (f : A → B) (n : ℕ) (g : ℕ → List A) → map f (joined n g) ≡ joined n (λ k. map f (g k))
unfolding fold
map_joined f zero g = refl
map_joined f (suc n) g = map-append f (joined n g) (g n) ∙ ap (◌++ map f (g n)) (map_joined f n g)

module _ {codes numbers users : List ℕ} {count : ℕ} {l : Lent} {p : Plan} {ss : List Step} {work : ℕ}
    (a : After codes numbers users count l p ss work) where
  abbrev rig : System
  rig = (from 1 p ss).system

  plan : rig.plan ≡ p
  plan = (list_kept 1 p (omega arith) (omega arith) a.accepted ss).plan

  fine : Sound rig
  fine =
      let k = list_kept 1 p (omega arith) (omega arith) a.accepted ss in
      sound rig k.shaped k.ok

  counted : count ≡ p.tasks
  counted = ap (λ (f : Facts). f.tasks) a.derived

  tasks_there : count ≡ rig.plan.tasks
  tasks_there = counted ∙ ap (λ (z : Plan). z.tasks) (sym plan)

  -- task t of the plan
  module _ (t : ℕ) (low : 1 ≤ t) (high : t ≤ count) where
    abbrev x : Task
    x = task_at rig (task_id t)

    -- its last executed instruction, by its code
    last_operand : 2 ≤ x.pc → (instruction_in codes (task_id t) (x.pc - 1)).operand ≡ (last_in (task_program rig (task_id t)) x).operand
    unfolding last_of
    last_operand some =
        let same : codes ≡ rig.plan.codes = ap (λ (f : Facts). f.codes) a.derived ∙ ap (λ (z : Plan). z.codes) (sym plan) in
        let none : eqb t 0 ≡ false = ne_eqb t 0 (λ e. omega arith) in
        let more : ltb 1 x.pc ≡ true = lt-ltb 1 x.pc (omega arith) in
        let place : x.pc - 1 - 1 ≡ x.pc - 2 = omega arith in
        let read = last_read rig fine.rig (task_id t) (omega (arith, tasks_there)) in
        ap (λ (cs : List ℕ). (instruction_in cs (task_id t) (x.pc - 1)).operand) same
        ∙ ap (λ (k : ℕ). (instruction_of (get_or rig.plan.codes (slot_at (task_id t) k) 0)).operand) place
        ∙ rw (none, more) at read

    is : within 1 p.tasks t ≡ true
    is = within_both 1 p.tasks t low (omega (arith, counted))

    -- if it sends or receives, that is on a channel
    blocked : is_in Sending x || is_in Receiving x ≡ true → Blocked rig (task_id t)
    blocked e = sends_or_receives 1 p ss (omega arith) (omega arith) a.accepted (task_id t) is e

    last_on : is_in Sending x || is_in Receiving x ≡ true → LastOn codes (task_id t) x
    last_on e =
        let b = blocked e in
        record {
          task_low = low;
          task = omega (arith, counted, (fits (programs p) a.accepted).few, tasks_of_lem p);
          place_low = b.place_low;
          place = b.place;
          channel = omega (arith, last_operand b.place_low, within_high 1 128 (last_in (task_program rig (task_id t)) x).operand b.channel);
        }

    -- the task that it depends on
    depends_is : depends_in codes (senders_of users) (receivers_of users) (task_id t) x ≡ depends_on rig (task_id t)
    unfolding depends_in depends_on
    depends_is = go (is_in Sending x) (is_in Receiving x) refl refl
      where
        c : ℕ
        c = (last_in (task_program rig (task_id t)) x).operand

        senders : senders_of users ≡ (ends_of rig.plan).senders
        senders = ap (λ (f : Facts). f.senders) a.derived ∙ ap (λ (z : Plan). (ends_of z).senders) (sym plan)

        receivers : receivers_of users ≡ (ends_of rig.plan).receivers
        receivers = ap (λ (f : Facts). f.receivers) a.derived ∙ ap (λ (z : Plan). (ends_of z).receivers) (sym plan)

        go : (s r : Bool) → is_in Sending x ≡ s → is_in Receiving x ≡ r
            → pick s (named_in (receivers_of users) (instruction_in codes (task_id t) (x.pc - 1)).operand)
            (pick r (named_in (senders_of users) (instruction_in codes (task_id t) (x.pc - 1)).operand) (task_id (lowest 64 x.children)))
            ≡ pick s (receiver_of (meaning rig) (channel_id c)) (pick r (sender_of (meaning rig) (channel_id c)) (task_id (lowest 64 x.children)))
        go true r e f =
            let b = blocked (rw e refl) in
            ap (named_in (receivers_of users)) (last_operand b.place_low) ∙ ap (λ (rs : List ℕ). named_in rs c) receivers
            ∙ receiver_named rig.plan (channel_id c) (within_high 1 128 c b.channel)
        go false true e f =
            let b = blocked (rw f (or-true (is_in Sending x))) in
            ap (named_in (senders_of users)) (last_operand b.place_low) ∙ ap (λ (rs : List ℕ). named_in rs c) senders
            ∙ sender_named rig.plan (channel_id c) (within_high 1 128 c b.channel)
        go false false e f = refl

    -- its line
    line_is : stuck_line_in codes (senders_of users) (receivers_of users) rig.tasks t ≡ map stuck_line (stuck_at rig (task_id t))
    unfolding stuck_at
    line_is = go (is_stuck x)
      where
        go : (b : Bool) → pick b (stuck_line (record { task = task_id t; on = depends_in codes (senders_of users) (receivers_of users) (task_id t) x }) ∷ []) []
            ≡ map stuck_line (pick b (record { task = task_id t; on = depends_on rig (task_id t) } ∷ []) [])
        go true = rw depends_is refl
        go false = refl

  -- what the lines suppose
  pub all_dependent : AllDependent codes (tasks_of l) count
  all_dependent t low high = rw a.tasks (last_on t low high)

  -- all lines
  verdict_is : finishes_in rig.tasks count ≡ verdict rig
  unfolding finishes_in verdict
  verdict_is = rw tasks_there refl

  list_is : stuck_lines_in codes (senders_of users) (receivers_of users) rig.tasks count ≡ map stuck_line (stuck_list rig)
  unfolding stuck_lines_in stuck_list
  list_is =
      fold_same ◌++◌ [] count (λ k. stuck_line_in codes (senders_of users) (receivers_of users) rig.tasks (suc k)) (λ k. map stuck_line (stuck_at rig (task_id (suc k))))
      (λ k few. line_is (suc k) (omega arith) (omega arith))
      ∙ ap (λ (n : ℕ). joined n (λ k. map stuck_line (stuck_at rig (task_id (suc k))))) tasks_there
      ∙ sym (map_joined stuck_line rig.plan.tasks (λ k. stuck_at rig (task_id (suc k))))

  pub lines_are : lines_in codes (senders_of users) (receivers_of users) (tasks_of l) count work ≡ lines_after 1 p ss
  unfolding finish_lines
  lines_are = rw (a.tasks, a.number, verdict_is, list_is) refl
