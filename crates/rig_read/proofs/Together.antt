-- All tests together: an opened image is one, of a rig that 9 does not refuse.
use mathlib.Core.Path.{◌≡◌, refl, sym, ap, ◌∙◌}
use mathlib.Core.Bool.{Bool, true, false, ◌&&◌}
use mathlib.Core.List.{List}
use Prim.Native.Nat.{ℕ, ◌+◌, ◌<◌, ◌≤◌}
use native.Mathlib.Omega.{arith}
use lib.Dec.{eqb}
use lib.ListN.{length, get_or}
use Rattle.std.specs.Prelude.{Ok}
use Rattle.base.specs.Choice.{within}
use Rattle.base.proofs.Tests.{and_false}
use Rattle.base.proofs.Folds.{fold_same}
use Rattle.base.proofs.Tables.{length_table}
use Rattle.plan.specs.declared.Plan.{Plan}
use Rattle.plan.specs.Answers.{is_accepted}
use Rattle.plan.specs.Programs.{programs}
use Rattle.plan.specs.Refusals.{plan_answer}
use Rattle.plan.specs.Files.{file_answer, file_programs}
use Rattle.plan.specs.Outcomes.{plan_read}
use Rattle.plan_laws.specs.Bytes.{Bytes}
use Rattle.plan_laws.proofs.Canonical.{meaning_canonical}
use Rattle.plan_laws.proofs.LayoutRead.{file_plan_lem}
use Rattle.rules.specs.declared.system.System.{System}
use Rattle.rules.specs.Tasks.{no_task}
use Rattle.rules.specs.Sound.{system_ok, tables_ok, channel_entries_ok, parents_ok, ready_ok, origin_ok, chosen_ok, network_ok}
use Rattle.rig_check.specs.tasks.Tests.{task_with}
use Rattle.rig_check.specs.system.Tasks.{last_kind, tasks_ok, origins_ok}
use Rattle.rig_check.proofs.system.EachTask.{record_ok, tasks_places, pointer_ok, origins_places, sizes_passed, few_tasks, short_program, record_with}
use Rattle.board.specs.declared.act.Size.{Size}
use Rattle.board.specs.Lent.{Lent, task_on, tasks_on, channels_on, parents_on, store_of}
use Rattle.board.proofs.Laws.{get_d_task}
use Rattle.image.specs.Numbers.{number_at, numbers_at}
use Rattle.image.specs.Image.{is_image, rig_of, plan_file, board_in, network_in}
use Rattle.image_laws.specs.Parts.{version_ok, zeros_behind, board_tidy, mail_tidy, image_parts, system_on}
use Rattle.image_laws.proofs.Parts.{rig_parts}
use Rattle.image_laws.proofs.Whole.{image_parts_lem}
use Rattle.rig_read.specs.Opened.{Opened}
use Rattle.rig_read.specs.Passing.{tasks_tidy, tasks_pass, board_passes, bytes_pass, mail_passes}
use Rattle.rig_read.proofs.Passing.{below_and, channels_tidy, channels_pass_lem, parents_tidy, parents_pass_lem}

regroup : (a b z ct tt1 pt mt d tk og tb ce pa rd cs nw : Bool)
    → (a && (b && (z && ((ct && (tt1 && pt)) && mt)))) && (d && (true && (tk && (og && (tb && (ce && (pa && (rd && (cs && nw)))))))))
    ≡ ((a && b) && z) && (((ct && ce) && (tt1 && ((pt && pa) && ((tk && og) && rd)))) && (tb && (d && (cs && (mt && nw)))))
regroup false b z ct tt1 pt mt d tk og tb ce pa rd cs nw = refl
regroup true false z ct tt1 pt mt d tk og tb ce pa rd cs nw = refl
regroup true true false ct tt1 pt mt d tk og tb ce pa rd cs nw = refl
regroup true true true false tt1 pt mt d tk og tb ce pa rd cs nw = simp and_false
regroup true true true true false pt mt d tk og tb ce pa rd cs nw = simp and_false
regroup true true true true true false mt d tk og tb ce pa rd cs nw = simp and_false
regroup true true true true true true false d tk og tb ce pa rd cs nw = simp and_false
regroup true true true true true true true false tk og tb ce pa rd cs nw = simp and_false
regroup true true true true true true true true false og tb ce pa rd cs nw = simp and_false
regroup true true true true true true true true true false tb ce pa rd cs nw = simp and_false
regroup true true true true true true true true true true false ce pa rd cs nw = simp and_false
regroup true true true true true true true true true true true false pa rd cs nw = refl
regroup true true true true true true true true true true true true false rd cs nw = refl
regroup true true true true true true true true true true true true true false cs nw = refl
regroup true true true true true true true true true true true true true true false nw = refl
regroup true true true true true true true true true true true true true true true false = refl
regroup true true true true true true true true true true true true true true true true = refl

-- the plan of a file that 2 to 6 do not refuse is not refused either
pub plan_passes : (f : List ℕ) → file_answer f ≡ Ok tt → is_accepted (plan_answer (programs (plan_read f).plan)) ≡ true
unfolding plan_read
plan_passes f e =
    let ok = file_plan_lem f e in
    rw e (rw (meaning_canonical (file_programs f) ok, ok) refl)

-- a rig of a plan that is not refused, with what is lent
module _ (n : ℕ) (p : Plan) (l : Lent) (b chosen : List ℕ) (ok : is_accepted (plan_answer (programs p)) ≡ true) where
  abbrev rig : System
  rig = system_on n p l (network_in b) chosen

  pub few : p.tasks ≤ 64
  few = few_tasks rig (sizes_passed (programs p) ok)

  pub short : (i : ℕ) → i < p.tasks → get_or p.lengths i 0 ≤ 64
  short i h = short_program rig (sizes_passed (programs p) ok) i h

  record_there : (i : ℕ) → i < p.tasks → task_on l.board i ≡ get_or rig.tasks.records i no_task
  unfolding tasks_on
  record_there i h = sym (get_d_task l.board i no_task (omega (arith, few)))

  pub tasks_pass_lem : tasks_pass p.lengths p.codes n p.tasks l.board ≡ tasks_ok rig && origins_ok rig
  unfolding tasks_pass
  tasks_pass_lem =
      let x = l.board in
      let q : ℕ → Bool = λ i. task_with n p.tasks (get_or p.lengths i 0) (last_kind p.lengths p.codes i (task_on x i).pc) (task_on x i) in
      let s : ℕ → Bool = λ i. origin_ok n (i + 1) (task_on x i) in
      below_and p.tasks q s
      ∙ rw (
        fold_same ◌&&◌ true p.tasks q (record_ok n p rig.tasks) (λ i h. rw (record_there i h) (record_with rig i)),
        fold_same ◌&&◌ true p.tasks s (pointer_ok n rig.tasks) (λ i h. rw (record_there i h) refl),
        tasks_places rig,
        origins_places rig,
      )
      refl

  -- the parts of an image whose board is this, and the parts of 9
  pub parts_pass : l.board ≡ board_in b
      → image_parts b && system_ok rig
      ≡ bytes_pass b
      && (board_passes p.lengths p.codes n p.tasks l.board
      && (tables_ok n (store_of l).tables && (within 1 6 n && (chosen_ok p.tasks chosen && mail_passes n p.tasks b))))
  unfolding image_parts board_tidy system_ok bytes_pass board_passes tasks_tidy
  parts_pass e =
      rw (← e, ok, channels_pass_lem n l.board, parents_pass_lem n p.tasks l.board, tasks_pass_lem)
      (regroup (version_ok b) (eqb (get_or b 13 0) 0) (zeros_behind (number_at 4 b 4) b) (channels_tidy n l.board) (tasks_tidy l.board) (parents_tidy n p.tasks l.board)
      (mail_tidy b) (within 1 6 n) (tasks_ok rig) (origins_ok rig) (tables_ok n (store_of l).tables) (channel_entries_ok n (channels_on l.board))
      (parents_ok n p.tasks (parents_on l.board)) (ready_ok p.tasks (tasks_on l.board)) (chosen_ok p.tasks chosen) (network_ok n p.tasks (network_in b)))

module _ {b lengths codes : List ℕ} {n : Size} {l : Lent} {chosen : List ℕ} (o : Opened b lengths codes n l chosen) where
  abbrev plan : Plan
  plan = (plan_read (plan_file b)).plan

  ok : is_accepted (plan_answer (programs plan)) ≡ true
  ok = plan_passes (plan_file b) o.plan

  rig_is : rig_of b ≡ system_on n.processors plan l (network_in b) chosen
  rig_is = rig_parts b ∙ rw (o.processors, o.parts, o.last) refl

  -- what is required of the programs
  pub few_opened : n.tasks ≤ 64
  few_opened = rw o.tasks (few n.processors plan l b chosen ok)

  pub short_opened : (i : ℕ) → i < n.tasks → get_or lengths i 0 ≤ 64
  short_opened i h = rw o.plan_lengths (short n.processors plan l b chosen ok i (rw o.tasks at h))

  pub tables_opened : (length l.hintprocessors ≡ 768) × (length l.hintmoves ≡ 768) × (length l.heldprocessors ≡ 768)
      × (length l.heldnumbers ≡ 768) × (length l.notes ≡ 768)
  unfolding numbers_at
  tables_opened = rw o.parts (length_table 768 _, length_table 768 _, length_table 768 _, length_table 768 _, length_table 768 _)

  pub together : Bytes b
      → is_image b && system_ok (rig_of b)
      ≡ bytes_pass b
      && (board_passes lengths codes n.processors n.tasks l.board
      && (tables_ok n.processors (store_of l).tables
      && (within 1 6 n.processors && (chosen_ok n.tasks chosen && mail_passes n.processors n.tasks b))))
  together bytes =
      rw (image_parts_lem b o.long bytes o.room o.plan, rig_is, o.plan_lengths, o.plan_codes, o.tasks)
      (parts_pass n.processors plan l b chosen ok (ap (λ (x : Lent). x.board) o.parts))

-- a test that is looked at where those before it pass
pub on_true : {v r a b t : Bool} → v ≡ r → r ≡ b → t ≡ true → t ≡ a → v ≡ a && b
on_true p q h e = p ∙ q ∙ rw (sym e ∙ h) refl

pub on_false : {v a t : Bool} (b : Bool) → v ≡ t → t ≡ false → t ≡ a → v ≡ a && b
on_false b p h e = p ∙ h ∙ rw (sym e ∙ h) refl

pub grouped : (b d t p c m : Bool) → ((((b && d) && t) && p) && c) && m ≡ b && (d && (t && (p && (c && m))))
grouped false d t p c m = refl
grouped true false t p c m = refl
grouped true true false p c m = refl
grouped true true true false c m = refl
grouped true true true true false m = refl
grouped true true true true true m = refl
