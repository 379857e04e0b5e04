-- A plan on level 0 leaves levels 1 to 3 of every word 0: a property that its sets and adds keep.
use mathlib.Core.Path.{◌≡◌, refl, ◌∙◌}
use mathlib.Core.Bool.{Bool, true}
use mathlib.Core.List.{List, [], ◌∷◌}
use lib.Dec.{leb}
use borrow.Author.Tests.{eqb-true}
use Rattle.std.specs.Prelude.{None, Some}
use Rattle.base.specs.Lists.{every}
use Rattle.base.proofs.Choices.{pick_either}
use Rattle.base.proofs.Tests.{and_left, and_right, and_both, every_at, every_append}
use Rattle.plan.specs.declared.ChannelId.{ChannelId}
use Rattle.plan.specs.declared.Instruction.{Instruction}
use Rattle.plan.specs.declared.Word.{Word as WordOf}
use Rattle.plan.specs.Kinds.{no_instruction}
use Rattle.plan.specs.Numbers.{same_channel}
use Rattle.plan.specs.Programs.{Programs, program_at, programs}
use Rattle.plan.specs.Words.{with_level, set_word, add_word}
use Rattle.rules.specs.Reports.{Received}
use Rattle.rules.specs.declared.step.Report.{Report}
use Rattle.rules.specs.Steps.{word_on, received_on}
use Rattle.rules_sound.specs.Words.{Keeps, KeptBy, message_good, received_good, report_good}
use Rattle.rules_sound.proofs.Words.Systems.{task_good_lem, message_there}
use Rattle.rules_sound.proofs.Words.Steps.{words_good}
use Rattle.claim.specs.Statement.{from}
use Rattle.claim.specs.OldPlans.{is_old, on_level0, OldPlansOnLevel0}

-- another number on level 0
level_keeps : (i : Instruction) → i.level ≡ 0 → Keeps on_level0 i
unfolding set_word add_word with_level
level_keeps i e = record { set = λ w h. rw e h; add = λ w h. rw e h }

old_keeps : (m : Programs) → is_old m ≡ true → KeptBy on_level0 m
old_keeps m h =
    record {
      birth = refl;
      instructions = λ k l i j. level_keeps _ (eqb-true _ 0 (every_at _ (program_at m k) i no_instruction j (every_at _ m k [] l h)));
    }

-- what is received, on any channel or on one
module _ (good : WordOf → Bool) (c : ChannelId) where
  word_good : (q : Received) → received_good good q ≡ true → every good (word_on c q) ≡ true
  unfolding received_good word_on every
  word_good None h = refl
  word_good (Some (e, w)) h =
      pick_either (λ (ws : List WordOf). every good ws ≡ true) (same_channel e c) (w ∷ []) [] (rw (and_right (leb e.0 128) (good w) h) refl) refl

  pub received_good_lem : (qs : List Report) → every (report_good good) qs ≡ true → every good (received_on c qs) ≡ true
  unfolding received_on every
  received_good_lem [] h = refl
  received_good_lem (q ∷ qs) h =
      every_append good (word_on c q.received) (received_on c qs)
      ∙ and_both _ _ (word_good q.received (and_left _ (every (report_good good) qs) h)) (received_good_lem qs (and_right (report_good good q) _ h))

pub old_plans : OldPlansOnLevel0
unfolding message_good
old_plans n p ss some few accepted old =
    let all = words_good n p ss some few accepted (old_keeps (programs p) old) in
    let q = (from n p ss).system in
    record {
      tasks = task_good_lem q all.system;
      messages = λ k c d w e. rw e at (message_there q all.system k);
      received = λ c. received_good_lem on_level0 c (from n p ss).reports all.reports;
    }
