-- The samples hold, by computation.
use mathlib.Core.Path.{◌≡◌, refl}
use mathlib.Core.Bool.{true}
use Rattle.base.specs.Range.{fold}
use Rattle.base.specs.Lists.{every, any, table_before, table}
use Rattle.base.specs.Updates.{updated}
use Rattle.plan.specs.Words.{level_of, with_level, set_word, add_word}
use Rattle.plan.specs.Users.{users}
use Rattle.plan.specs.Refusals.{sizes_ok, operand_ok, instructions_ok, finish_ok, finishes_ok, creates_ok, channels_ok, structure_answer, plan_answer}
use Rattle.plan.specs.Files.{file_programs}
use Rattle.plan.proofs.WriteEdges.{same_bytes}
use Rattle.net.specs.States.{start_net}
use Rattle.net.specs.Guards.{program_for, is_complete, is_active, next_of, stands_at, children_complete, is_free, enabled}
use Rattle.net.specs.Effects.{born_after, word_after, overflow_after, after_own, after_pass, effect}
use Rattle.net.specs.Samples.{may_act, words_numbers, same_rows, ended, played, sample_holds, samples}

pub all_hold : every sample_holds samples ≡ true
unfolding fold every any table_before table updated level_of with_level set_word add_word users sizes_ok operand_ok instructions_ok finish_ok finishes_ok creates_ok channels_ok structure_answer plan_answer file_programs same_bytes start_net program_for is_complete is_active next_of stands_at children_complete is_free enabled born_after word_after overflow_after after_own after_pass effect may_act words_numbers same_rows ended played sample_holds samples
all_hold = refl
