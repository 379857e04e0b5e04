-- What is claimed of plans with repeats, used: the example's file is accepted, so the claim is about it; its machine goes through the run, and three
-- words pass, each one more than the one before. The file without repeats is written as it is.
use mathlib.Core.Path.{◌≡◌, refl}
use mathlib.Core.Bool.{true}
use mathlib.Core.List.{[], ◌∷◌}
use Rattle.std.specs.Prelude.{Ok}
use Rattle.base.specs.Range.{fold}
use Rattle.base.specs.Lists.{every, any, table, table_before}
use Rattle.base.specs.Updates.{updated}
use Rattle.plan.specs.Layout.{layout}
use Rattle.plan.specs.Numbers.{channel_id}
use Rattle.plan.specs.Words.{level_of, with_level, set_word, add_word}
use Rattle.plan.specs.Users.{users}
use Rattle.plan.specs.Refusals.{sizes_ok, operand_ok, instructions_ok, finish_ok, finishes_ok, creates_ok, channels_ok, structure_answer, plan_answer}
use Rattle.plan.specs.Files.{layout_ok, file_programs}
use Rattle.plan.specs.Repeats.{times, body_of, written_from}
use Rattle.plan.specs.RepeatPlaces.{behind_repeat, go_on}
use Rattle.plan.specs.RepeatRefusals.{new_instruction_ok, new_instructions_ok, paired_from, creates_from, paired_ok, repeated_ok, lengths_ok, repeats_answer}
use Rattle.plan.specs.Conversions.{converted_file}
use Rattle.plan.proofs.Edges.{word_of}
use Rattle.plan_laws.proofs.ReadLayout.{read_layout}
use Rattle.plan_laws.proofs.LayoutBytes.{layout_bytes}
use Rattle.repeat_laws.specs.Plain.{without_repeats}
use Rattle.net.specs.States.{start_net}
use Rattle.net.specs.Guards.{program_for, is_complete, is_active, next_of, stands_at, children_complete, is_free, enabled}
use Rattle.net.specs.Effects.{born_after, word_after, overflow_after, after_own, after_pass, effect}
use Rattle.repeats.specs.Machine.{start_repeated, repeat_effect}
use Rattle.claim.specs.Repeats.{RepeatsWritten, AsItIs}
use Rattle.claim.proofs.Repeats.{repeats_written, plain_as_it_is}
use Rattle.examples.specs.Repeats.{repeat_programs, repeat_file, plain_programs, plain_file, repeat_labels, after, taken}

accepted : repeats_answer repeat_file ≡ Ok tt
unfolding fold every any table table_before layout layout_ok file_programs users operand_ok finish_ok finishes_ok creates_ok channels_ok structure_answer times body_of written_from new_instruction_ok new_instructions_ok paired_from creates_from paired_ok repeated_ok lengths_ok repeats_answer
accepted = refl

pub repeat_example : RepeatsWritten repeat_file
repeat_example = repeats_written repeat_file accepted

all_taken : taken repeat_programs start_repeated repeat_labels ≡ true
unfolding fold every any table table_before updated level_of with_level set_word add_word users behind_repeat go_on start_net program_for is_complete is_active next_of stands_at children_complete is_free enabled born_after word_after overflow_after after_own after_pass effect start_repeated repeat_effect taken
all_taken = refl

words : (after repeat_programs start_repeated repeat_labels).net.passed (channel_id 3) ≡ word_of 7 ∷ word_of 8 ∷ word_of 9 ∷ []
unfolding fold every any table table_before updated level_of with_level set_word add_word users behind_repeat go_on start_net program_for is_complete is_active next_of stands_at children_complete is_free enabled born_after word_after overflow_after after_own after_pass effect start_repeated repeat_effect after
words = refl

fine : plan_answer plain_programs ≡ Ok tt
unfolding fold every any table table_before users sizes_ok operand_ok instructions_ok finish_ok finishes_ok creates_ok channels_ok structure_answer plan_answer
fine = refl

plain : without_repeats (file_programs plain_file) ≡ true
unfolding fold every table table_before layout file_programs
plain = refl

pub plain_example : AsItIs plain_file
plain_example = plain_as_it_is plain_file (layout_bytes plain_programs fine) plain

same_file : converted_file plain_file ≡ plain_file
same_file = plain_example.file (read_layout plain_programs fine).0
