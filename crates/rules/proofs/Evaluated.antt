-- The definitions that an evaluation opens, under one name.
use Prim.{Unit, tt}
use Rattle.plan.proofs.WriteEdges.{same_bytes}
use Rattle.base.specs.Lists.{every, every_pair, any, count, table_before, table}
use Rattle.base.specs.Range.{fold}
use Rattle.base.specs.Sets.{member, inserted, removed, removed_all, set_of, size}
use Rattle.plan.specs.Files.{layout_ok, file_programs, file_answer, start_answer}
use Rattle.plan.specs.Layout.{layout}
use Rattle.plan.specs.Outcomes.{plan_read, write_answer, write_output, start_number}
use Rattle.plan.specs.Programs.{programs, canonical}
use Rattle.plan.specs.Refusals.{sizes_ok, operand_ok, instructions_ok, finish_ok, finishes_ok, creates_ok, channels_ok, structure_answer, plan_answer}
use Rattle.plan.specs.Users.{users}
use Rattle.plan.specs.Words.{level_of, with_level, set_word, add_word}
use Rattle.rules.specs.Arrivals.{terminated_rule, taken_over, arrival}
use Rattle.rules.specs.Calls.{call_rule, data_rule}
use Rattle.rules.specs.Cells.{larger, first_noted}
use Rattle.rules.specs.Deliver.{got_terminated, got_migration, opened, delivered, deliver_answer}
use Rattle.rules.specs.Dispatch.{addressee, earliest, first_from, next_ready, delivery_turn, choice, run_turn, ruled_dispatch, dispatched, step_of, report_of}
use Rattle.rules.specs.Effects.{completed, site_at, with_outcome, for_cells, for_channels}
use Rattle.rules.specs.Finish.{verdict, lowest, depends_on, stuck_at, stuck_list, verdict_line, stuck_line, finish_lines}
use Rattle.rules.specs.Hints.{newer}
use Rattle.rules.specs.Local.{sync_rule, finish_rule}
use Rattle.rules.specs.Moves.{moved, move_answer}
use Rattle.rules.specs.Networks.{messages, message_at, enqueued, enqueued_all, dequeued, messages_of}
use Rattle.rules.specs.Offers.{offer_rule, advert_rule}
use Rattle.rules.specs.Panel.{panel_steps, answering, panel}
use Rattle.rules.specs.Views.{tablet_of, driver_of}
use Rattle.rules.specs.Places.{next_in, last_in, is_on, send_number}
use Rattle.rules.specs.Receive.{receive_passes, receive_waits, receive_rule}
use Rattle.rules.specs.Runs.{ran_create, ran_finish, ran_send, ran_receive, executed, ran, fits, run_answer}
use Rattle.rules.proofs.Scripts.{same_bool, lines_hold, start_on, history_holds}
use Rattle.rules.specs.Send.{send_passes, send_waits, send_rule}
use Rattle.rules.specs.Sound.{tables_ok, channel_entries_ok, message_ok, network_ok, unborn_ok, born_ok, task_ok, origin_ok, parents_ok, ready_ok, chosen_ok, system_ok}
use Rattle.rules.proofs.Sites.{plain}
use Rattle.rules.specs.Starts.{birth, blank, started}
use Rattle.rules.specs.StepFiles.{file_steps, start_of, trace_lines, text, steps_ok, run_file_answer, fitting, run_file_text, run_file_output, printed}
use Rattle.rules.specs.Steps.{well_formed, kind_answer, ruled_answer, step_answer, performed, answered, step, ruled_step, quiescent, steps_by, word_on, received_on}
use Rattle.rules.specs.Systems.{task_in, ready_then, ready_sets, task_stored, with_task, with_cell, channel_at, entry_at, parent_at, with_parent}
use Rattle.rules.specs.Tasks.{woken}
use Rattle.rules.specs.Trace.{digits, fields, step_line, over_line, over_lines, end_line, step_lines, refused_line}

unfoldable pub evaluated : Unit {0}
unfolding same_bytes every every_pair any count table_before table fold member inserted removed removed_all set_of layout_ok file_programs file_answer start_answer layout plan_read write_answer write_output start_number programs canonical sizes_ok operand_ok instructions_ok finish_ok finishes_ok creates_ok structure_answer plan_answer users level_of with_level set_word add_word terminated_rule taken_over arrival call_rule data_rule newer larger first_noted got_terminated got_migration opened delivered deliver_answer completed site_at with_outcome for_cells for_channels sync_rule finish_rule moved move_answer messages message_at enqueued enqueued_all dequeued messages_of offer_rule advert_rule next_in last_in is_on send_number receive_passes receive_waits receive_rule ran_create ran_finish ran_send ran_receive executed ran fits run_answer same_bool lines_hold start_on history_holds send_passes send_waits send_rule tables_ok message_ok network_ok unborn_ok born_ok task_ok origin_ok parents_ok ready_ok chosen_ok system_ok birth blank started file_steps start_of trace_lines text steps_ok run_file_answer fitting run_file_text run_file_output printed well_formed kind_answer ruled_answer step_answer performed answered step ruled_step quiescent steps_by word_on received_on task_in ready_then ready_sets task_stored with_task entry_at channel_at with_cell parent_at with_parent woken digits fields step_line over_line over_lines end_line step_lines refused_line channel_entries_ok channels_ok plain addressee earliest first_from next_ready delivery_turn choice run_turn ruled_dispatch dispatched step_of report_of panel_steps answering panel tablet_of driver_of size verdict lowest depends_on stuck_at stuck_list verdict_line stuck_line finish_lines
evaluated = tt
