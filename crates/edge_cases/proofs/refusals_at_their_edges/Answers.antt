use Rattle.std.proofs.Common.{refl}
use Rattle.std.specs.Fmt.{digits}
use Rattle.house_rules.specs.Calls.Gather.{sums}
use Rattle.common.specs.TextLines.{score_lines}
use Rattle.house_rules.specs.Calls.CountText.{sheet_lines, record_lines, slip_lines}
use Rattle.edge_cases.proofs.refusals_at_their_edges.Goals as goal

pub returns : goal.returns
unfolding digits sums sheet_lines record_lines slip_lines score_lines
returns c =
    record {
      make = record { stations_0_is_number_1 = refl; stations_1_is_granted = refl; stations_64_is_granted = refl; stations_65_is_number_1 = refl; one_sheet_short_is_number_2 = refl; sheets_and_record_of_three_is_granted = refl; one_sheet_more_is_number_2 = refl; record_one_short_is_number_2 = refl; record_one_more_is_number_2 = refl; no_tray_cell_is_number_3 = refl; no_late_cell_is_number_3 = refl; one_cell_each_is_granted = refl; cells_4096_each_is_granted = refl; tray_cells_4097_is_number_3 = refl; late_cells_4097_is_number_3 = refl; nothing_outstanding_is_granted = refl; one_outstanding_is_number_24 = refl; stations_before_sheets = refl; sheets_before_cells = refl; cells_before_the_method = refl };
      enter = record { while_counting_is_granted = refl; while_closed_is_granted = refl; last_station_is_granted = refl; no_such_station_is_number_4 = refl; first_line_31_is_granted = refl; first_line_32_is_number_5 = refl; second_line_31_is_granted = refl; second_line_32_is_number_5 = refl; equal_lines_is_number_5 = refl; chess_result_3_is_granted = refl; chess_result_4_is_cause_1 = refl; chess_figure_20000_is_granted = refl; chess_figure_20001_is_cause_2 = refl; chess_figure_20001_of_the_second_line_is_cause_2 = refl; bridge_difference_15000_is_granted = refl; bridge_difference_15010_is_cause_1 = refl; bridge_difference_15_is_cause_1 = refl; bridge_figure_20000_is_granted = refl; bridge_figure_20001_is_cause_2 = refl; bridge_figure_−20001_of_the_second_line_is_cause_2 = refl; station_before_lines = refl; lines_before_the_section = refl };
      post = record { while_counting_is_granted = refl; while_closed_is_granted = refl; last_sender_is_granted = refl; no_such_sender_is_number_4 = refl; last_receiver_is_granted = refl; no_such_receiver_is_number_4 = refl; to_itself_is_granted = refl; line_31_is_granted = refl; line_32_is_number_5 = refl; post_number_1000000_is_granted = refl; after_post_number_1000000_is_number_7 = refl; deficit_30000_is_granted = refl; deficit_30001_is_number_8 = refl; deficit_−30000_is_granted = refl; deficit_−30001_is_number_8 = refl; last_tray_cell_is_granted = refl; full_tray_is_number_9 = refl; chess_amount_0_is_cause_3 = refl; chess_amount_1000_is_granted = refl; chess_amount_1001_is_cause_3 = refl; chess_amount_above_the_figure_is_cause_4 = refl; bridge_amount_above_the_figure_is_granted = refl; bridge_amount_0_is_cause_3 = refl; bridge_amount_−1000_is_granted = refl; bridge_amount_−1001_is_cause_3 = refl; bridge_figure_−20000_is_granted = refl; bridge_figure_−20001_is_cause_2 = refl; stations_before_line = refl; line_before_posts = refl; posts_before_deficit = refl; deficit_before_tray = refl; tray_before_the_section = refl };
      take = record { slip_that_is_there_is_granted = refl; while_counting_is_granted = refl; while_closed_is_granted = refl; second_of_two_slips_is_granted = refl; no_slip_of_that_number_is_number_10 = refl; no_slip_of_that_sender_is_number_10 = refl; empty_tray_is_number_10 = refl; deficit_−30000_is_granted = refl; deficit_−30001_is_number_8 = refl; deficit_30000_is_granted = refl; deficit_30001_is_number_8 = refl; deficit_−30001_in_the_same_colour_is_number_8 = refl; deficit_−30001_between_counts_is_number_8 = refl; deficit_−30001_before_its_turn_between_counts_is_number_8 = refl; deficit_−30001_while_closed_is_number_8 = refl; any_deficit_where_the_receiver_turns_is_granted = refl; any_deficit_where_the_slip_is_late_is_granted = refl; last_late_cell_is_granted = refl; full_late_list_is_number_11 = refl; full_late_list_and_the_same_colour_is_granted = refl; full_late_list_between_counts_is_granted = refl; full_late_list_while_closed_is_granted = refl; chess_figure_20000_is_granted = refl; chess_figure_20001_is_cause_2 = refl; chess_amount_−1_is_cause_3 = refl; chess_line_32_is_cause_9 = refl; bridge_figure_−20000_is_granted = refl; bridge_figure_−20001_is_cause_2 = refl; bridge_amount_0_is_cause_3 = refl; bridge_line_32_is_cause_9 = refl; deficit_before_the_section = refl; late_cell_before_the_section = refl };
      opens = record { last_station_is_granted = refl; no_such_station_is_number_4 = refl; counting_already_is_number_12 = refl; closed_and_not_filed_is_number_12 = refl; turned_in_the_count_before_is_granted = refl; what_a_count_left_is_cleared = refl; station_before_phase = refl };
      turn = record { last_station_is_granted = refl; no_such_station_is_number_4 = refl; not_counting_is_number_13 = refl; closed_already_is_number_13 = refl; turned_already_is_number_14 = refl; another_has_turned_is_granted = refl; station_before_phase = refl; phase_before_turned = refl };
      gather = record { last_station_is_granted = refl; no_such_station_is_number_4 = refl; not_counting_is_number_13 = refl; closed_already_is_number_13 = refl; not_turned_is_number_15 = refl; turned_is_granted = refl; gathered_already_is_number_16 = refl; both_children_gathered_is_granted = refl; left_child_not_gathered_is_number_17 = refl; right_child_not_gathered_is_number_17 = refl; no_right_child_is_granted = refl; no_child_is_granted = refl; sum_of_three_is_granted = refl; sum_−1_below_the_root_is_granted = refl; sum_of_64_stations_is_granted = refl; sum_8192_is_granted = refl; sum_8193_is_number_23 = refl; sum_−1_is_number_23 = refl; stations_64_is_granted = refl; stations_65_is_number_23 = refl; one_outstanding_is_number_24 = refl; one_outstanding_below_the_root_is_granted = refl; station_before_phase = refl; phase_before_turned = refl; turned_before_gathered = refl; gathered_before_children = refl; children_before_the_method = refl; sum_before_outstanding = refl };
      report = record { last_station_is_granted = refl; no_such_station_is_number_4 = refl; not_counting_is_number_13 = refl; closed_already_is_number_13 = refl; root_not_gathered_is_number_18 = refl; nothing_to_report_is_number_19 = refl; nothing_to_report_at_another_is_number_19 = refl; station_that_is_counted_is_granted = refl; station_that_is_not_counted_is_number_25 = refl; nothing_outstanding_is_number_26 = refl; station_before_phase = refl; phase_before_root = refl; root_before_slips = refl; slips_before_the_method = refl; counted_before_outstanding = refl };
      close = record { nothing_outstanding_is_granted = refl; one_outstanding_is_number_20 = refl; root_not_gathered_is_number_18 = refl; not_counting_is_number_13 = refl; closed_already_is_number_13 = refl; phase_before_root = refl; root_before_outstanding = refl };
      file = record { receipt_of_this_count_is_granted = refl; receipt_with_one_late_slip_more_is_number_21 = refl; receipt_with_one_late_slip_less_is_number_21 = refl; ready_already_is_number_21 = refl; still_counting_is_number_21 = refl; text_of_the_exact_length_is_granted = refl; text_one_byte_short_is_number_22 = refl; no_late_slip_and_4_bytes_is_granted = refl; no_late_slip_and_3_bytes_is_number_22 = refl; receipt_before_text = refl };
    }
