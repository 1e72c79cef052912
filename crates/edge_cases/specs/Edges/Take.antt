-- Take at the edges of its questions: 10, 8 or 11, and 6.
use Rattle.std.specs.Prelude.{[], ◌∷◌, pos, neg_ℤ}
use Rattle.sections.specs.Chess.{chess}
use Rattle.sections.specs.Bridge.{bridge}
use Rattle.house_rules.specs.declared.colour.Colour.TheVariants.{White}
use Rattle.house_rules.specs.declared.station.Station.{Station}
use Rattle.house_rules.specs.Calls.EveryCall.{nothing}
use Rattle.edge_cases.specs.Calls.{take_slip}
use Rattle.edge_cases.specs.Houses.{BoxHouse, three, counting, closed, given_station, given_figure, given_tray, given_late, with_deficit, red_with_deficit, red, slip, white_slip, red_slip}
use Rattle.edge_cases.specs.Said.{Grants, Refuses, GrantsBy, RefusesBy}

-- the slip 0.1 is under way to station 1, which is so
abbrev pub under_way_to : Station → BoxHouse
under_way_to t = given_station 1 t (given_tray (white_slip 1 ∷ []) three)

-- while a count is open its receiver has turned, so that the slip is late
abbrev pub late_to : Station → BoxHouse
late_to t = counting (under_way_to t)

-- two late slips so far, in three cells; and three
abbrev pub two_late : BoxHouse → BoxHouse
two_late x = given_late (white_slip 7 ∷ white_slip 8 ∷ []) x

abbrev pub full_late : BoxHouse → BoxHouse
full_late x = given_late (white_slip 7 ∷ white_slip 8 ∷ white_slip 9 ∷ []) x

pub record TakeEdges : Type 0 where
  pub slip_that_is_there_is_granted : Grants (given_tray (white_slip 1 ∷ []) three) (take_slip 0 1) nothing
  pub while_counting_is_granted : Grants (counting (given_tray (white_slip 1 ∷ []) three)) (take_slip 0 1) nothing
  pub while_closed_is_granted : Grants (closed (given_tray (white_slip 1 ∷ []) three)) (take_slip 0 1) nothing
  pub second_of_two_slips_is_granted : Grants (given_tray (white_slip 1 ∷ white_slip 2 ∷ []) three) (take_slip 0 2) nothing
  pub no_slip_of_that_number_is_number_10 : Refuses (given_tray (white_slip 1 ∷ []) three) (take_slip 0 2) 10
  pub no_slip_of_that_sender_is_number_10 : Refuses (given_tray (white_slip 1 ∷ []) three) (take_slip 1 1) 10
  pub empty_tray_is_number_10 : Refuses three (take_slip 0 1) 10
  -- the deficit that is asked for is one less than the present one
  pub deficit_−30000_is_granted : Grants (under_way_to (with_deficit (neg_ℤ (pos 29999)))) (take_slip 0 1) nothing
  pub deficit_−30001_is_number_8 : Refuses (under_way_to (with_deficit (neg_ℤ (pos 30000)))) (take_slip 0 1) 8
  pub deficit_30000_is_granted : Grants (under_way_to (with_deficit (pos 30001))) (take_slip 0 1) nothing
  pub deficit_30001_is_number_8 : Refuses (under_way_to (with_deficit (pos 30002))) (take_slip 0 1) 8
  -- it is asked too of a slip of the receiver's colour while a count is open, and of any slip while none is, closed or not
  pub deficit_−30001_in_the_same_colour_is_number_8 : Refuses (counting (given_station 1 (red_with_deficit (neg_ℤ (pos 30000))) (given_tray (red_slip 1 ∷ []) three))) (take_slip 0 1) 8
  pub deficit_−30001_between_counts_is_number_8 : Refuses (under_way_to (red_with_deficit (neg_ℤ (pos 30000)))) (take_slip 0 1) 8
  pub deficit_−30001_before_its_turn_between_counts_is_number_8 : Refuses (given_station 1 (with_deficit (neg_ℤ (pos 30000))) (given_tray (red_slip 1 ∷ []) three)) (take_slip 0 1) 8
  pub deficit_−30001_while_closed_is_number_8 : Refuses (closed (given_station 1 (with_deficit (neg_ℤ (pos 30000))) (given_tray (red_slip 1 ∷ []) three))) (take_slip 0 1) 8
  -- where the receiver turns first its deficit restarts at 0, and a late slip leaves it
  pub any_deficit_where_the_receiver_turns_is_granted : Grants (counting (given_station 1 (with_deficit (neg_ℤ (pos 30000))) (given_tray (red_slip 1 ∷ []) three))) (take_slip 0 1) nothing
  pub any_deficit_where_the_slip_is_late_is_granted : Grants (late_to (red_with_deficit (neg_ℤ (pos 30000)))) (take_slip 0 1) nothing
  pub last_late_cell_is_granted : Grants (two_late (late_to red)) (take_slip 0 1) nothing
  pub full_late_list_is_number_11 : Refuses (full_late (late_to red)) (take_slip 0 1) 11
  pub full_late_list_and_the_same_colour_is_granted : Grants (full_late (counting (given_station 1 red (given_tray (red_slip 1 ∷ []) three)))) (take_slip 0 1) nothing
  pub full_late_list_between_counts_is_granted : Grants (full_late (under_way_to red)) (take_slip 0 1) nothing
  pub full_late_list_while_closed_is_granted : Grants (full_late (closed (under_way_to red))) (take_slip 0 1) nothing
  pub chess_figure_20000_is_granted : GrantsBy chess (given_figure 1 0 (pos 19998) (given_tray (white_slip 1 ∷ []) three)) (take_slip 0 1) nothing
  pub chess_figure_20001_is_cause_2 : RefusesBy chess (given_figure 1 0 (pos 19999) (given_tray (white_slip 1 ∷ []) three)) (take_slip 0 1) 2 0
  pub chess_amount_−1_is_cause_3 : RefusesBy chess (given_tray (slip 0 1 5 (neg_ℤ (pos 1)) White ∷ []) three) (take_slip 0 1) 3 5
  pub chess_line_32_is_cause_9 : RefusesBy chess (given_tray (slip 0 1 32 (pos 2) White ∷ []) three) (take_slip 0 1) 9 32
  pub bridge_figure_−20000_is_granted : GrantsBy bridge (given_figure 1 5 (neg_ℤ (pos 19999)) (given_tray (slip 0 1 5 (neg_ℤ (pos 1)) White ∷ []) three)) (take_slip 0 1) nothing
  pub bridge_figure_−20001_is_cause_2 : RefusesBy bridge (given_figure 1 5 (neg_ℤ (pos 20000)) (given_tray (slip 0 1 5 (neg_ℤ (pos 1)) White ∷ []) three)) (take_slip 0 1) 2 5
  pub bridge_amount_0_is_cause_3 : RefusesBy bridge (given_tray (slip 0 1 5 (pos 0) White ∷ []) three) (take_slip 0 1) 3 5
  pub bridge_line_32_is_cause_9 : RefusesBy bridge (given_tray (slip 0 1 32 (pos 2) White ∷ []) three) (take_slip 0 1) 9 32
  -- two questions answered no: the first is told
  pub deficit_before_the_section : Refuses (given_figure 1 0 (pos 20000) (under_way_to (with_deficit (neg_ℤ (pos 30000))))) (take_slip 0 1) 8
  pub late_cell_before_the_section : Refuses (given_figure 1 0 (pos 20000) (full_late (late_to red))) (take_slip 0 1) 11
