-- Enter at the edges of its questions: 4, 5 and 6.
use Rattle.std.specs.Prelude.{pos, neg_ℤ}
use Rattle.sections.specs.Chess.{chess}
use Rattle.sections.specs.Bridge.{bridge}
use Rattle.house_rules.specs.Calls.EveryCall.{nothing}
use Rattle.edge_cases.specs.Calls.{enter_at}
use Rattle.edge_cases.specs.Houses.{three, counting, closed, given_figure}
use Rattle.edge_cases.specs.Said.{Grants, Refuses, GrantsBy, RefusesBy}

-- result 2 is a win of the first line, which gains 2 half points
pub record EnterEdges : Type 0 where
  pub while_counting_is_granted : Grants (counting three) (enter_at 0 0 1 (pos 2)) nothing
  pub while_closed_is_granted : Grants (closed three) (enter_at 0 0 1 (pos 2)) nothing
  pub last_station_is_granted : Grants three (enter_at 2 0 1 (pos 2)) nothing
  pub no_such_station_is_number_4 : Refuses three (enter_at 3 0 1 (pos 2)) 4
  pub first_line_31_is_granted : Grants three (enter_at 0 31 0 (pos 2)) nothing
  pub first_line_32_is_number_5 : Refuses three (enter_at 0 32 0 (pos 2)) 5
  pub second_line_31_is_granted : Grants three (enter_at 0 0 31 (pos 2)) nothing
  pub second_line_32_is_number_5 : Refuses three (enter_at 0 0 32 (pos 2)) 5
  pub equal_lines_is_number_5 : Refuses three (enter_at 0 7 7 (pos 2)) 5
  pub chess_result_3_is_granted : GrantsBy chess three (enter_at 0 5 6 (pos 3)) nothing
  pub chess_result_4_is_cause_1 : RefusesBy chess three (enter_at 0 5 6 (pos 4)) 1 5
  pub chess_figure_20000_is_granted : GrantsBy chess (given_figure 0 5 (pos 19998) three) (enter_at 0 5 6 (pos 2)) nothing
  pub chess_figure_20001_is_cause_2 : RefusesBy chess (given_figure 0 5 (pos 19999) three) (enter_at 0 5 6 (pos 2)) 2 5
  pub chess_figure_20001_of_the_second_line_is_cause_2 : RefusesBy chess (given_figure 0 6 (pos 19999) three) (enter_at 0 5 6 (pos 0)) 2 6
  pub bridge_difference_15000_is_granted : GrantsBy bridge three (enter_at 0 5 6 (pos 15000)) nothing
  pub bridge_difference_15010_is_cause_1 : RefusesBy bridge three (enter_at 0 5 6 (pos 15010)) 1 5
  pub bridge_difference_15_is_cause_1 : RefusesBy bridge three (enter_at 0 5 6 (pos 15)) 1 5
  -- 20 points are 1 IMP
  pub bridge_figure_20000_is_granted : GrantsBy bridge (given_figure 0 5 (pos 19999) three) (enter_at 0 5 6 (pos 20)) nothing
  pub bridge_figure_20001_is_cause_2 : RefusesBy bridge (given_figure 0 5 (pos 20000) three) (enter_at 0 5 6 (pos 20)) 2 5
  pub bridge_figure_−20001_of_the_second_line_is_cause_2 : RefusesBy bridge (given_figure 0 6 (neg_ℤ (pos 20000)) three) (enter_at 0 5 6 (pos 20)) 2 6
  -- two questions answered no: the first is told
  pub station_before_lines : Refuses three (enter_at 3 7 7 (pos 2)) 4
  pub lines_before_the_section : Refuses three (enter_at 0 7 7 (pos 4)) 5
