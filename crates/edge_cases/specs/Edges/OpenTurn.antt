-- Open and turn at the edges of their questions: 4 and 12; 4, 13 and 14.
use Rattle.std.specs.Prelude.{List, [], ◌∷◌, pos}
use Rattle.house_rules.specs.Calls.EveryCall.{Call, nothing, sum, receipt}
use Rattle.house_rules.specs.Theorem.Histories.{Response, refused_with, granted}
use Rattle.edge_cases.specs.Calls.{open_at, turn_at, gather_at, report_at, close_count}
use Rattle.edge_cases.specs.Houses.{BoxHouse, house_of, three, counting, closed, given_station, given_late, given_messages, red, red_and_gathered, reporting, white_slip}
use Rattle.edge_cases.specs.Said.{Grants, Refuses, SaysInTurn}

-- a house of two stations as a count leaves it: both marked, a slip that was not reported, a late slip and five messages
abbrev pub after_a_count : BoxHouse
after_a_count = given_messages 5 (given_late (white_slip 1 ∷ []) (given_station 0 (reporting 1) (given_station 1 red_and_gathered (house_of 2))))

-- a count in which nothing is under way; the root has nothing to report
abbrev pub empty_count : List Call
empty_count = open_at 0 ∷ turn_at 1 ∷ gather_at 1 ∷ gather_at 0 ∷ report_at 0 ∷ close_count ∷ []

abbrev pub empty_responses : List Response
empty_responses = granted nothing ∷ granted nothing ∷ granted (sum (pos 0)) ∷ granted (sum (pos 0)) ∷ refused_with (19, 0, 0) ∷ granted (receipt 0 0) ∷ []

pub record OpenEdges : Type 0 where
  pub last_station_is_granted : Grants three (open_at 2) nothing
  pub no_such_station_is_number_4 : Refuses three (open_at 3) 4
  pub counting_already_is_number_12 : Refuses (counting three) (open_at 0) 12
  pub closed_and_not_filed_is_number_12 : Refuses (closed three) (open_at 0) 12
  pub turned_in_the_count_before_is_granted : Grants (given_station 0 red three) (open_at 0) nothing
  pub what_a_count_left_is_cleared : SaysInTurn after_a_count empty_count empty_responses
  -- both questions answered no: the first is told
  pub station_before_phase : Refuses (counting three) (open_at 3) 4

pub record TurnEdges : Type 0 where
  pub last_station_is_granted : Grants (counting three) (turn_at 2) nothing
  pub no_such_station_is_number_4 : Refuses (counting three) (turn_at 3) 4
  pub not_counting_is_number_13 : Refuses three (turn_at 1) 13
  pub closed_already_is_number_13 : Refuses (closed three) (turn_at 1) 13
  pub turned_already_is_number_14 : Refuses (counting (given_station 1 red three)) (turn_at 1) 14
  pub another_has_turned_is_granted : Grants (counting (given_station 1 red three)) (turn_at 0) nothing
  -- two questions answered no: the first is told
  pub station_before_phase : Refuses three (turn_at 3) 4
  pub phase_before_turned : Refuses (given_station 1 red three) (turn_at 1) 13
