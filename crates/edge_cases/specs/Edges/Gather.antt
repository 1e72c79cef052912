-- Gather at the edges of its questions: 4, 13, 15, 16 and 17, and at the root the method's 23 and 24.
use Rattle.std.specs.Prelude.{ℕ, true, false, ℤ, pos, neg_ℤ}
use Rattle.house_rules.specs.declared.station.Station.{Station}
use Rattle.house_rules.specs.State.Changes.{with_cells}
use Rattle.house_rules.specs.Calls.EveryCall.{sum}
use Rattle.edge_cases.specs.Calls.{gather_at}
use Rattle.edge_cases.specs.Houses.{BoxHouse, house_of, three, counting, closed, given_station, given_method, box, red, frozen_at, red_and_gathered, white_but_gathered}
use Rattle.edge_cases.specs.Said.{Grants, Refuses}

-- a count is open, and station s is so
abbrev pub open_with : (s : ℕ) → Station → BoxHouse
open_with s t = counting (given_station s t three)

-- the children of the root are so, and it has turned with that deficit
abbrev pub above : (left right : Station) → (deficit : ℤ) → BoxHouse
above left right deficit = counting (given_station 0 (frozen_at deficit false) (given_station 1 left (given_station 2 right three)))

-- both have gathered 0
abbrev pub root_with : (deficit : ℤ) → BoxHouse
root_with deficit = above red_and_gathered red_and_gathered deficit

-- a house that says that it has n stations, while cells are there for three
abbrev pub said_to_have : (n : ℕ) → BoxHouse → BoxHouse
said_to_have n x = with_cells x (record { n = n; tray_cells = x.cells.tray_cells; late_cells = x.cells.late_cells; sheets = x.cells.sheets; recorded = x.cells.recorded; stations = x.cells.stations; tray = x.cells.tray; late = x.cells.late; messages = x.cells.messages })

pub record GatherEdges : Type 0 where
  pub last_station_is_granted : Grants (open_with 2 red) (gather_at 2) (sum (pos 0))
  pub no_such_station_is_number_4 : Refuses (open_with 2 red) (gather_at 3) 4
  pub not_counting_is_number_13 : Refuses (given_station 1 red three) (gather_at 1) 13
  pub closed_already_is_number_13 : Refuses (closed (given_station 1 red three)) (gather_at 1) 13
  pub not_turned_is_number_15 : Refuses (counting three) (gather_at 1) 15
  pub turned_is_granted : Grants (open_with 1 red) (gather_at 1) (sum (pos 0))
  pub gathered_already_is_number_16 : Refuses (open_with 1 red_and_gathered) (gather_at 1) 16
  pub both_children_gathered_is_granted : Grants (root_with (pos 0)) (gather_at 0) (sum (pos 0))
  pub left_child_not_gathered_is_number_17 : Refuses (above red red_and_gathered (pos 0)) (gather_at 0) 17
  pub right_child_not_gathered_is_number_17 : Refuses (above red_and_gathered red (pos 0)) (gather_at 0) 17
  pub no_right_child_is_granted : Grants (counting (given_station 0 red (given_station 1 red_and_gathered (house_of 2)))) (gather_at 0) (sum (pos 0))
  pub no_child_is_granted : Grants (counting (given_station 0 red (house_of 1))) (gather_at 0) (sum (pos 0))
  -- the sum is that of all below, with its sign
  pub sum_of_three_is_granted : Grants (above (frozen_at (pos 4) true) (frozen_at (neg_ℤ (pos 1)) true) (pos 2)) (gather_at 0) (sum (pos 5))
  pub sum_−1_below_the_root_is_granted : Grants (open_with 1 (frozen_at (neg_ℤ (pos 1)) false)) (gather_at 1) (sum (neg_ℤ (pos 1)))
  -- station 63 is seven levels deep
  pub sum_of_64_stations_is_granted : Grants (counting (given_station 0 red (given_station 1 red_and_gathered (given_station 2 red_and_gathered (given_station 63 (frozen_at (pos 1) true) (house_of 64)))))) (gather_at 0) (sum (pos 1))
  -- the method's questions, which no history has answered no
  pub sum_8192_is_granted : Grants (root_with (pos 8192)) (gather_at 0) (sum (pos 8192))
  pub sum_8193_is_number_23 : Refuses (root_with (pos 8193)) (gather_at 0) 23
  pub sum_−1_is_number_23 : Refuses (root_with (neg_ℤ (pos 1))) (gather_at 0) 23
  pub stations_64_is_granted : Grants (said_to_have 64 (root_with (pos 0))) (gather_at 0) (sum (pos 0))
  pub stations_65_is_number_23 : Refuses (said_to_have 65 (root_with (pos 0))) (gather_at 0) 23
  pub one_outstanding_is_number_24 : Refuses (given_method (box 3 1) (root_with (pos 0))) (gather_at 0) 24
  pub one_outstanding_below_the_root_is_granted : Grants (given_method (box 3 1) (open_with 1 red)) (gather_at 1) (sum (pos 0))
  -- two questions answered no: the first is told
  pub station_before_phase : Refuses three (gather_at 3) 4
  pub phase_before_turned : Refuses three (gather_at 1) 13
  pub turned_before_gathered : Refuses (open_with 1 white_but_gathered) (gather_at 1) 15
  pub gathered_before_children : Refuses (open_with 0 red_and_gathered) (gather_at 0) 16
  pub children_before_the_method : Refuses (above red red_and_gathered (neg_ℤ (pos 1))) (gather_at 0) 17
  pub sum_before_outstanding : Refuses (given_method (box 3 1) (root_with (neg_ℤ (pos 1)))) (gather_at 0) 23
