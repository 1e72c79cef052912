-- Report and close at the edges of their questions: 4, 13, 18 and 19 and the method's 25 and 26; 13, 18 and 20.
use Rattle.std.specs.Prelude.{ℕ}
use Rattle.house_rules.specs.Calls.EveryCall.{sent, receipt}
use Rattle.edge_cases.specs.Calls.{report_at, close_count}
use Rattle.edge_cases.specs.Houses.{BoxHouse, three, counting, closed, given_station, given_method, box, red, reporting, red_and_gathered}
use Rattle.edge_cases.specs.Said.{Grants, Refuses}

-- the root has gathered, the method counts three stations and waits for one arrival, and station 2 has so many late slips to
-- report
abbrev pub to_report : ℕ → BoxHouse
to_report k = given_method (box 3 1) (given_station 0 red_and_gathered (given_station 2 (reporting k) three))

-- in the box an arrival at another station than the root is told by one message
pub record ReportEdges : Type 0 where
  pub last_station_is_granted : Grants (counting (to_report 1)) (report_at 2) (sent 1)
  pub no_such_station_is_number_4 : Refuses (counting (to_report 1)) (report_at 3) 4
  pub not_counting_is_number_13 : Refuses (to_report 1) (report_at 2) 13
  pub closed_already_is_number_13 : Refuses (closed (to_report 1)) (report_at 2) 13
  pub root_not_gathered_is_number_18 : Refuses (given_station 0 red (counting (to_report 1))) (report_at 2) 18
  pub nothing_to_report_is_number_19 : Refuses (counting (to_report 0)) (report_at 2) 19
  pub nothing_to_report_at_another_is_number_19 : Refuses (counting (to_report 1)) (report_at 1) 19
  -- the method's questions, which no history has answered no
  pub station_that_is_counted_is_granted : Grants (given_method (box 3 1) (counting (to_report 1))) (report_at 2) (sent 1)
  pub station_that_is_not_counted_is_number_25 : Refuses (given_method (box 2 1) (counting (to_report 1))) (report_at 2) 25
  pub nothing_outstanding_is_number_26 : Refuses (given_method (box 3 0) (counting (to_report 1))) (report_at 2) 26
  -- two questions answered no: the first is told
  pub station_before_phase : Refuses (to_report 1) (report_at 3) 4
  pub phase_before_root : Refuses (given_station 0 red (to_report 1)) (report_at 2) 13
  pub root_before_slips : Refuses (given_station 0 red (counting (to_report 0))) (report_at 2) 18
  pub slips_before_the_method : Refuses (given_method (box 2 1) (counting (to_report 0))) (report_at 2) 19
  pub counted_before_outstanding : Refuses (given_method (box 2 0) (counting (to_report 1))) (report_at 2) 25

-- the root has gathered, and the method waits for so many arrivals
abbrev pub to_close : (outstanding : ℕ) → BoxHouse
to_close outstanding = given_method (box 3 outstanding) (given_station 0 red_and_gathered three)

pub record CloseEdges : Type 0 where
  pub nothing_outstanding_is_granted : Grants (counting (to_close 0)) close_count (receipt 0 0)
  pub one_outstanding_is_number_20 : Refuses (counting (to_close 1)) close_count 20
  pub root_not_gathered_is_number_18 : Refuses (given_station 0 red (counting (to_close 0))) close_count 18
  pub not_counting_is_number_13 : Refuses (to_close 0) close_count 13
  pub closed_already_is_number_13 : Refuses (closed (to_close 0)) close_count 13
  -- two questions answered no: the first is told
  pub phase_before_root : Refuses (given_station 0 red (to_close 0)) close_count 13
  pub root_before_outstanding : Refuses (given_station 0 red (counting (to_close 1))) close_count 18
