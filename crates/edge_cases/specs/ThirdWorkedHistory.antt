-- A history of one count, worked through: bridge, the token tree, seven stations. Stations 1 and 2 are the children of
-- station 0, stations 3 and 4 those of station 1, stations 5 and 6 those of station 2.
use Rattle.std.specs.Prelude.{◌≡◌, ℕ, List, [], ◌∷◌, ◌++◌, map, replicate, pos, neg_ℤ, codes, slice_set}
use Rattle.sections.specs.Rule.{blank_sheet}
use Rattle.sections.specs.Bridge.{bridge}
use Rattle.methods.specs.Tree.{tree_model}
use Rattle.house_rules.specs.declared.phase.Phase.TheVariants.{Ready}
use Rattle.house_rules.specs.declared.station.Station.{Station}
use Rattle.house_rules.specs.State.Names.{slips_of}
use Rattle.house_rules.specs.State.House.{HouseState}
use Rattle.house_rules.specs.Calls.Make.{Handed, made_house}
use Rattle.house_rules.specs.Calls.EveryCall.{Call, nothing, number, sum, sent, receipt, filed}
use Rattle.house_rules.specs.Theorem.Histories.{make, done, run, Response, refused_with, granted, responses, granted_among}
use Rattle.house_rules.specs.Calls.Event.{enter, post, take}
use Rattle.house_rules.specs.Theorem.Cut.{cut_of}
use Rattle.edge_cases.specs.Calls.{enter_at, post_from, take_slip, open_at, turn_at, gather_at, report_at, close_count, file_text}

abbrev pub third_handed : Handed
third_handed = record { n = 7; sheets = 7; recorded = 7; tray_cells = 8; late_cells = 6 }

abbrev pub third_house : HouseState tree_model.State
third_house = made_house third_handed tree_model.rules.fresh

-- differences of 420, -50 and 1,000 points are 9, -2 and 14 IMPs of the first line; the second slip of station 3 is taken
-- before its first, and the third too
abbrev pub third_before_the_open : List Call
third_before_the_open =
    enter_at 3 0 1 (pos 420)
    ∷ enter_at 4 2 3 (neg_ℤ (pos 50))
    ∷ enter_at 6 4 31 (pos 1000)
    ∷ enter_at 5 6 6 (pos 100)
    ∷ post_from 3 5 1 (neg_ℤ (pos 9))
    ∷ post_from 3 5 0 (pos 4)
    ∷ post_from 4 4 3 (pos 5)
    ∷ post_from 6 2 31 (neg_ℤ (pos 4))
    ∷ take_slip 3 2
    ∷ []

-- stations 2, 4, 5, 3, 0, 1 and 6 turn in this order, stations 3 and 6 by a take; the slip of station 4 to itself is late
abbrev pub third_turning : List Call
third_turning =
    open_at 2
    ∷ take_slip 6 1
    ∷ turn_at 4
    ∷ take_slip 4 1
    ∷ post_from 4 3 2 (neg_ℤ (pos 2))
    ∷ turn_at 5
    ∷ post_from 5 6 7 (pos 3)
    ∷ take_slip 4 2
    ∷ post_from 3 5 0 (pos 2)
    ∷ take_slip 3 3
    ∷ take_slip 3 1
    ∷ post_from 1 0 0 (pos 1)
    ∷ turn_at 0
    ∷ turn_at 1
    ∷ take_slip 5 1
    ∷ []

-- the count is gathered, reported, closed and filed, with a post between close and file; the text has 224 bytes
abbrev pub third_ending : List Call
third_ending =
    gather_at 1
    ∷ gather_at 3
    ∷ gather_at 4
    ∷ gather_at 1
    ∷ gather_at 5
    ∷ gather_at 6
    ∷ gather_at 2
    ∷ gather_at 0
    ∷ report_at 4
    ∷ report_at 4
    ∷ report_at 2
    ∷ close_count
    ∷ take_slip 1 1
    ∷ report_at 0
    ∷ post_from 2 6 31 (pos 1)
    ∷ report_at 5
    ∷ close_count
    ∷ post_from 5 2 0 (pos 1)
    ∷ file_text 4 (replicate 223 0)
    ∷ file_text 4 (replicate 228 0)
    ∷ []

abbrev pub third_calls : List Call
third_calls = third_before_the_open ++ third_turning ++ third_ending

abbrev pub third_text : List ℕ
third_text = codes "sheet\t1\t0\t-1\nsheet\t3\t0\t5\nsheet\t4\t2\t-2\nsheet\t4\t3\t-3\nsheet\t5\t0\t4\nsheet\t6\t4\t14\nsheet\t6\t31\t-10\nslip\t6\t1\t2\t31\t-4\nslip\t4\t1\t4\t3\t5\nslip\t3\t1\t5\t1\t-9\nslip\t1\t1\t0\t0\t1\nscore\t0\t9\nscore\t1\t-9\nscore\t2\t-2\nscore\t3\t2\nscore\t4\t14\nscore\t31\t-14\nend\n"

abbrev pub third_responses : List Response
third_responses =
    granted nothing
    ∷ granted nothing
    ∷ granted nothing
    ∷ refused_with (5, 0, 0)
    ∷ granted (number 1)
    ∷ granted (number 2)
    ∷ granted (number 1)
    ∷ granted (number 1)
    ∷ granted nothing
    ∷ granted nothing
    ∷ granted nothing
    ∷ granted nothing
    ∷ granted nothing
    ∷ granted (number 2)
    ∷ granted nothing
    ∷ granted (number 1)
    ∷ granted nothing
    ∷ granted (number 3)
    ∷ granted nothing
    ∷ granted nothing
    ∷ granted (number 1)
    ∷ granted nothing
    ∷ granted nothing
    ∷ granted nothing
    ∷ refused_with (17, 0, 0)
    ∷ granted (sum (pos 2))
    ∷ granted (sum (pos 1))
    ∷ granted (sum (pos 4))
    ∷ granted (sum (neg_ℤ (pos 1)))
    ∷ granted (sum (pos 1))
    ∷ granted (sum (pos 0))
    ∷ granted (sum (pos 4))
    ∷ granted (sent 4)
    ∷ refused_with (19, 0, 0)
    ∷ granted (sent 4)
    ∷ refused_with (20, 0, 0)
    ∷ granted nothing
    ∷ granted (sent 6)
    ∷ granted (number 1)
    ∷ granted (sent 19)
    ∷ granted (receipt 4 39)
    ∷ granted (number 2)
    ∷ refused_with (22, 0, 0)
    ∷ granted (filed 224 (third_text ++ (0 ∷ 0 ∷ 0 ∷ 0 ∷ [])))
    ∷ []

pub record ThirdWorkedHistory : Type 0 where
  pub made : make tree_model third_handed tree_model.rules.fresh ≡ done third_house nothing
  pub answered : responses tree_model bridge third_house third_calls ≡ third_responses
  pub recorded : (run tree_model bridge third_house third_calls).cells.recorded ≡ blank_sheet ∷ slice_set blank_sheet 0 (neg_ℤ (pos 1)) ∷ blank_sheet ∷ slice_set blank_sheet 0 (pos 5) ∷ slice_set (slice_set blank_sheet 2 (neg_ℤ (pos 2))) 3 (neg_ℤ (pos 3)) ∷ slice_set blank_sheet 0 (pos 4) ∷ slice_set (slice_set blank_sheet 4 (pos 14)) 31 (neg_ℤ (pos 10)) ∷ []
  pub late : slips_of (run tree_model bridge third_house third_calls).cells.late ≡ record { sender = 6; number = 1; receiver = 2; line = 31; amount = neg_ℤ (pos 4) } ∷ record { sender = 4; number = 1; receiver = 4; line = 3; amount = pos 5 } ∷ record { sender = 3; number = 1; receiver = 5; line = 1; amount = neg_ℤ (pos 9) } ∷ record { sender = 1; number = 1; receiver = 0; line = 0; amount = pos 1 } ∷ []
  -- what the sheets hold at the end
  pub sheets : (run tree_model bridge third_house third_calls).cells.sheets ≡ slice_set blank_sheet 0 (pos 1) ∷ slice_set blank_sheet 0 (neg_ℤ (pos 1)) ∷ slice_set blank_sheet 31 (neg_ℤ (pos 5)) ∷ slice_set (slice_set blank_sheet 0 (pos 3)) 2 (neg_ℤ (pos 2)) ∷ slice_set blank_sheet 3 (pos 2) ∷ slice_set (slice_set (slice_set blank_sheet 0 (pos 5)) 1 (neg_ℤ (pos 9))) 7 (neg_ℤ (pos 3)) ∷ slice_set (slice_set (slice_set blank_sheet 4 (pos 14)) 7 (pos 3)) 31 (neg_ℤ (pos 10)) ∷ []
  -- and the deficits of the stations
  pub running : map (λ (t : Station). t.running) (run tree_model bridge third_house third_calls).cells.stations ≡ pos 0 ∷ pos 0 ∷ pos 1 ∷ pos 0 ∷ pos 1 ∷ pos 1 ∷ neg_ℤ (pos 1) ∷ []
  pub frozen : map (λ (t : Station). t.frozen) (run tree_model bridge third_house third_calls).cells.stations ≡ pos 0 ∷ pos 1 ∷ pos 0 ∷ pos 2 ∷ pos 1 ∷ neg_ℤ (pos 1) ∷ pos 1 ∷ []
  -- posted after their senders' turns, and still under way when the count is filed
  pub under_way : slips_of (run tree_model bridge third_house third_calls).cells.tray ≡ record { sender = 2; number = 1; receiver = 6; line = 31; amount = pos 1 } ∷ record { sender = 5; number = 2; receiver = 2; line = 0; amount = pos 1 } ∷ []
  pub before : (cut_of (granted_among tree_model bridge third_house third_calls)).before ≡ enter 3 0 1 (pos 420) ∷ enter 4 2 3 (neg_ℤ (pos 50)) ∷ enter 6 4 31 (pos 1000) ∷ post 3 5 1 (neg_ℤ (pos 9)) ∷ post 3 5 0 (pos 4) ∷ post 4 4 3 (pos 5) ∷ post 6 2 31 (neg_ℤ (pos 4)) ∷ take 3 2 ∷ post 1 0 0 (pos 1) ∷ []
  pub after : (cut_of (granted_among tree_model bridge third_house third_calls)).after ≡ take 6 1 ∷ take 4 1 ∷ post 4 3 2 (neg_ℤ (pos 2)) ∷ post 5 6 7 (pos 3) ∷ take 4 2 ∷ post 3 5 0 (pos 2) ∷ take 3 3 ∷ take 3 1 ∷ take 5 1 ∷ take 1 1 ∷ post 2 6 31 (pos 1) ∷ post 5 2 0 (pos 1) ∷ []
  pub phase : (run tree_model bridge third_house third_calls).phase ≡ Ready
