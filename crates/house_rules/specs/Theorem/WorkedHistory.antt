-- A history of two counts, worked through: chess, the token tree, three stations.
use Rattle.std.specs.Prelude.{◌≡◌, ℕ, List, [], ◌∷◌, ◌++◌, replicate, pos, codes, slice_set}
use Rattle.sections.specs.Rule.{blank_sheet}
use Rattle.sections.specs.Chess.{chess}
use Rattle.methods.specs.Tree.{tree_model}
use Rattle.house_rules.specs.declared.phase.Phase.TheVariants.{Ready}
use Rattle.house_rules.specs.State.Names.{slips_of}
use Rattle.house_rules.specs.State.House.{HouseState}
use Rattle.house_rules.specs.Calls.Make.{Handed, made_house}
use Rattle.house_rules.specs.Calls.EveryCall.{Call, open', turn, gather, report, close, file, nothing, number, sum, sent, receipt, filed, event}
use Rattle.house_rules.specs.Theorem.Histories.{make, done, run, Response, refused_with, granted, responses, granted_among}
use Rattle.house_rules.specs.Theorem.Cut.{cut_of}
use Rattle.house_rules.specs.Calls.Event.{enter, post, take}

abbrev pub first_handed : Handed
first_handed = record { n = 3; sheets = 3; recorded = 3; tray_cells = 64; late_cells = 64 }

abbrev pub first_house : HouseState tree_model.State
first_house = made_house first_handed tree_model.rules.fresh

-- results 2 and 1 are a win of the first line and a draw; the text handed in at the end has 80 bytes
abbrev pub worked_calls : List Call
worked_calls =
    event (enter 0 0 1 (pos 2))
    ∷ event (enter 1 2 3 (pos 1))
    ∷ event (post 0 1 0 (pos 2))
    ∷ open' 0
    ∷ event (enter 0 4 5 (pos 2))
    ∷ event (post 0 2 4 (pos 1))
    ∷ event (take 0 2)
    ∷ event (post 1 2 2 (pos 1))
    ∷ event (take 1 1)
    ∷ turn 1
    ∷ gather 1
    ∷ gather 2
    ∷ gather 0
    ∷ close
    ∷ event (take 0 1)
    ∷ report 2
    ∷ report 1
    ∷ close
    ∷ file 2 (replicate 80 0)
    ∷ []

abbrev pub worked_text : List ℕ
worked_text = codes "sheet\t1\t3\t1\nslip\t1\t1\t2\t2\t1\nslip\t0\t1\t1\t0\t2\nscore\t0\t2\nscore\t2\t1\nscore\t3\t1\nend\n"

abbrev pub worked_responses : List Response
worked_responses =
    granted nothing
    ∷ granted nothing
    ∷ granted (number 1)
    ∷ granted nothing
    ∷ granted nothing
    ∷ granted (number 2)
    ∷ granted nothing
    ∷ granted (number 1)
    ∷ granted nothing
    ∷ granted nothing
    ∷ granted (sum (pos 1))
    ∷ granted (sum (pos 0))
    ∷ granted (sum (pos 2))
    ∷ refused_with (20, 0, 0)
    ∷ granted nothing
    ∷ granted (sent 4)
    ∷ granted (sent 10)
    ∷ granted (receipt 2 16)
    ∷ granted (filed 76 (worked_text ++ (0 ∷ 0 ∷ 0 ∷ 0 ∷ [])))
    ∷ []

-- A second count of the same house, whose stations are red by now. A slip is posted before it opens at station 1; the turned
-- station 1 posts a slip of the new colour; the first slip is late at station 0. File is first handed the number of the
-- receipt before.
abbrev pub second_calls : List Call
second_calls =
    event (post 2 0 2 (pos 1))
    ∷ open' 1
    ∷ event (post 1 0 0 (pos 1))
    ∷ turn 0
    ∷ event (take 2 1)
    ∷ turn 2
    ∷ gather 1
    ∷ gather 2
    ∷ gather 0
    ∷ event (take 1 2)
    ∷ report 0
    ∷ close
    ∷ file 2 (replicate 110 0)
    ∷ file 1 (replicate 110 0)
    ∷ []

abbrev pub second_text : List ℕ
second_text = codes "sheet\t0\t4\t1\nsheet\t1\t0\t2\nsheet\t1\t3\t1\nsheet\t2\t4\t1\nslip\t2\t1\t0\t2\t1\nscore\t0\t2\nscore\t2\t1\nscore\t3\t1\nscore\t4\t2\nend\n"

abbrev pub second_responses : List Response
second_responses =
    granted (number 1)
    ∷ granted nothing
    ∷ granted (number 2)
    ∷ granted nothing
    ∷ granted nothing
    ∷ granted nothing
    ∷ granted (sum (pos 0))
    ∷ granted (sum (pos 0))
    ∷ granted (sum (pos 1))
    ∷ granted nothing
    ∷ granted (sent 8)
    ∷ granted (receipt 1 10)
    ∷ refused_with (21, 0, 0)
    ∷ granted (filed 107 (second_text ++ (0 ∷ 0 ∷ 0 ∷ [])))
    ∷ []

pub record WorkedHistory : Type 0 where
  pub made : make tree_model first_handed tree_model.rules.fresh ≡ done first_house nothing
  pub answered : responses tree_model chess first_house worked_calls ≡ worked_responses
  -- the half point of line 3 at station 1 is all that was recorded; the rest was under way
  pub recorded : (run tree_model chess first_house worked_calls).cells.recorded ≡ blank_sheet ∷ slice_set blank_sheet 3 (pos 1) ∷ blank_sheet ∷ []
  pub late : slips_of (run tree_model chess first_house worked_calls).cells.late ≡ record { sender = 1; number = 1; receiver = 2; line = 2; amount = pos 1 } ∷ record { sender = 0; number = 1; receiver = 1; line = 0; amount = pos 2 } ∷ []
  -- the cut of the count
  pub before : (cut_of (granted_among tree_model chess first_house worked_calls)).before ≡ enter 0 0 1 (pos 2) ∷ enter 1 2 3 (pos 1) ∷ post 0 1 0 (pos 2) ∷ post 1 2 2 (pos 1) ∷ []
  pub after : (cut_of (granted_among tree_model chess first_house worked_calls)).after ≡ enter 0 4 5 (pos 2) ∷ post 0 2 4 (pos 1) ∷ take 0 2 ∷ take 1 1 ∷ take 0 1 ∷ []
  pub phase : (run tree_model chess first_house worked_calls).phase ≡ Ready
  -- both counts in a row
  pub answered_second : responses tree_model chess first_house (worked_calls ++ second_calls) ≡ worked_responses ++ second_responses
  pub recorded_second : (run tree_model chess first_house (worked_calls ++ second_calls)).cells.recorded ≡ slice_set blank_sheet 4 (pos 1) ∷ slice_set (slice_set blank_sheet 0 (pos 2)) 3 (pos 1) ∷ slice_set blank_sheet 4 (pos 1) ∷ []
  pub late_second : slips_of (run tree_model chess first_house (worked_calls ++ second_calls)).cells.late ≡ record { sender = 2; number = 1; receiver = 0; line = 2; amount = pos 1 } ∷ []
  -- all events of the first count, and the post before the open, lie before the second cut
  pub before_second : (cut_of (granted_among tree_model chess first_house (worked_calls ++ second_calls))).before ≡ enter 0 0 1 (pos 2) ∷ enter 1 2 3 (pos 1) ∷ post 0 1 0 (pos 2) ∷ enter 0 4 5 (pos 2) ∷ post 0 2 4 (pos 1) ∷ take 0 2 ∷ post 1 2 2 (pos 1) ∷ take 1 1 ∷ take 0 1 ∷ post 2 0 2 (pos 1) ∷ []
  pub after_second : (cut_of (granted_among tree_model chess first_house (worked_calls ++ second_calls))).after ≡ post 1 0 0 (pos 1) ∷ take 2 1 ∷ take 1 2 ∷ []
  pub phase_second : (run tree_model chess first_house (worked_calls ++ second_calls)).phase ≡ Ready
