-- File at the edges of its questions: 21 and 22.
use Rattle.std.specs.Prelude.{ℕ, List, [], ◌∷◌, ◌++◌, replicate, codes}
use Rattle.house_rules.specs.Calls.EveryCall.{filed}
use Rattle.edge_cases.specs.Calls.{file_text}
use Rattle.edge_cases.specs.Houses.{BoxHouse, three, counting, closed, given_late, white_slip}
use Rattle.edge_cases.specs.Said.{Grants, Refuses}

-- a blank record, and one late slip of 2 half points of line 0
abbrev pub one_late_slip : BoxHouse
one_late_slip = given_late (white_slip 1 ∷ []) three

-- its text has 29 bytes
abbrev pub its_text : List ℕ
its_text = codes "slip\t0\t1\t1\t0\t2\nscore\t0\t2\nend\n"

pub record FileEdges : Type 0 where
  pub receipt_of_this_count_is_granted : Grants (closed one_late_slip) (file_text 1 (replicate 40 7)) (filed 29 (its_text ++ replicate 11 7))
  pub receipt_with_one_late_slip_more_is_number_21 : Refuses (closed one_late_slip) (file_text 2 (replicate 40 7)) 21
  pub receipt_with_one_late_slip_less_is_number_21 : Refuses (closed one_late_slip) (file_text 0 (replicate 40 7)) 21
  pub ready_already_is_number_21 : Refuses one_late_slip (file_text 1 (replicate 40 7)) 21
  pub still_counting_is_number_21 : Refuses (counting one_late_slip) (file_text 1 (replicate 40 7)) 21
  pub text_of_the_exact_length_is_granted : Grants (closed one_late_slip) (file_text 1 (replicate 29 7)) (filed 29 its_text)
  pub text_one_byte_short_is_number_22 : Refuses (closed one_late_slip) (file_text 1 (replicate 28 7)) 22
  pub no_late_slip_and_4_bytes_is_granted : Grants (closed three) (file_text 0 (replicate 4 7)) (filed 4 (codes "end\n"))
  pub no_late_slip_and_3_bytes_is_number_22 : Refuses (closed three) (file_text 0 (replicate 3 7)) 22
  -- both questions answered no: the first is told
  pub receipt_before_text : Refuses (closed one_late_slip) (file_text 2 []) 21
