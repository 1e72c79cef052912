-- Post at the edges of its questions: 4, 5, 7, 8, 9 and 6.
use Rattle.std.specs.Prelude.{[], ◌∷◌, pos, neg_ℤ}
use Rattle.sections.specs.Chess.{chess}
use Rattle.sections.specs.Bridge.{bridge}
use Rattle.house_rules.specs.Calls.EveryCall.{number}
use Rattle.edge_cases.specs.Calls.{post_from}
use Rattle.edge_cases.specs.Houses.{BoxHouse, three, counting, closed, given_station, given_figure, given_tray, with_posts, with_deficit, posts_and_deficit, white_slip}
use Rattle.edge_cases.specs.Said.{Grants, Refuses, GrantsBy, RefusesBy}

-- three stations, with 2 half points of line 0 at station 0
abbrev pub holding_two : BoxHouse
holding_two = given_figure 0 0 (pos 2) three

-- a full tray
abbrev pub full : BoxHouse → BoxHouse
full x = given_tray (white_slip 1 ∷ white_slip 2 ∷ []) x

pub record PostEdges : Type 0 where
  pub while_counting_is_granted : Grants (counting holding_two) (post_from 0 1 0 (pos 2)) (number 1)
  pub while_closed_is_granted : Grants (closed holding_two) (post_from 0 1 0 (pos 2)) (number 1)
  pub last_sender_is_granted : Grants (given_figure 2 0 (pos 2) three) (post_from 2 0 0 (pos 2)) (number 1)
  pub no_such_sender_is_number_4 : Refuses three (post_from 3 0 0 (pos 2)) 4
  pub last_receiver_is_granted : Grants holding_two (post_from 0 2 0 (pos 2)) (number 1)
  pub no_such_receiver_is_number_4 : Refuses holding_two (post_from 0 3 0 (pos 2)) 4
  pub to_itself_is_granted : Grants holding_two (post_from 0 0 0 (pos 2)) (number 1)
  pub line_31_is_granted : Grants (given_figure 0 31 (pos 2) three) (post_from 0 1 31 (pos 2)) (number 1)
  pub line_32_is_number_5 : Refuses three (post_from 0 1 32 (pos 2)) 5
  pub post_number_1000000_is_granted : Grants (given_station 0 (with_posts 999999) holding_two) (post_from 0 1 0 (pos 2)) (number 1000000)
  pub after_post_number_1000000_is_number_7 : Refuses (given_station 0 (with_posts 1000000) holding_two) (post_from 0 1 0 (pos 2)) 7
  -- the deficit that is asked for is one more than the present one
  pub deficit_30000_is_granted : Grants (given_station 0 (with_deficit (pos 29999)) holding_two) (post_from 0 1 0 (pos 2)) (number 1)
  pub deficit_30001_is_number_8 : Refuses (given_station 0 (with_deficit (pos 30000)) holding_two) (post_from 0 1 0 (pos 2)) 8
  pub deficit_−30000_is_granted : Grants (given_station 0 (with_deficit (neg_ℤ (pos 30001))) holding_two) (post_from 0 1 0 (pos 2)) (number 1)
  pub deficit_−30001_is_number_8 : Refuses (given_station 0 (with_deficit (neg_ℤ (pos 30002))) holding_two) (post_from 0 1 0 (pos 2)) 8
  pub last_tray_cell_is_granted : Grants (given_tray (white_slip 1 ∷ []) holding_two) (post_from 0 1 0 (pos 2)) (number 1)
  pub full_tray_is_number_9 : Refuses (full holding_two) (post_from 0 1 0 (pos 2)) 9
  pub chess_amount_0_is_cause_3 : RefusesBy chess holding_two (post_from 0 1 0 (pos 0)) 3 0
  pub chess_amount_1000_is_granted : GrantsBy chess (given_figure 0 5 (pos 1001) three) (post_from 0 1 5 (pos 1000)) (number 1)
  pub chess_amount_1001_is_cause_3 : RefusesBy chess (given_figure 0 5 (pos 1001) three) (post_from 0 1 5 (pos 1001)) 3 5
  pub chess_amount_above_the_figure_is_cause_4 : RefusesBy chess holding_two (post_from 0 1 0 (pos 3)) 4 0
  pub bridge_amount_above_the_figure_is_granted : GrantsBy bridge holding_two (post_from 0 1 0 (pos 3)) (number 1)
  pub bridge_amount_0_is_cause_3 : RefusesBy bridge three (post_from 0 1 5 (pos 0)) 3 5
  pub bridge_amount_−1000_is_granted : GrantsBy bridge three (post_from 0 1 5 (neg_ℤ (pos 1000))) (number 1)
  pub bridge_amount_−1001_is_cause_3 : RefusesBy bridge three (post_from 0 1 5 (neg_ℤ (pos 1001))) 3 5
  pub bridge_figure_−20000_is_granted : GrantsBy bridge (given_figure 0 5 (neg_ℤ (pos 19999)) three) (post_from 0 1 5 (pos 1)) (number 1)
  pub bridge_figure_−20001_is_cause_2 : RefusesBy bridge (given_figure 0 5 (neg_ℤ (pos 20000)) three) (post_from 0 1 5 (pos 1)) 2 5
  -- two questions answered no: the first is told
  pub stations_before_line : Refuses three (post_from 0 3 32 (pos 2)) 4
  pub line_before_posts : Refuses (given_station 0 (with_posts 1000000) three) (post_from 0 1 32 (pos 2)) 5
  pub posts_before_deficit : Refuses (given_station 0 (posts_and_deficit 1000000 (pos 30000)) holding_two) (post_from 0 1 0 (pos 2)) 7
  pub deficit_before_tray : Refuses (full (given_station 0 (with_deficit (pos 30000)) holding_two)) (post_from 0 1 0 (pos 2)) 8
  pub tray_before_the_section : Refuses (full three) (post_from 0 1 0 (pos 0)) 9
