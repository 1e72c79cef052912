use mathlib.Core.Path.{refl}
use Rattle.methods.specs.Deal.{dealt}
use Rattle.methods.specs.Climb.{climb}
use Rattle.methods.specs.Swap.{turned_yellow}
use Rattle.methods.specs.Arrival.{arrival}
use Rattle.methods.specs.Dealing.{dealt_total}
use Rattle.worked_cases.proofs.worked_cases.Goals as goal

pub returns : goal.returns
unfolding arrival climb dealt turned_yellow
returns c =
    record {
      chess_19998_and_a_win_is_20000 = (refl, refl);
      chess_19999_and_a_win_is_cause_2 = refl;
      differences_10_and_20_give_0_and_1 = (((refl, refl), refl), ((refl, refl), refl));
      differences_−490_and_−500_give_−10_and_−11 = (((refl, refl), refl), ((refl, refl), refl));
      differences_3990_and_4000_give_23_and_24 = (((refl, refl), refl), ((refl, refl), refl));
      differences_15010_and_15_are_cause_1 = (refl, refl);
      tree_of_3_deals_5_as_2_2_1 = refl;
      then_arrivals_at_2_2_1_1_0_cost_0_4_0_12_8 = refl;
      tree_of_4_with_1_an_arrival_at_3_costs_13 = refl;
      nothing_to_wait_for_sends_nothing = λ n p small. (dealt_total n 0 p, refl);
    }
