-- Ten worked cases of the rules, for chess, for bridge and for the token tree.
use Rattle.std.specs.Prelude.{ℕ, ◌≤◌, ◌≡◌, List, [], ◌∷◌, ℤ, pos, neg_ℤ, Some, None, slice_set}
use Rattle.common.specs.Limits.{most_stations}
use Rattle.common.specs.Questions.{first_no}
use Rattle.sections.specs.Rule.{Rule, blank_sheet, entered, figure_at}
use Rattle.sections.specs.Chess.{chess}
use Rattle.sections.specs.Bridge.{bridge}
use Rattle.methods.specs.Model.{Model}
use Rattle.methods.specs.Tree.{tree_model}

-- a sheet with one figure other than 0, at line 0
abbrev pub line_zero_has : ℤ → List ℤ
line_zero_has figure = slice_set blank_sheet 0 figure

-- an entry between lines 0 and 1 is granted, and leaves that figure at line 0
abbrev pub LeavesAtZero : Rule → List ℤ → (r : ℤ) → (figure : ℤ) → Type 0
LeavesAtZero rule f r figure = (first_no (rule.entry f 0 1 r) ≡ None) × (figure_at (entered f (rule.gain 0 1 r)) 0 ≡ figure)

-- it is refused, for that cause at line 0
abbrev pub DeniedAtZero : Rule → List ℤ → (r : ℤ) → (cause : ℕ) → Type 0
DeniedAtZero rule f r cause = first_no (rule.entry f 0 1 r) ≡ Some (cause, 0)

-- a difference on a blank sheet gives line 0 so many IMPs, and line 1 the opposite
abbrev pub GivesImps : (difference imps : ℤ) → Type 0
GivesImps difference imps =
    LeavesAtZero bridge blank_sheet difference imps × (figure_at (entered blank_sheet (bridge.gain 0 1 difference)) 1 ≡ neg_ℤ imps)

-- a method that has counted nothing begins with n stations and w arrivals
abbrev pub begun : (m : Model) → (n w : ℕ) → m.State
begun m n w = m.rules.begun m.rules.fresh n w

-- the messages of arrivals at these stations, one after another
abbrev pub sent_at : (m : Model) → m.State → (stations : List ℕ) → List ℕ
sent_at m q [] = []
sent_at m q (s ∷ ss) = m.rules.arrived_sent q s ∷ sent_at m (m.rules.arrived q s) ss

pub record WorkedCases : Type 0 where
  pub chess_19998_and_a_win_is_20000 : LeavesAtZero chess (line_zero_has (pos 19998)) (pos 2) (pos 20000)
  pub chess_19999_and_a_win_is_cause_2 : DeniedAtZero chess (line_zero_has (pos 19999)) (pos 2) 2
  pub differences_10_and_20_give_0_and_1 : GivesImps (pos 10) (pos 0) × GivesImps (pos 20) (pos 1)
  pub differences_−490_and_−500_give_−10_and_−11 : GivesImps (neg_ℤ (pos 490)) (neg_ℤ (pos 10)) × GivesImps (neg_ℤ (pos 500)) (neg_ℤ (pos 11))
  pub differences_3990_and_4000_give_23_and_24 : GivesImps (pos 3990) (pos 23) × GivesImps (pos 4000) (pos 24)
  pub differences_15010_and_15_are_cause_1 : DeniedAtZero bridge blank_sheet (pos 15010) 1 × DeniedAtZero bridge blank_sheet (pos 15) 1
  pub tree_of_3_deals_5_as_2_2_1 : (begun tree_model 3 5).tokens ≡ 2 ∷ 2 ∷ 1 ∷ []
  pub then_arrivals_at_2_2_1_1_0_cost_0_4_0_12_8 : sent_at tree_model (begun tree_model 3 5) (2 ∷ 2 ∷ 1 ∷ 1 ∷ 0 ∷ []) ≡ 0 ∷ 4 ∷ 0 ∷ 12 ∷ 8 ∷ []
  pub tree_of_4_with_1_an_arrival_at_3_costs_13 : sent_at tree_model (begun tree_model 4 1) (3 ∷ []) ≡ 13 ∷ []
  pub nothing_to_wait_for_sends_nothing : (n : ℕ) → 1 ≤ n → n ≤ most_stations → (tree_model.rules.outstanding (begun tree_model n 0) ≡ 0) × (tree_model.rules.begin_sent tree_model.rules.fresh n 0 ≡ 0)
