-- A sheet that gives half points plays the rule of chess.
use Rattle.std.proofs.Common.{◌≡◌, ℕ, Bool, true, false, List, ℤ, pos, ◌+ℤ◌, ◌-ℤ◌, neg_ℤ, ◌≤ℤ◌, refl, arith}
use Rattle.common.specs.Limits.{largest_figure}
use lib.Signed.{le_z}
use Rattle.std.proofs.lemmas.Int.{ints}
use Rattle.sections.specs.Rule.{figure_at, Within}
use Rattle.common.specs.Questions.{first_no}
use Rattle.sections.specs.Pairs.{is_figure, pair_entry}
use Rattle.sections.specs.Scored.{Plays, AmountsAreSmall, sheet_debit, sheet_credit}
use Rattle.sections.specs.Chess.{chess, chess_entry, chess_debit, chess_credit, is_amount, is_result, half_points}

-- a figure that is not below the range leaves it only at its upper end
top : (z : ℤ) → neg_ℤ (pos largest_figure) ≤ℤ z → is_figure z ≡ le_z z (pos largest_figure)
top z low = grind (arith, ints)

-- what a result gives is never negative
gain_in_range : (f : List ℤ) (line k : ℕ) → Within largest_figure f → is_figure (figure_at f line +ℤ pos k) ≡ le_z (figure_at f line +ℤ pos k) (pos largest_figure)
gain_in_range f line k w = let b = w line in top (figure_at f line +ℤ pos k) (omega (arith, ints))

-- nor is the amount of a credit
credit_in_range : (f : List ℤ) (line : ℕ) (amount : ℤ) → Within largest_figure f → is_amount amount ≡ true → is_figure (figure_at f line +ℤ amount) ≡ le_z (figure_at f line +ℤ amount) (pos largest_figure)
credit_in_range f line amount w h = let b = w line in let positive : pos 0 ≤ℤ amount = grind (arith, ints) in top (figure_at f line +ℤ amount) (omega (arith, ints))

-- nor is the figure after a debit that it covers
debit_in_range : (f : List ℤ) (line : ℕ) (amount : ℤ) → le_z amount (figure_at f line) ≡ true → is_figure (figure_at f line -ℤ amount) ≡ le_z (figure_at f line -ℤ amount) (pos largest_figure)
debit_in_range f line amount h = let covered : amount ≤ℤ figure_at f line = grind (arith, ints) in top (figure_at f line -ℤ amount) (omega (arith, ints))

entry_plays : (f : List ℤ) (a b : ℕ) (r : ℤ) → Within largest_figure f → first_no (chess_entry f a b r) ≡ first_no (pair_entry f a b (half_points r))
entry_plays f a b r w = go (is_result r) refl
  where
    go : (t : Bool) → is_result r ≡ t → first_no (chess_entry f a b r) ≡ first_no (pair_entry f a b (half_points r))
    go true p = rw (p, gain_in_range f a _ w, gain_in_range f b _ w)
    go false p = rw p

debit_plays : (f : List ℤ) (line : ℕ) (amount : ℤ) → first_no (chess_debit f line amount) ≡ first_no (sheet_debit is_amount (λ figure amount. le_z amount figure) f line amount)
debit_plays f line amount = go (le_z amount (figure_at f line)) refl
  where
    go : (t : Bool) → le_z amount (figure_at f line) ≡ t → first_no (chess_debit f line amount) ≡ first_no (sheet_debit is_amount (λ figure amount. le_z amount figure) f line amount)
    go true p = rw (debit_in_range f line amount p)
    go false p = rw p

credit_plays : (f : List ℤ) (line : ℕ) (amount : ℤ) → Within largest_figure f → first_no (chess_credit f line amount) ≡ first_no (sheet_credit is_amount f line amount)
credit_plays f line amount w = go (is_amount amount) refl
  where
    go : (t : Bool) → is_amount amount ≡ t → first_no (chess_credit f line amount) ≡ first_no (sheet_credit is_amount f line amount)
    go true p = rw (credit_in_range f line amount w p)
    go false p = rw p

pub chess_plays : Plays chess half_points is_amount (λ figure amount. le_z amount figure)
chess_plays = record { entry = entry_plays; debit = λ f line amount w. debit_plays f line amount; credit = credit_plays; gain = λ a b r. refl }

pub chess_amounts : AmountsAreSmall is_amount
chess_amounts amount h = grind (arith, ints)
