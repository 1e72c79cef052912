-- How a sheet plays the rule of a kind of scoring.
use Rattle.std.specs.Prelude.{◌≡◌, ℕ, Bool, true, List, [], ◌∷◌, ℤ, ◌+ℤ◌, ◌-ℤ◌, neg_ℤ, ◌≤ℤ◌, Option, nat_lt}
use Rattle.common.specs.Limits.{line_count, largest_figure, largest_amount}
use Rattle.common.specs.Questions.{ask, first_no}
use Rattle.sections.specs.Rule.{Rule, SectionQuestions, Within, figure_at}
use Rattle.sections.specs.Pairs.{is_figure, pair_entry, pair_gains}

-- what a sheet asks of a debit: its line, its amount, a figure that covers it, and a new figure in the range
abbrev pub sheet_debit : (is_amount : ℤ → Bool) (covers : ℤ → ℤ → Bool) → List ℤ → (line : ℕ) (amount : ℤ) → SectionQuestions
sheet_debit is_amount covers f line amount =
    ask (nat_lt line line_count) (9, line)
    ∷ ask (is_amount amount) (3, line)
    ∷ ask (covers (figure_at f line) amount) (4, line)
    ∷ ask (is_figure (figure_at f line -ℤ amount)) (2, line)
    ∷ []

-- what a sheet asks of a credit: its line, its amount, and a new figure in the range
abbrev pub sheet_credit : (is_amount : ℤ → Bool) → List ℤ → (line : ℕ) (amount : ℤ) → SectionQuestions
sheet_credit is_amount f line amount =
    ask (nat_lt line line_count) (9, line)
    ∷ ask (is_amount amount) (3, line)
    ∷ ask (is_figure (figure_at f line +ℤ amount)) (2, line)
    ∷ []

-- on every sheet the rule refuses what a sheet with these gains, amounts and tests of a debit refuses, for the same cause and line
pub record Plays (rule : Rule) (gains : ℤ → Option (ℤ × ℤ)) (is_amount : ℤ → Bool) (covers : ℤ → ℤ → Bool) : Type 0 where
  pub entry : (f : List ℤ) (a b : ℕ) (r : ℤ) → Within largest_figure f → first_no (rule.entry f a b r) ≡ first_no (pair_entry f a b (gains r))
  pub debit : (f : List ℤ) (line : ℕ) (amount : ℤ) → Within largest_figure f → first_no (rule.debit f line amount) ≡ first_no (sheet_debit is_amount covers f line amount)
  pub credit : (f : List ℤ) (line : ℕ) (amount : ℤ) → Within largest_figure f → first_no (rule.credit f line amount) ≡ first_no (sheet_credit is_amount f line amount)
  pub gain : (a b : ℕ) (r : ℤ) → rule.gain a b r ≡ pair_gains a b (gains r)

-- an amount is from -1,000 to 1,000
abbrev pub AmountsAreSmall : (is_amount : ℤ → Bool) → Type 0
AmountsAreSmall is_amount = (amount : ℤ) → is_amount amount ≡ true → (neg_ℤ largest_amount ≤ℤ amount) × (amount ≤ℤ largest_amount)
