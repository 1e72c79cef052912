-- The rule of chess: figures are half points.
use Rattle.std.specs.Prelude.{ℕ, Bool, cond, List, [], ◌∷◌, ℤ, pos, ◌+ℤ◌, ◌-ℤ◌, Some, None, Option, int_le, nat_lt, slice_index, unsigned_abs}
use Rattle.common.specs.Ranges.{between}
use Rattle.common.specs.Limits.{largest_amount, largest_figure, line_count}
use Rattle.common.specs.Questions.{ask}
use Rattle.sections.specs.Rule.{Rule, SectionQuestions, good_lines, figure_at}
use Rattle.sections.specs.Pairs.{pair_gains}

-- a result is a code from 0 to 3: line b won, a draw, line a won, nobody scored
abbrev pub is_result : ℤ → Bool
is_result r = between (pos 0) (pos 3) r

-- the half points that results 0 to 3 give the first and the second line
abbrev pub for_first : ℤ → ℤ
for_first r = pos (slice_index (0 ∷ 1 ∷ 2 ∷ 0 ∷ []) (unsigned_abs r))

abbrev pub for_second : ℤ → ℤ
for_second r = pos (slice_index (2 ∷ 1 ∷ 0 ∷ 0 ∷ []) (unsigned_abs r))

-- both, where there is such a result
abbrev pub half_points : ℤ → Option (ℤ × ℤ)
half_points r = cond (is_result r) (Some (for_first r, for_second r)) None

-- a slip carries 1 to 1,000 half points
abbrev pub is_amount : ℤ → Bool
is_amount amount = between (pos 1) largest_amount amount

abbrev pub chess_entry : List ℤ → ℕ → ℕ → ℤ → SectionQuestions
chess_entry f a b r =
    ask (good_lines a b) (9, a)
    ∷ ask (is_result r) (1, a)
    ∷ ask (int_le (figure_at f a +ℤ for_first r) (pos largest_figure)) (2, a)
    ∷ ask (int_le (figure_at f b +ℤ for_second r) (pos largest_figure)) (2, b)
    ∷ []

abbrev pub chess_debit : List ℤ → ℕ → ℤ → SectionQuestions
chess_debit f line amount =
    ask (nat_lt line line_count) (9, line)
    ∷ ask (is_amount amount) (3, line)
    ∷ ask (int_le amount (figure_at f line)) (4, line)
    ∷ ask (int_le (figure_at f line -ℤ amount) (pos largest_figure)) (2, line)
    ∷ []

abbrev pub chess_credit : List ℤ → ℕ → ℤ → SectionQuestions
chess_credit f line amount =
    ask (nat_lt line line_count) (9, line)
    ∷ ask (is_amount amount) (3, line)
    ∷ ask (int_le (figure_at f line +ℤ amount) (pos largest_figure)) (2, line)
    ∷ []

abbrev pub chess : Rule
chess = record { entry = chess_entry; debit = chess_debit; credit = chess_credit; gain = λ a b r. pair_gains a b (half_points r) }
