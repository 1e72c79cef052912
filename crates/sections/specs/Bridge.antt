-- The rule of bridge: figures are IMPs.
use Rattle.std.specs.Prelude.{ℕ, ◌+◌, ◌%◌, Bool, cond, ◌&&◌, ◌||◌, List, [], ◌∷◌, ℤ, pos, ◌+ℤ◌, ◌-ℤ◌, neg_ℤ, Some, None, Option, ◌==◌, int_lt, nat_le, nat_lt, unsigned_abs}
use Rattle.common.specs.Ranges.{between, up_to}
use Rattle.common.specs.Limits.{largest_amount, line_count}
use Rattle.common.specs.Questions.{ask}
use Rattle.sections.specs.Rule.{Rule, SectionQuestions, good_lines, figure_at}
use Rattle.sections.specs.Pairs.{is_figure, pair_gains}

-- the largest difference in points that a board can have
abbrev pub largest_difference : ℕ
largest_difference = 15000

-- a result is the difference in points at a board: a multiple of ten from -15,000 to 15,000
abbrev pub is_difference : ℤ → Bool
is_difference r = up_to (pos largest_difference) r && unsigned_abs r % 10 == 0

-- the largest difference for 0, 1, 2, .. 23 IMPs
abbrev pub limits : List ℕ
limits =
    10 ∷ 40 ∷ 80 ∷ 120 ∷ 160 ∷ 210 ∷ 260 ∷ 310 ∷ 360 ∷ 420 ∷ 490 ∷ 590
    ∷ 740 ∷ 890 ∷ 1090 ∷ 1290 ∷ 1490 ∷ 1740 ∷ 1990 ∷ 2240 ∷ 2490 ∷ 2990 ∷ 3490 ∷ 3990 ∷ []

-- how many of the limits a difference passes
abbrev pub passed : List ℕ → ℕ → ℕ
passed [] size = 0
passed (l ∷ ls) size = cond (nat_lt l size) 1 0 + passed ls size

-- the IMPs of a difference, with its sign
abbrev pub imps : ℤ → ℤ
imps r = cond (int_lt r (pos 0)) (neg_ℤ (pos (passed limits (unsigned_abs r)))) (pos (passed limits (unsigned_abs r)))

-- the IMPs of a difference by its size, where a board can have it
abbrev pub scale : ℕ → Option ℤ
scale size = cond (nat_le size largest_difference && size % 10 == 0) (Some (pos (passed limits size))) None

-- what each line gains, where there is such a difference
abbrev pub both_imps : ℤ → Option (ℤ × ℤ)
both_imps r = cond (is_difference r) (Some (imps r, neg_ℤ (imps r))) None

-- a slip carries 1 to 1,000 IMPs, won or lost
abbrev pub is_amount : ℤ → Bool
is_amount amount = between (neg_ℤ largest_amount) (neg_ℤ (pos 1)) amount || between (pos 1) largest_amount amount

abbrev pub bridge_entry : List ℤ → ℕ → ℕ → ℤ → SectionQuestions
bridge_entry f a b r =
    ask (good_lines a b) (9, a)
    ∷ ask (is_difference r) (1, a)
    ∷ ask (is_figure (figure_at f a +ℤ imps r)) (2, a)
    ∷ ask (is_figure (figure_at f b +ℤ neg_ℤ (imps r))) (2, b)
    ∷ []

abbrev pub bridge_debit : List ℤ → ℕ → ℤ → SectionQuestions
bridge_debit f line amount =
    ask (nat_lt line line_count) (9, line) ∷ ask (is_amount amount) (3, line) ∷ ask (is_figure (figure_at f line -ℤ amount)) (2, line) ∷ []

abbrev pub bridge_credit : List ℤ → ℕ → ℤ → SectionQuestions
bridge_credit f line amount =
    ask (nat_lt line line_count) (9, line) ∷ ask (is_amount amount) (3, line) ∷ ask (is_figure (figure_at f line +ℤ amount)) (2, line) ∷ []

abbrev pub bridge : Rule
bridge = record { entry = bridge_entry; debit = bridge_debit; credit = bridge_credit; gain = λ a b r. pair_gains a b (both_imps r) }
