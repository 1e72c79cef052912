-- What is asked of an entry that gives an amount to each of two lines.
use Rattle.std.specs.Prelude.{ℕ, Bool, false, cond, List, [], ◌∷◌, ℤ, pos, ◌+ℤ◌, Some, None, Option, ◌==◌}
use Rattle.common.specs.Ranges.{up_to}
use Rattle.common.specs.Limits.{largest_figure}
use Rattle.common.specs.Questions.{ask}
use Rattle.sections.specs.Rule.{SectionQuestions, good_lines, figure_at}

-- the range of every figure
abbrev pub is_figure : ℤ → Bool
is_figure z = up_to (pos largest_figure) z

-- what is asked of a new figure of a line
abbrev pub figure_questions : (figure : ℤ) (line : ℕ) → SectionQuestions
figure_questions figure line = ask (is_figure figure) (2, line) ∷ []

-- x for line a, y for line b, nothing for the others
abbrev pub pair_gain : (a b : ℕ) (x y : ℤ) → (line : ℕ) → ℤ
pair_gain a b x y line = cond (line == a) x (cond (line == b) y (pos 0))

-- an entry that gives an amount to each of two lines; None stands for no result at all
abbrev pub pair_gains : (a b : ℕ) → Option (ℤ × ℤ) → (line : ℕ) → ℤ
pair_gains a b None line = pos 0
pair_gains a b (Some g) line = pair_gain a b g.0 g.1 line

-- what is asked of such an entry: good lines, a result, and new figures in the range
abbrev pub pair_entry : List ℤ → (a b : ℕ) → Option (ℤ × ℤ) → SectionQuestions
pair_entry f a b None = ask (good_lines a b) (9, a) ∷ ask false (1, a) ∷ []
pair_entry f a b (Some g) =
    ask (good_lines a b) (9, a)
    ∷ ask (is_figure (figure_at f a +ℤ g.0)) (2, a)
    ∷ ask (is_figure (figure_at f b +ℤ g.1)) (2, b)
    ∷ []
