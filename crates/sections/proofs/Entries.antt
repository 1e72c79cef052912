-- What an entry is asked, by what is asked of its two new figures.
use Rattle.std.proofs.Common.{◌≡◌, ℕ, Bool, true, false, List, ℤ, ◌+ℤ◌, Some, None, refl}
use Rattle.common.specs.Questions.{first_no}
use Rattle.sections.specs.Rule.{good_lines, figure_at}
use Rattle.sections.specs.Pairs.{figure_questions, is_figure, pair_entry}

-- where the lines are good and the first new figure is in the range, the second decides
pub pair_entry-second : (f : List ℤ) (a b : ℕ) (x y : ℤ) → good_lines a b ≡ true → first_no (figure_questions (figure_at f a +ℤ x) a) ≡ None → first_no (pair_entry f a b (Some (x, y))) ≡ first_no (figure_questions (figure_at f b +ℤ y) b)
pair_entry-second f a b x y good first = go (is_figure (figure_at f a +ℤ x)) refl
  where
    go : (t : Bool) → is_figure (figure_at f a +ℤ x) ≡ t → first_no (pair_entry f a b (Some (x, y))) ≡ first_no (figure_questions (figure_at f b +ℤ y) b)
    go true p = rw (good, p)
    go false p = let contradicts = rw p at first in cc
