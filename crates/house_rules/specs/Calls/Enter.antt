-- enter: a result is entered on a station's sheet.
use Rattle.std.specs.Prelude.{ℕ, List, ◌∷◌, ℤ, nat_lt}
use Rattle.sections.specs.Rule.{Rule, entered, good_lines}
use Rattle.sections.specs.Codes.{section_code}
use Rattle.common.specs.Questions.{Question, Code, ask, number, told_as}
use Rattle.house_rules.specs.State.House.{Cells, sheet_at}
use Rattle.house_rules.specs.State.Changes.{with_sheet}

-- a station of the house; two lines that differ; the section
abbrev pub enter_questions : Rule → Cells → (s a b : ℕ) (r : ℤ) → List (Question Code)
enter_questions rule cells s a b r =
    ask (nat_lt s cells.n) (number 4)
    ∷ ask (good_lines a b) (number 5)
    ∷ told_as section_code (rule.entry (sheet_at cells s) a b r)

abbrev pub entered_cells : Rule → Cells → (s a b : ℕ) (r : ℤ) → Cells
entered_cells rule cells s a b r = with_sheet cells s (entered (sheet_at cells s) (rule.gain a b r))
