-- file: the text of the closed count is written, and the house is ready again.
use Rattle.std.specs.Prelude.{ℕ, ◌&&◌, List, [], ◌∷◌, ◌++◌, length, drop, ◌==◌, nat_le}
use Rattle.common.specs.Questions.{Question, Code, ask, number}
use Rattle.house_rules.specs.declared.phase.Phase.{Phase}
use Rattle.house_rules.specs.State.House.{Cells, is_closed}
use Rattle.house_rules.specs.State.Names.{slips_of}
use Rattle.house_rules.specs.Calls.CountText.{count_text}

-- the text of the count that the cells hold
abbrev pub text_of : Cells → List ℕ
text_of cells = count_text cells.recorded (slips_of cells.late)

-- closed, with as many late slips as the receipt tells; a text that is long enough
abbrev pub file_questions : Phase → Cells → (late_on_receipt : ℕ) (text : List ℕ) → List (Question Code)
file_questions p cells late_on_receipt text =
    ask (is_closed p && length cells.late == late_on_receipt) (number 21)
    ∷ ask (nat_le (length (text_of cells)) (length text)) (number 22)
    ∷ []

-- the count text over the front of what was handed in; the bytes past it keep their values
abbrev pub written_over : (written text : List ℕ) → List ℕ
written_over written text = written ++ drop (length written) text
