-- What a line of a script asks of a sheet, and what it leaves where it is granted.
use Rattle.std.specs.Prelude.{false, List, [], ◌∷◌, ℤ, Some, None, Option}
use Rattle.common.specs.Questions.{Question, Code, ask, number, told_as}
use Rattle.sections.specs.Rule.{Rule, entered}
use Rattle.sections.specs.Codes.{section_code}
use Rattle.script.specs.declared.entries.Entry.{Entry}

-- a malformed line is refused by 27; any other is asked what the rule asks of the entry
abbrev pub line_questions : Rule → (figures : List ℤ) → Option Entry → List (Question Code)
line_questions rule f None = ask false (number 27) ∷ []
line_questions rule f (Some e) = told_as section_code (rule.entry f e.a e.b e.r)

-- the figures after it
abbrev pub line_entered : Rule → (figures : List ℤ) → Option Entry → List ℤ
line_entered rule f None = f
line_entered rule f (Some e) = entered f (rule.gain e.a e.b e.r)
