-- A round that is scored line by line.
use Rattle.std.specs.Prelude.{ℕ, List, [], ℤ, Some, None, Ok, Err, Option, Result}
use Rattle.common.specs.Questions.{Code, first_no}
use Rattle.sections.specs.Rule.{Rule, blank_sheet}
use Rattle.sections.specs.Chess.{chess}
use Rattle.sections.specs.Bridge.{bridge}
use Rattle.script.specs.Codes.{refusal_code}
use Rattle.script.specs.Entries.{entry_of}
use Rattle.script.specs.Lines.{line_questions, line_entered}
use Rattle.script.specs.Letters.{chess_result}
use Rattle.script.specs.Numbers.{number}
use Rattle.script.specs.Texts.{sheet_scores}
use Rattle.script.specs.Words.{kind_of}
use Rattle.script.specs.declared.entries.Entry.{Entry}
use Rattle.script.specs.declared.refusal.Refusal.{Refusal}
use Rattle.script.specs.declared.words.Kind.{Kind}
use Rattle.script.specs.declared.words.Kind.TheVariants.{Chess, Bridge}

-- no section has been named yet, or the figures of the section's sheet
pub data TallyState : Type 0 where
  waiting : TallyState
  playing : Kind → List ℤ → TallyState

-- the rule of a section, and how its results are written
abbrev pub rule_of : Kind → Rule
rule_of Chess = chess
rule_of Bridge = bridge

abbrev pub result_of : Kind → List ℕ → Option ℤ
result_of Chess = chess_result
result_of Bridge = number

-- the number, cause and line of an answer; all 0 where nothing is refused
abbrev pub answer_code : Result Unit Refusal → Code
answer_code (Ok _) = (0, 0, 0)
answer_code (Err x) = refusal_code x

-- the line that names the section
abbrev pub started : Option Kind → TallyState × Code
started None = (waiting, (27, 0, 0))
started (Some kind) = (playing kind blank_sheet, (0, 0, 0))

-- the first no refuses, and then the figures stay
abbrev pub granted_or_told : Kind → (before after : List ℤ) → Option Code → TallyState × Code
granted_or_told kind before after None = (playing kind after, (0, 0, 0))
granted_or_told kind before after (Some code) = (playing kind before, code)

-- a line that enters a result
abbrev pub played_entry : Kind → List ℤ → Option Entry → TallyState × Code
played_entry kind f entry = granted_or_told kind f (line_entered (rule_of kind) f entry) (first_no (line_questions (rule_of kind) f entry))

-- the round after a line, and the answer's number, cause and line; None stands for a line that is too long
abbrev pub played : TallyState → Option (List ℕ) → TallyState × Code
played round None = (round, (27, 0, 0))
played waiting (Some line) = started (kind_of line)
played (playing kind f) (Some line) = played_entry kind f (entry_of (result_of kind) line)

-- what is told at the end
abbrev pub end_text : TallyState → List ℕ
end_text waiting = []
end_text (playing kind f) = sheet_scores f
