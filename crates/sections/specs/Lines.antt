-- A question about one line of a sheet.
use Rattle.std.specs.Prelude.{ℕ, [], ◌∷◌, Result, nat_lt}
use Rattle.common.specs.Limits.{line_count}
use Rattle.common.specs.Questions.{ask}
use Rattle.common.specs.Did.{Answers}
use Rattle.sections.specs.declared.fault.Fault.{Fault}
use Rattle.sections.specs.Codes.{cause_and_line}

-- granted exactly where a sheet has the line, and then the fact holds of what is answered; refused otherwise for a bad line
abbrev pub ReadsLine : {X : Type 0} → (line : ℕ) → Result X Fault → (X → Type 0) → Type 0
ReadsLine line r P = Answers (ask (nat_lt line line_count) (9, line) ∷ []) cause_and_line P r
