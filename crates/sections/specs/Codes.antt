-- The cause and line of a section's refusal, and its number.
use Rattle.std.specs.Prelude.{ℕ}
use Rattle.common.specs.Questions.{Code}
use Rattle.sections.specs.declared.fault.Fault.{Fault}
use Rattle.sections.specs.declared.fault.Cause.{Cause}
use Rattle.sections.specs.declared.fault.Cause.TheVariants.{BadLines, BadResult, BadAmount, TooLittle, OutOfRange}

abbrev pub cause_number : Cause → ℕ
cause_number BadResult = 1
cause_number OutOfRange = 2
cause_number BadAmount = 3
cause_number TooLittle = 4
cause_number BadLines = 9

-- what a section's questions tell
abbrev pub cause_and_line : Fault → ℕ × ℕ
cause_and_line f = (cause_number f.cause, f.line)

-- whatever a section refuses has number 6
abbrev pub section_code : ℕ × ℕ → Code
section_code told = (6, told.0, told.1)

abbrev pub fault_code : Fault → Code
fault_code f = section_code (cause_and_line f)
