-- The number, cause and line of what a script is refused.
use Rattle.std.specs.Prelude.{ℕ}
use Rattle.sections.specs.Codes.{fault_code}
use Rattle.script.specs.declared.refusal.Refusal.{Refusal}
use Rattle.script.specs.declared.refusal.Refusal.TheVariants.{Malformed, Section}

abbrev pub refusal_code : Refusal → ℕ × ℕ × ℕ
refusal_code Malformed = (27, 0, 0)
refusal_code (Section f) = fault_code f
