-- A line's sum over several sheets.
use Rattle.std.specs.Prelude.{ℕ, List, ℤ}
use Rattle.common.specs.Sums.{sum_of}
use Rattle.sections.specs.Rule.{figure_at}

-- by what a sheet means
abbrev pub line_sum : {S : Type 0} → (S → List ℤ) → ℕ → List S → ℤ
line_sum figures line sheets = sum_of (λ s. figure_at (figures s) line) sheets
