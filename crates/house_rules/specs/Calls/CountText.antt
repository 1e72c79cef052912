-- The text of a count: its record, its late slips and its scores, each a line of a word and numbers.
use Rattle.std.specs.Prelude.{ℕ, ◌+◌, cond, List, [], ◌∷◌, ◌++◌, ℤ, pos, ◌+ℤ◌, codes, decimal, ◌==◌}
use Rattle.common.specs.Limits.{line_count}
use Rattle.std.specs.Fmt.{signed_decimal}
use Rattle.common.specs.Sums.{sum_of}
use Rattle.common.specs.TextLines.{text_line, unless_zero, score_lines}
use Rattle.sections.specs.Sums.{line_sum}
use Rattle.house_rules.specs.declared.slip.Slip.{Slip}

-- what a slip holds for a line, and a line's amounts on all slips
abbrev pub on_slip : (line : ℕ) → Slip → ℤ
on_slip line x = cond (x.line == line) x.amount (pos 0)

abbrev pub on_slips : (line : ℕ) → List Slip → ℤ
on_slips line slips = sum_of (on_slip line) slips

-- a line's score: its recorded figures and its amounts in the late list
abbrev pub score : (recorded : List (List ℤ)) (late : List Slip) → (line : ℕ) → ℤ
score recorded late line = line_sum (λ f. f) line recorded +ℤ on_slips line late

-- sheet, station, line, figure
abbrev pub sheet_line : (station line : ℕ) → ℤ → List ℕ
sheet_line station line figure = text_line (codes "sheet") (decimal station ∷ decimal line ∷ signed_decimal figure ∷ [])

-- the figures of a sheet from line k on that are not 0
unfoldable pub sheet_lines : (station k : ℕ) → List ℤ → List ℕ
sheet_lines station k [] = []
sheet_lines station k (x ∷ xs) = unless_zero x (sheet_line station k x) ++ sheet_lines station (k + 1) xs

-- those of all sheets from station k on
unfoldable pub record_lines : (k : ℕ) → List (List ℤ) → List ℕ
record_lines k [] = []
record_lines k (f ∷ fs) = sheet_lines k 0 f ++ record_lines (k + 1) fs

-- slip, sender, number, receiver, line, amount
abbrev pub slip_line : Slip → List ℕ
slip_line x = text_line (codes "slip") (decimal x.sender ∷ decimal x.number ∷ decimal x.receiver ∷ decimal x.line ∷ signed_decimal x.amount ∷ [])

unfoldable pub slip_lines : List Slip → List ℕ
slip_lines [] = []
slip_lines (x ∷ xs) = slip_line x ++ slip_lines xs

-- the record by station and line, the late slips as they arrived, the scores by line, end
abbrev pub count_text : (recorded : List (List ℤ)) (late : List Slip) → List ℕ
count_text recorded late = record_lines 0 recorded ++ (slip_lines late ++ (score_lines line_count 0 (score recorded late) ++ text_line (codes "end") []))
