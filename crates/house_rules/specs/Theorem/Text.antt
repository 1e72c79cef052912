-- The text of a count says everything: it has a line for each figure, slip and score, and is read back.
use Rattle.std.specs.Prelude.{◌≡◌, ℕ, ◌^◌, ◌<◌, ◌≤◌, not, List, [], ◌++◌, length, ℤ, codes, ◌==◌, slice_index_or, unsigned_abs}
use Rattle.std.specs.List.{AllByRecursion, filter, flat_map, range_with_len}
use Rattle.common.specs.Limits.{line_count, most_stations}
use Rattle.common.specs.TextLines.{text_line, score_line}
use Rattle.sections.specs.Rule.{figure_at}
use Rattle.house_rules.specs.declared.slip.Slip.{Slip}
use Rattle.house_rules.specs.Calls.CountText.{score, sheet_line, slip_line, count_text}

-- of so many lines from line 0 on, those whose figure is not 0, in order
abbrev pub lines_not_0 : (lines : ℕ) (figure_of : ℕ → ℤ) → List ℕ
lines_not_0 lines figure_of = filter (λ line. not (unsigned_abs (figure_of line) == 0)) (range_with_len 0 lines)

-- the recorded sheet of a station
abbrev pub sheet_of : (recorded : List (List ℤ)) (station : ℕ) → List ℤ
sheet_of recorded station = slice_index_or recorded station []

-- a sheet line for each figure of a station that is not 0
abbrev pub sheet_told : (station : ℕ) → List ℤ → List ℕ
sheet_told station f = flat_map (λ line. sheet_line station line (figure_at f line)) (lines_not_0 (length f) (figure_at f))

-- those of all stations in order
abbrev pub record_told : List (List ℤ) → List ℕ
record_told recorded = flat_map (λ station. sheet_told station (sheet_of recorded station)) (range_with_len 0 (length recorded))

-- a score line for each of the 32 lines whose score is not 0
abbrev pub scores_told : (recorded : List (List ℤ)) (late : List Slip) → List ℕ
scores_told recorded late = flat_map (λ line. score_line line (score recorded late line)) (lines_not_0 line_count (score recorded late))

-- each figure of the record that is not 0, each late slip and each score that is not 0 has its line, and nothing else has
abbrev pub EachHasItsLine : Type 0
EachHasItsLine =
    (recorded : List (List ℤ)) (late : List Slip) →
    count_text recorded late ≡ record_told recorded ++ (flat_map slip_line late ++ (scores_told recorded late ++ text_line (codes "end") []))

-- figures and slips that their types hold
abbrev pub FigureFits : ℤ → Type 0
FigureFits x = unsigned_abs x ≤ 2 ^ 31

pub record SheetFits (f : List ℤ) : Type 0 where
  pub lines : length f ≡ line_count
  pub figures : AllByRecursion FigureFits f

pub record SlipFits (x : Slip) : Type 0 where
  pub sender : x.sender < 2 ^ 64
  pub number : x.number < 2 ^ 32
  pub receiver : x.receiver < 2 ^ 64
  pub line : x.line < 2 ^ 32
  pub amount : FigureFits x.amount

-- a record of n sheets, and late slips
pub record CountFits (n : ℕ) (recorded : List (List ℤ)) (late : List Slip) : Type 0 where
  pub stations : length recorded ≡ n
  pub sheets : AllByRecursion SheetFits recorded
  pub slips : AllByRecursion SlipFits late

-- counts of as many stations with the same text have the same record, and the same late slips in the same order
abbrev pub IsReadBack : Type 0
IsReadBack =
    (n : ℕ) (recorded recorded' : List (List ℤ)) (late late' : List Slip) → n ≤ most_stations → CountFits n recorded late → CountFits n recorded' late' →
    count_text recorded late ≡ count_text recorded' late' → (recorded ≡ recorded') × (late ≡ late')

-- a score line tells its line and its sum
abbrev pub ScoreLineTells : Type 0
ScoreLineTells =
    (line line' : ℕ) (sum sum' : ℤ) → line < line_count → line' < line_count → FigureFits sum → FigureFits sum' →
    score_line line sum ≡ score_line line' sum' → (line ≡ line') × (sum ≡ sum')

pub record TheTextSaysEverything : Type 0 where
  pub lines : EachHasItsLine
  pub read_back : IsReadBack
  pub scores : ScoreLineTells
