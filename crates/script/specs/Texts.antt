-- What the programs write: words and numbers parted by tabs (byte 9), each line ended by byte 10.
use Rattle.std.specs.Prelude.{ℕ, List, [], ◌∷◌, ◌++◌, ℤ, Ok, Err, codes, decimal, Result}
use Rattle.common.specs.Limits.{line_count}
use Rattle.common.specs.TextLines.{score_lines}
use Rattle.sections.specs.Rule.{figure_at}
use Rattle.script.specs.Codes.{refusal_code}
use Rattle.script.specs.declared.refusal.Refusal.{Refusal}

abbrev pub ok_text : List ℕ
ok_text = codes "ok" ++ (10 ∷ [])

-- a refusal: no, number, cause, line
abbrev pub refusal_text : ℕ × ℕ × ℕ → List ℕ
refusal_text c = codes "no\t" ++ (decimal c.0 ++ (9 ∷ [] ++ (decimal c.1 ++ (9 ∷ [] ++ decimal c.2))))

-- the line that tells it
abbrev pub no_text : ℕ × ℕ × ℕ → List ℕ
no_text c = refusal_text c ++ (10 ∷ [])

abbrev pub answer_text : Result Unit Refusal → List ℕ
answer_text (Ok _) = ok_text
answer_text (Err x) = no_text (refusal_code x)

-- the scores of a sheet
abbrev pub sheet_scores : List ℤ → List ℕ
sheet_scores f = score_lines line_count 0 (figure_at f)
