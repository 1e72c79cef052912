-- Lines of text: a word and fields, parted by tabs (byte 9), ended by a line feed (byte 10).
use Rattle.std.specs.Prelude.{ℕ, zero, suc, ◌+◌, cond, List, [], ◌∷◌, ◌++◌, ℤ, codes, decimal, ◌==◌, unsigned_abs}
use Rattle.std.specs.Fmt.{signed_decimal}

-- the fields of a line, each behind its tab, and the end of the line
abbrev pub fields_text : List (List ℕ) → List ℕ
fields_text [] = 10 ∷ []
fields_text (f ∷ fs) = 9 ∷ (f ++ fields_text fs)

abbrev pub text_line : (word : List ℕ) (fields : List (List ℕ)) → List ℕ
text_line word fields = word ++ fields_text fields

-- score, line, sum
abbrev pub score_line : (line : ℕ) → ℤ → List ℕ
score_line line sum = text_line (codes "score") (decimal line ∷ signed_decimal sum ∷ [])

-- only what is not 0 is told
abbrev pub unless_zero : ℤ → List ℕ → List ℕ
unless_zero z text = cond (unsigned_abs z == 0) [] text

-- the scores that are not 0 of so many lines from line k on
unfoldable pub score_lines : (lines k : ℕ) → (score_of : ℕ → ℤ) → List ℕ
score_lines zero k score_of = []
score_lines (suc lines) k score_of = unless_zero (score_of k) (score_line k (score_of k)) ++ score_lines lines (k + 1) score_of
