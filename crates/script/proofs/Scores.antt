-- The scores of a sheet, a line at a time.
use Rattle.std.proofs.Common.{◌≡◌, ℕ, ◌+◌, List, ◌++◌, ℤ, pos, eqb, false, unsigned_abs, append-nil, arith, w32, of_z, to_z, SFits}
use Rattle.std.proofs.lemmas.Bool.Decides.{nat_tests}
use Rattle.std.proofs.lemmas.Int.{ints, to_z-of_z}
use Rattle.common.proofs.ScoreLines.{scores_none, scores_more}
use Rattle.common.specs.TextLines.{score_line, score_lines}
use Rattle.sections.specs.Rule.{figure_at}

-- a figure z of 32 bits that is 0, and any other
pub scores_zero : (f : List ℤ) (n : ℕ) (z : ℤ) → SFits w32 z → z ≡ figure_at f n → of_z w32 z ≡ 0 → score_lines (n + 1) 0 (figure_at f) ≡ score_lines n 0 (figure_at f)
scores_zero f n z fits at h =
    let e : z ≡ pos 0 = omega (arith, ints) in
    rw (scores_more n (figure_at f), ← at, e, append-nil)

pub scores_told : (f : List ℤ) (n : ℕ) (z : ℤ) → SFits w32 z → z ≡ figure_at f n → (of_z w32 z ≡ 0 → ⊥) → score_lines (n + 1) 0 (figure_at f) ≡ score_lines n 0 (figure_at f) ++ score_line n (to_z w32 (of_z w32 z))
scores_told f n z fits at h =
    let e : eqb (unsigned_abs z) 0 ≡ false = grind (arith, ints, nat_tests) in
    rw (scores_more n (figure_at f), ← at, to_z-of_z, e)

-- what `scores_text` is proved by
pub ruleset score_steps = (scores_none, scores_zero, scores_told)
