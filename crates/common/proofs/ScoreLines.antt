-- The scores of lines, one line at a time.
use Rattle.std.proofs.Common.{◌≡◌, ℕ, zero, suc, ◌+◌, [], ◌++◌, ℤ, sym, refl, ap, ◌∙◌, append_assoc, append-nil, add-one, arith}
use Rattle.common.specs.TextLines.{score_line, score_lines, unless_zero}

pub scores_none : (k : ℕ) (score_of : ℕ → ℤ) → score_lines 0 k score_of ≡ []
unfolding score_lines
scores_none k score_of = refl

more : (n k : ℕ) (score_of : ℕ → ℤ) → score_lines (suc n) k score_of ≡ score_lines n k score_of ++ unless_zero (score_of (k + n)) (score_line (k + n) (score_of (k + n)))
unfolding score_lines
more zero k score_of = let e : k + 0 ≡ k = omega arith in rw (e, append-nil)
more (suc n) k score_of =
    let e : k + 1 + n ≡ k + suc n = omega arith in
    ap (λ t. unless_zero (score_of k) (score_line k (score_of k)) ++ t) (more n (k + 1) score_of ∙ ap (λ j. score_lines n (k + 1) score_of ++ unless_zero (score_of j) (score_line j (score_of j))) e)
    ∙ sym (append_assoc (unless_zero (score_of k) (score_line k (score_of k))) (score_lines n (k + 1) score_of) (unless_zero (score_of (k + suc n)) (score_line (k + suc n) (score_of (k + suc n)))))

-- one line more at the end
pub scores_more : (n : ℕ) (score_of : ℕ → ℤ) → score_lines (n + 1) 0 score_of ≡ score_lines n 0 score_of ++ unless_zero (score_of n) (score_line n (score_of n))
scores_more n score_of = let e : 0 + n ≡ n = omega arith in rw add-one (more n 0 score_of ∙ ap (λ j. score_lines n 0 score_of ++ unless_zero (score_of j) (score_line j (score_of j))) e)
