-- Figures stay in their range.
use Rattle.std.proofs.Common.{◌≡◌, ℕ, zero, suc, true, List, [], ◌∷◌, set, replicate, ℤ, pos, neg_ℤ, ◌≤ℤ◌, arith}
use Rattle.common.specs.Limits.{largest_figure}
use Rattle.std.proofs.lemmas.Int.{ints}
use Rattle.sections.specs.Rule.{Within}
use Rattle.sections.specs.Pairs.{is_figure}

-- a figure in the range may stand in the place of another
pub within_set : (n : ℕ) (f : List ℤ) (i : ℕ) (z : ℤ) → neg_ℤ (pos n) ≤ℤ z → z ≤ℤ pos n → Within n f → Within n (set f i z)
within_set n [] i z low high w k = w k
within_set n (x ∷ xs) zero z low high w zero = (low, high)
within_set n (x ∷ xs) zero z low high w (suc k) = w (suc k)
within_set n (x ∷ xs) (suc i) z low high w zero = w zero
within_set n (x ∷ xs) (suc i) z low high w (suc k) = within_set n xs i z low high (λ j. w (suc j)) k

pub within_same : (n m : ℕ) (z : ℤ) → neg_ℤ (pos n) ≤ℤ z → z ≤ℤ pos n → Within n (replicate m z)
within_same n zero z low high k = (omega (arith, ints), omega (arith, ints))
within_same n (suc m) z low high zero = (low, high)
within_same n (suc m) z low high (suc k) = within_same n m z low high k

pub figure_yes : (z : ℤ) → neg_ℤ (pos largest_figure) ≤ℤ z → z ≤ℤ pos largest_figure → is_figure z ≡ true
figure_yes z low high = grind (arith, ints)

pub figure_low : (z : ℤ) → is_figure z ≡ true → neg_ℤ (pos largest_figure) ≤ℤ z
figure_low z h = grind (arith, ints)

pub figure_high : (z : ℤ) → is_figure z ≡ true → z ≤ℤ pos largest_figure
figure_high z h = grind (arith, ints)
