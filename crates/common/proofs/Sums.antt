-- Sums over a list, one element more at the end.
use Rattle.std.proofs.Common.{◌≡◌, ℕ, zero, suc, ◌+◌, ◌<◌, List, [], ◌∷◌, ◌++◌, length, get_or, take, ℤ, ◌+ℤ◌, add-one, arith}
use Rattle.std.proofs.lemmas.Int.{ints}
use Rattle.common.specs.Sums.{sum_of}

pub sum_push : {X : Type 0} (f : X → ℤ) (xs : List X) (y : X) → sum_of f (xs ++ y ∷ []) ≡ sum_of f xs +ℤ f y
sum_push f [] y = omega (arith, ints)
sum_push f (x ∷ xs) y = let ih = sum_push f xs y in omega (arith, ints)

step : {X : Type 0} (f : X → ℤ) (xs : List X) (k : ℕ) (d : X) → k < length xs → sum_of f (take (suc k) xs) ≡ sum_of f (take k xs) +ℤ f (get_or xs k d)
step f [] k d h = absurd (omega arith)
step f (x ∷ xs) zero d h = omega (arith, ints)
step f (x ∷ xs) (suc k) d h = let ih = step f xs k d (omega arith) in omega (arith, ints)

pub sum_more : {X : Type 0} (f : X → ℤ) (xs : List X) (k : ℕ) (d : X) → k < length xs → sum_of f (take (k + 1) xs) ≡ sum_of f (take k xs) +ℤ f (get_or xs k d)
sum_more f xs k d h = rw add-one (step f xs k d h)
