-- Slips by name: a name is a sender and a number.
use Rattle.std.specs.Prelude.{ℕ, Bool, cond, ◌&&◌, List, [], ◌∷◌, map, Some, None, Option, ◌==◌}
use Rattle.house_rules.specs.declared.slip.Slip.{Slip}
use Rattle.house_rules.specs.declared.slip.ColouredSlip.{ColouredSlip}

-- the one place where names are compared
abbrev pub same_name : (sender number : ℕ) (sender' number' : ℕ) → Bool
same_name a b x y = x == a && y == b

abbrev pub named : (sender number : ℕ) → Slip → Bool
named a b x = same_name a b x.sender x.number

-- the first element that passes
abbrev pub first_where : {X : Type 0} → (X → Bool) → List X → Option X
first_where p [] = None
first_where p (x ∷ xs) = cond (p x) (Some x) (first_where p xs)

-- the elements without the first that passes; the others keep their order
abbrev pub without_first : {X : Type 0} → (X → Bool) → List X → List X
without_first p [] = []
without_first p (x ∷ xs) = cond (p x) xs (x ∷ without_first p xs)

-- the first slip of that name, and the slips without it
abbrev pub find : (sender number : ℕ) → List Slip → Option Slip
find a b xs = first_where (named a b) xs

abbrev pub without : (sender number : ℕ) → List Slip → List Slip
without a b xs = without_first (named a b) xs

-- the same of slips with their colours
abbrev pub find_coloured : (sender number : ℕ) → List ColouredSlip → Option ColouredSlip
find_coloured a b xs = first_where (λ (x : ColouredSlip). named a b x.slip) xs

abbrev pub without_coloured : (sender number : ℕ) → List ColouredSlip → List ColouredSlip
without_coloured a b xs = without_first (λ (x : ColouredSlip). named a b x.slip) xs

-- the slips, their colours set aside
abbrev pub slips_of : List ColouredSlip → List Slip
slips_of xs = map (λ (x : ColouredSlip). x.slip) xs
