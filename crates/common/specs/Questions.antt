-- Questions that a call asks in order: the first no gives the refusal.
use Rattle.std.specs.Prelude.{ℕ, Bool, true, cond, ◌&&◌, List, [], ◌∷◌, map, Some, None, Option}

-- a question, and what is told where its answer is no: most often a code
pub record Question (C : Type 0) : Type 0 where
  pub yes? : Bool
  pub told : C

-- the number, cause and line of a refusal
abbrev pub Code : Type 0
Code = ℕ × ℕ × ℕ

-- a code with neither cause nor line
abbrev pub number : ℕ → Code
number k = (k, 0, 0)

abbrev pub ask : {C : Type 0} → Bool → C → Question C
ask yes? told = record { yes? = yes?; told = told }

-- the same questions, where the no of each is told in another way
abbrev pub told_as : {C D : Type 0} → (C → D) → List (Question C) → List (Question D)
told_as {C} f questions = map (λ (q : Question C). ask q.yes? (f q.told)) questions

-- what the first question that is answered no tells; None where all are answered yes
abbrev pub first_no : {C : Type 0} → List (Question C) → Option C
first_no [] = None
first_no (q ∷ qs) = cond q.yes? (first_no qs) (Some q.told)

-- whether all are answered yes
abbrev pub all_yes : {C : Type 0} → List (Question C) → Bool
all_yes [] = true
all_yes (q ∷ qs) = q.yes? && all_yes qs
