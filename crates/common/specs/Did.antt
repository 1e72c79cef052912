-- What every call promises.
use Rattle.std.specs.Prelude.{◌≡◌, List, Some, None, Result, MatchResult}
use Rattle.common.specs.Questions.{Question, first_no}

-- granted exactly where no question is answered no, and then `Granted` holds of the answer;
-- refused otherwise, and the refusal's code is what the first no tells
abbrev pub Answers : {A E C : Type 0} → List (Question C) → (code : E → C) → (Granted : A → Type 0) → Result A E → Type 0
Answers questions code Granted r =
    MatchResult r
    (λ answer. (first_no questions ≡ None) × Granted answer)
    (λ refusal. first_no questions ≡ Some (code refusal))

-- the same of a call that may alter a value: a refusal leaves the whole value as it was
abbrev pub Did : {A E C V : Type 0} → List (Question C) → (code : E → C) → (Granted : A → Type 0) → (before after : V) → Result A E → Type 0
Did questions code Granted before after r =
    MatchResult r
    (λ answer. (first_no questions ≡ None) × Granted answer)
    (λ refusal. (first_no questions ≡ Some (code refusal)) × (after ≡ before))
