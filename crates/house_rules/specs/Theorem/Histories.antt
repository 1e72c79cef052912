-- make, one step, and histories: lists of calls with refusals left in.
use Rattle.std.specs.Prelude.{◌≡◌, ℕ, Bool, true, false, List, [], ◌∷◌, Some, None, Option}
use Rattle.sections.specs.Rule.{Rule}
use Rattle.common.specs.Questions.{first_no}
use Rattle.methods.specs.Model.{Model}
use Rattle.house_rules.specs.State.House.{HouseState}
use Rattle.house_rules.specs.Calls.Make.{Handed, make_questions, made_house}
use Rattle.house_rules.specs.Calls.EveryCall.{Call, Answer, nothing, questions, after, reply}

-- refused with number, cause and line; or the house after the call, and its answer
pub data Outcome (Q : Type 0) : Type 0 where
  refused : ℕ × ℕ × ℕ → Outcome Q
  done : HouseState Q → Answer → Outcome Q

-- the first no refuses
abbrev pub outcome : {Q : Type 0} → Option (ℕ × ℕ × ℕ) → HouseState Q → Answer → Outcome Q
outcome None x answer = done x answer
outcome (Some code) x answer = refused code

abbrev pub make : (m : Model) → Handed → m.State → Outcome m.State
make m handed q = outcome (first_no (make_questions handed (m.rules.outstanding q))) (made_house handed q) nothing

abbrev pub step : (m : Model) → Rule → HouseState m.State → Call → Outcome m.State
step m rule x call = outcome (first_no (questions m rule x call)) (after m rule x call) (reply m x call)

-- a refusal alters nothing
abbrev pub next : {Q : Type 0} → HouseState Q → Outcome Q → HouseState Q
next x (refused code) = x
next x (done y answer) = y

-- the house after a list of calls
abbrev pub run : (m : Model) → Rule → HouseState m.State → List Call → HouseState m.State
run m rule x [] = x
run m rule x (call ∷ calls) = run m rule (next x (step m rule x call)) calls

-- what a caller gets for a call: the number, cause and line of a refusal, or the answer
pub data Response : Type 0 where
  refused_with : ℕ × ℕ × ℕ → Response
  granted : Answer → Response

abbrev pub response_of : {Q : Type 0} → Outcome Q → Response
response_of (refused code) = refused_with code
response_of (done x answer) = granted answer

-- the responses, call by call
abbrev pub responses : (m : Model) → Rule → HouseState m.State → List Call → List Response
responses m rule x [] = []
responses m rule x (call ∷ calls) = response_of (step m rule x call) ∷ responses m rule (next x (step m rule x call)) calls

-- the granted calls among a list of calls
abbrev pub only_done : {Q : Type 0} → Outcome Q → Call → List Call → List Call
only_done (refused code) call calls = calls
only_done (done x answer) call calls = call ∷ calls

abbrev pub granted_among : (m : Model) → Rule → HouseState m.State → List Call → List Call
granted_among m rule x [] = []
granted_among m rule x (call ∷ calls) = only_done (step m rule x call) call (granted_among m rule (next x (step m rule x call)) calls)

abbrev pub is_done : {Q : Type 0} → Outcome Q → Bool
is_done (refused code) = false
is_done (done x answer) = true

-- the history of a house: it was made, from a method in any state with nothing outstanding, and the calls led to it
pub record History (m : Model) (rule : Rule) (x : HouseState m.State) : Type 0 where
  pub handed : Handed
  pub method : m.State
  pub valid : m.Valid method
  pub first : HouseState m.State
  pub made : make m handed method ≡ done first nothing
  pub calls : List Call
  pub leads : run m rule first calls ≡ x

-- the granted calls of a history
abbrev pub granted_calls : (m : Model) (rule : Rule) (x : HouseState m.State) → History m rule x → List Call
granted_calls m rule x history = granted_among m rule history.first history.calls
