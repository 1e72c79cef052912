-- Every call: what the outcome of a step says of its questions.
use Rattle.std.proofs.Common.{◌≡◌, ℕ, Some, None, Option, sym, refl, ap}
use Rattle.std.proofs.lemmas.Bool.{true≢false}
use Rattle.sections.specs.Rule.{Rule}
use Rattle.methods.specs.Model.{Model}
use Rattle.common.specs.Questions.{first_no}
use Rattle.house_rules.specs.Calls.EveryCall.{Call, Answer, questions, after, reply}
use Rattle.house_rules.specs.Theorem.Histories.{Outcome, outcome, step, is_done, refused, done}
use Rattle.house_rules.specs.State.House.{HouseState}

abbrev house_or : {Q : Type 0} → HouseState Q → Outcome Q → HouseState Q
house_or z (refused code) = z
house_or z (done x answer) = x

abbrev answer_or : {Q : Type 0} → Answer → Outcome Q → Answer
answer_or z (refused code) = z
answer_or z (done x answer) = answer

abbrev code_or : {Q : Type 0} → ℕ × ℕ × ℕ → Outcome Q → ℕ × ℕ × ℕ
code_or z (refused code) = code
code_or z (done x answer) = z

pub done_same : {Q : Type 0} (x y : HouseState Q) (a b : Answer) → ◌≡◌ {A = Outcome Q} (done x a) (done y b) → (x ≡ y) × (a ≡ b)
done_same x y a b e = (ap (house_or x) e, ap (answer_or a) e)

pub never_done : {Q : Type 0} (code : ℕ × ℕ × ℕ) (x : HouseState Q) (a : Answer) → ◌≡◌ {A = Outcome Q} (refused code) (done x a) → ⊥
never_done code x a e = true≢false (sym (ap is_done e))

pub outcome_done : {Q : Type 0} (o : Option (ℕ × ℕ × ℕ)) (x y : HouseState Q) (a b : Answer) → outcome o x a ≡ done y b → (o ≡ None) × (x ≡ y)
outcome_done None x y a b e = (refl, (done_same x y a b e).0)
outcome_done (Some code) x y a b e = absurd (never_done code y b e)

pub outcome_answer : {Q : Type 0} (o : Option (ℕ × ℕ × ℕ)) (x y : HouseState Q) (a b : Answer) → outcome o x a ≡ done y b → a ≡ b
outcome_answer None x y a b e = (done_same x y a b e).1
outcome_answer (Some code) x y a b e = absurd (never_done code y b e)

pub outcome_refused : {Q : Type 0} (o : Option (ℕ × ℕ × ℕ)) (x : HouseState Q) (a : Answer) (code : ℕ × ℕ × ℕ) → outcome o x a ≡ refused code → o ≡ Some code
outcome_refused None x a code e = absurd (never_done code x a (sym e))
outcome_refused (Some k) x a code e = ap Some (ap (code_or k) e)

pub step_done : (m : Model) (rule : Rule) (x : HouseState m.State) (call : Call) (y : HouseState m.State) (answer : Answer) → step m rule x call ≡ done y answer → (first_no (questions m rule x call) ≡ None) × (after m rule x call ≡ y)
step_done m rule x call y answer e = outcome_done (first_no (questions m rule x call)) (after m rule x call) y (reply m x call) answer e
