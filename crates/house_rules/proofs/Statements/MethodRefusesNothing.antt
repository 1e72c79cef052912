-- MethodRefusesNothing: no refusal in a history is the method's.
use Rattle.std.proofs.Common.{◌≡◌, ℕ, ◌<◌, List, refl, subst, Bool, true, false, cond, ltb, [], ◌∷◌, length, Some, None, Option, sym, ◌∙◌, arith}
use Rattle.sections.specs.Codes.{section_code}
use Rattle.sections.specs.Rule.{SectionQuestions, Rule}
use Rattle.methods.specs.Model.{Model}
use Rattle.common.specs.Questions.{Question, Code, ask, number, told_as, first_no}
use Rattle.house_rules.specs.declared.phase.Phase.{Phase}
use Rattle.house_rules.specs.declared.slip.ColouredSlip.{ColouredSlip}
use Rattle.house_rules.specs.Calls.Questions.{is_deficit}
use Rattle.house_rules.specs.Calls.EveryCall.{Call, house_questions, method_questions, questions, after, reply, open', turn, gather, report, close, file, event}
use Rattle.house_rules.specs.Theorem.Cut.{cut_of}
use Rattle.house_rules.specs.Theorem.Histories.{granted_calls}
use Rattle.house_rules.specs.State.House.{Cells, sheet_at}
use Rattle.house_rules.specs.Theorem.Statements.{MethodRefusesNothing}
use Rattle.house_rules.specs.Calls.Take.{is_late, running_after, take_questions, under_way}
use Rattle.common.proofs.AllYes.{all_yes_lem, no_first}
use Rattle.house_rules.proofs.Statements.EveryHistory.{history_holds}
use Rattle.house_rules.proofs.Calls.Outcome.{outcome_refused}
use Rattle.house_rules.proofs.Calls.MethodQuestions.{method_yes, house_decides}
use Rattle.methods.specs.Model as models
use Rattle.house_rules.specs.Calls.Event.{enter, post, take}

-- the numbers of all questions are below 23
abbrev pub Low : List (Question Code) → Type 0
Low [] = Unit {0}
Low (q ∷ qs) = (q.told.0 < 23) × Low qs

pub low_first : (qs : List (Question Code)) (code : Code) → Low qs → first_no qs ≡ Some code → code.0 < 23
low_first [] code l e = let z : ◌≡◌ {A = ℕ} 0 1 = cc in absurd (omega arith)
low_first (q ∷ qs) code l e = go q.yes? refl (low_first qs code l.1)
  where
    go : (b : Bool) → q.yes? ≡ b → (first_no qs ≡ Some code → code.0 < 23) → code.0 < 23
    go true t ih = ih (cc)
    go false t ih = let s : q.told ≡ code = cc in subst (λ (k : Code). k.0 < 23) s l.0

low_section : (qs : SectionQuestions) → Low (told_as section_code qs)
low_section [] = tt
low_section (q ∷ qs) = (omega arith, low_section qs)

low_take : (rule : Rule) (p : Phase) (cells : Cells) (o : Option ColouredSlip) → Low (take_questions rule p cells o)
low_take rule p cells None = (omega arith, tt)
low_take rule p cells (Some x) = (go (is_late p cells x), (low_section (rule.credit (sheet_at cells x.slip.receiver) x.slip.line x.slip.amount)))
  where
    go : (b : Bool) → (cond b (ask (ltb (length cells.late) cells.late_cells) (number 11)) (ask (is_deficit (running_after p cells x)) (number 8))).told.0 < 23
    go true = omega arith
    go false = omega arith

low_house : (rule : Rule) (p : Phase) (cells : Cells) (out : ℕ) (call : Call) → Low (house_questions rule p cells out call)
low_house rule p cells out (event (enter s a b r)) = (omega arith, (omega arith, low_section (rule.entry (sheet_at cells s) a b r)))
low_house rule p cells out (event (post s to line amount)) = (omega arith, (omega arith, (omega arith, (omega arith, (omega arith, low_section (rule.debit (sheet_at cells s) line amount))))))
low_house rule p cells out (event (take a b)) = low_take rule p cells (under_way cells a b)
low_house rule p cells out (open' s) = (omega arith, (omega arith, tt))
low_house rule p cells out (turn s) = (omega arith, (omega arith, (omega arith, tt)))
low_house rule p cells out (gather s) = (omega arith, (omega arith, (omega arith, (omega arith, (omega arith, tt)))))
low_house rule p cells out (report s) = (omega arith, (omega arith, (omega arith, (omega arith, tt))))
low_house rule p cells out close = (omega arith, (omega arith, (omega arith, tt)))
low_house rule p cells out (file late_on_receipt text) = (omega arith, (omega arith, tt))

pub method_refuses_nothing : (m : Model) → models.Lawful m → MethodRefusesNothing m
method_refuses_nothing m ml rule x history call = (
  λ e. no_first (method_questions m x call) (method_yes m rule (cut_of (granted_calls m rule x history)) x (history_holds m ml rule x history) call (all_yes_lem (house_questions rule x.phase x.cells (m.rules.outstanding x.method) call) e)),
  λ code e.
      let k = history_holds m ml rule x history in
      let o = outcome_refused (first_no (questions m rule x call)) (after m rule x call) (reply m x call) code e in
      low_first (house_questions rule x.phase x.cells (m.rules.outstanding x.method) call) code (low_house rule x.phase x.cells (m.rules.outstanding x.method) call) (sym (house_decides m rule (cut_of (granted_calls m rule x history)) x k call) ∙ o),
)
