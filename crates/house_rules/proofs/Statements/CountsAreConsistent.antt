-- CountsAreConsistent: every count that is closed is consistent.
use Rattle.std.proofs.Common.{◌≡◌, None, sym, ◌∙◌, subst}
use Rattle.std.proofs.lemmas.Bool.{eqb-true}
use Rattle.sections.specs.Rule.{Rule}
use Rattle.methods.specs.Model.{Model}
use Rattle.common.specs.Questions.{first_no}
use Rattle.house_rules.specs.declared.phase.Phase.TheVariants.{Closed}
use Rattle.house_rules.specs.Calls.EveryCall.{Answer, close}
use Rattle.house_rules.specs.State.Changes.{in_phase}
use Rattle.house_rules.specs.Calls.Close.{close_questions}
use Rattle.house_rules.specs.Theorem.Cut.{Cut, cut_of}
use Rattle.house_rules.specs.Theorem.Histories.{step, History, granted_calls, done}
use Rattle.house_rules.specs.State.House.{HouseState}
use Rattle.house_rules.specs.Theorem.Statements.{Consistent, CountsAreConsistent}
use Rattle.common.proofs.AllYes.{AllYes, all_yes_lem}
use Rattle.house_rules.proofs.Statements.CloseIsACut.{consistent}
use Rattle.house_rules.proofs.Invariant.WholeHouse.{Holds}
use Rattle.house_rules.proofs.Calls.Outcome.{step_done}
use Rattle.house_rules.proofs.Invariant.Phases.{is_counting_lem}
use Rattle.house_rules.proofs.Invariant.Sound.{During}
use Rattle.house_rules.proofs.Calls.Turn.{during_of}
use Rattle.house_rules.proofs.Calls.MethodQuestions.{house_decides}
use Rattle.methods.specs.Model as models
use Rattle.house_rules.proofs.Statements.EveryHistory.{history_holds}

-- a granted close
module _ (m : Model) (ml : models.Lawful m) (rule : Rule) (x y : HouseState m.State) (answer : Answer) (history : History m rule x) (answered : step m rule x close ≡ done y answer) where
  abbrev pub c : Cut
  c = cut_of (granted_calls m rule x history)

  pub holds : Holds m rule (cut_of (granted_calls m rule x history)) x
  holds = history_holds m ml rule x history

  pub closed : (first_no (close_questions x.phase x.cells (m.rules.outstanding x.method)) ≡ None) × (in_phase x Closed ≡ y)
  closed = let g = step_done m rule x close y answer answered in (sym (house_decides m rule c x holds close) ∙ g.0, g.1)

  pub yes : AllYes (close_questions x.phase x.cells (m.rules.outstanding x.method))
  yes = all_yes_lem (close_questions x.phase x.cells (m.rules.outstanding x.method)) closed.0

  pub during : During rule (cut_of (granted_calls m rule x history)) x.cells (m.rules.outstanding x.method)
  during = during_of rule c x.phase x.cells (m.rules.outstanding x.method) holds.sound (is_counting_lem x.phase yes.0)

  pub close_consistent : Consistent rule (cut_of (granted_calls m rule x history)).before (cut_of (granted_calls m rule x history)).after y.cells
  close_consistent =
      subst (λ (z : HouseState m.State). Consistent rule c.before c.after z.cells) closed.1
      (consistent rule c x.phase x.cells (m.rules.outstanding x.method) holds.sound during yes.1.0 (eqb-true (m.rules.outstanding x.method) 0 yes.1.1.0))

pub counts_are_consistent : (m : Model) → models.Lawful m → CountsAreConsistent m
counts_are_consistent m ml rule x y answer answered history = close_consistent m ml rule x y answer history answered
