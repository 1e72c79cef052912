-- CloseTellsTheMessages: the messages that a house keeps are those that its calls and their answers tell.
use Rattle.std.proofs.Common.{◌≡◌, ℕ, ◌+◌, Bool, true, false, cond, eqb, List, [], ◌∷◌, length, nat_abs, Some, None, Option, sym, refl, ap, ◌∙◌}
use Rattle.sections.specs.Rule.{Rule}
use Rattle.methods.specs.Model.{Model}
use Rattle.common.specs.Questions.{first_no}
use Rattle.house_rules.specs.declared.phase.Phase.{Phase}
use Rattle.house_rules.specs.declared.slip.ColouredSlip.{ColouredSlip}
use Rattle.house_rules.specs.Calls.EveryCall.{Call, questions, after, reply, open', turn, gather, report, close, file, receipt, event}
use Rattle.house_rules.specs.State.Changes.{with_cells}
use Rattle.house_rules.specs.Calls.Gather.{sum_at, gathered_cells, root_gathers, after_gather}
use Rattle.house_rules.specs.Theorem.Messages.{messages_after, messages_by, messages_since, CloseTellsTheMessages}
use Rattle.house_rules.specs.Theorem.Histories.{outcome, next, run, History}
use Rattle.house_rules.specs.State.House.{Cells, HouseState}
use Rattle.house_rules.specs.Calls.Take.{is_late, turns_receiver, arrives, arrives_late, taken_cells, under_way}
use Rattle.house_rules.specs.Calls.Turn.{turns}
use Rattle.house_rules.proofs.Statements.EveryHistory.{made_yes}
use Rattle.house_rules.proofs.Calls.Outcome.{outcome_answer, step_done}
use Rattle.house_rules.specs.Calls.Event.{enter, post, take}

taken_sent : (p : Phase) (cells : Cells) (o : Option ColouredSlip) → (taken_cells p cells o).messages ≡ cells.messages
taken_sent p cells None = refl
taken_sent p cells (Some x) = go (is_late p cells x) (turns_receiver p cells x)
  where
    go : (a b : Bool) → (cond a (arrives_late cells x) (arrives (cond b (turns cells x.slip.receiver) cells) x)).messages ≡ cells.messages
    go true b = refl
    go false true = refl
    go false false = refl

module _ (m : Model) (rule : Rule) where
  gathered_sent : (x : HouseState m.State) (s : ℕ) → (after_gather m x s).cells.messages ≡ cond (eqb s 0) (x.cells.messages + m.rules.begin_sent x.method x.cells.n (nat_abs (sum_at x.cells s))) x.cells.messages
  gathered_sent x s = go (eqb s 0)
    where
      go : (b : Bool) → (cond b (root_gathers m x s) (with_cells x (gathered_cells x.cells s))).cells.messages ≡ cond b (x.cells.messages + m.rules.begin_sent x.method x.cells.n (nat_abs (sum_at x.cells s))) x.cells.messages
      go true = refl
      go false = refl

  granted_sent : (x : HouseState m.State) (call : Call) → (after m rule x call).cells.messages ≡ messages_after m x x.cells.messages call (reply m x call)
  granted_sent x (event (enter s a b r)) = refl
  granted_sent x (event (post s to line amount)) = refl
  granted_sent x (event (take a b)) = taken_sent x.phase x.cells (under_way x.cells a b)
  granted_sent x (open' s) = refl
  granted_sent x (turn s) = refl
  granted_sent x (gather s) = gathered_sent x s
  granted_sent x (report s) = refl
  granted_sent x close = refl
  granted_sent x (file late_on_receipt text) = refl

  run_sent : (calls : List Call) (x : HouseState m.State) → (run m rule x calls).cells.messages ≡ messages_since m rule x x.cells.messages calls
  run_sent [] x = refl
  run_sent (call ∷ calls) x = go (first_no (questions m rule x call)) (λ x'. run_sent calls x')
    where
      go : (o : Option (ℕ × ℕ × ℕ)) → ((x' : HouseState m.State) → (run m rule x' calls).cells.messages ≡ messages_since m rule x' x'.cells.messages calls) → (run m rule (next x (outcome o (after m rule x call) (reply m x call))) calls).cells.messages ≡ messages_since m rule (next x (outcome o (after m rule x call) (reply m x call))) (messages_by m x x.cells.messages call (outcome o (after m rule x call) (reply m x call))) calls
      go None ih = ih (after m rule x call) ∙ ap (λ k. messages_since m rule (after m rule x call) k calls) (granted_sent x call)
      go (Some code) ih = ih x

  pub history_sent : (x : HouseState m.State) (history : History m rule x) → x.cells.messages ≡ messages_since m rule history.first 0 history.calls
  history_sent x history =
      let g = made_yes m history.handed history.method history.first history.made in
      ap (λ (y : HouseState m.State). y.cells.messages) (sym history.leads)
      ∙ run_sent history.calls history.first
      ∙ ap (λ k. messages_since m rule history.first k history.calls) (ap (λ (y : HouseState m.State). y.cells.messages) g.1)

pub close_tells_the_messages : (m : Model) → CloseTellsTheMessages m
close_tells_the_messages m rule x y answer answered history =
    let e = step_done m rule x close y answer answered in
    sym (outcome_answer (first_no (questions m rule x close)) (after m rule x close) y (reply m x close) answer answered)
    ∙ ap (λ k. receipt (length x.cells.late) k) (history_sent m rule x history)
    ∙ ap (λ (z : HouseState m.State). receipt (length z.cells.late) (messages_since m rule history.first 0 history.calls)) e.1
