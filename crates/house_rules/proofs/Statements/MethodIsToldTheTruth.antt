-- MethodIsToldTheTruth: every granted call does to the method and the messages of a house what it does to the replay.
use Rattle.std.proofs.Common.{◌≡◌, ℕ, Bool, true, false, cond, eqb, List, [], ◌∷◌, length, nat_abs, Some, None, Option, sym, refl, ap, ◌∙◌, pos, subst}
use Rattle.std.proofs.lemmas.Bool.{and_parts}
use Rattle.sections.specs.Rule.{Rule}
use Rattle.methods.specs.Model.{Model, begin_questions}
use Rattle.common.specs.Questions.{first_no}
use Rattle.house_rules.specs.declared.phase.Phase.{Phase}
use Rattle.house_rules.specs.declared.slip.ColouredSlip.{ColouredSlip}
use Rattle.house_rules.specs.Calls.EveryCall.{Call, questions, after, reply, open', turn, gather, report, close, file, sum, sent, receipt, event}
use Rattle.house_rules.specs.Calls.Event.{enter, post, take}
use Rattle.house_rules.specs.Calls.Gather.{gather_questions, sum_at, gathered_cells, root_gathers, after_gather}
use Rattle.house_rules.specs.Calls.Take.{is_late, turns_receiver, arrives, arrives_late, taken_cells, under_way}
use Rattle.house_rules.specs.Calls.Turn.{turns}
use Rattle.house_rules.specs.State.Changes.{with_cells}
use Rattle.house_rules.specs.State.House.{Cells, HouseState}
use Rattle.house_rules.specs.Theorem.Histories.{outcome, next, run, responses, response_of, History}
use Rattle.house_rules.specs.Theorem.Messages.{gathered_told}
use Rattle.house_rules.specs.Theorem.Replay.{Replay, begins, replay_call, replay_response, replay, replayed, ToldTheTruth, MethodIsToldTheTruth}
use Rattle.house_rules.proofs.Statements.EveryHistory.{made_yes}
use Rattle.house_rules.proofs.Calls.MethodQuestions.{fits_begin}
use Rattle.common.proofs.AllYes.{all_yes_lem, yes_parts}
use Rattle.house_rules.proofs.Calls.Outcome.{outcome_answer, step_done}

-- what a replay of a house has come to
abbrev kept_in : {Q : Type 0} → HouseState Q → Replay Q
kept_in x = record { method = x.method; messages = x.cells.messages }

-- a take changes neither the number of stations nor the messages
taken_same : (p : Phase) (cells : Cells) (o : Option ColouredSlip) → ((taken_cells p cells o).n ≡ cells.n) × ((taken_cells p cells o).messages ≡ cells.messages)
taken_same p cells None = (refl, refl)
taken_same p cells (Some x) = go (is_late p cells x) (turns_receiver p cells x)
  where
    go : (a b : Bool) → ((cond a (arrives_late cells x) (arrives (cond b (turns cells x.slip.receiver) cells) x)).n ≡ cells.n) × ((cond a (arrives_late cells x) (arrives (cond b (turns cells x.slip.receiver) cells) x)).messages ≡ cells.messages)
    go true b = (refl, refl)
    go false true = (refl, refl)
    go false false = (refl, refl)

module _ (m : Model) (rule : Rule) where
  gathered_same : (x : HouseState m.State) (s : ℕ) → ((after_gather m x s).cells.n ≡ x.cells.n) × (kept_in (after_gather m x s) ≡ cond (eqb s 0) (begins m x.cells.n (nat_abs (sum_at x.cells s)) (kept_in x)) (kept_in x))
  gathered_same x s = go (eqb s 0)
    where
      go : (b : Bool) → ((cond b (root_gathers m x s) (with_cells x (gathered_cells x.cells s))).cells.n ≡ x.cells.n) × (kept_in (cond b (root_gathers m x s) (with_cells x (gathered_cells x.cells s))) ≡ cond b (begins m x.cells.n (nat_abs (sum_at x.cells s)) (kept_in x)) (kept_in x))
      go true = (refl, refl)
      go false = (refl, refl)

  -- a granted call keeps the number of stations, and tells the method what it tells the replay
  granted_same : (x : HouseState m.State) (call : Call) → ((after m rule x call).cells.n ≡ x.cells.n) × (kept_in (after m rule x call) ≡ replay_call m x.cells.n (kept_in x) call (reply m x call))
  granted_same x (event (enter s a b r)) = (refl, refl)
  granted_same x (event (post s to line amount)) = (refl, refl)
  granted_same x (event (take a b)) =
      let t = taken_same x.phase x.cells (under_way x.cells a b) in
      (t.0, ap (λ k. record { method = x.method; messages = k }) t.1)
  granted_same x (open' s) = (refl, refl)
  granted_same x (turn s) = (refl, refl)
  granted_same x (gather s) = gathered_same x s
  granted_same x (report s) = (refl, refl)
  granted_same x close = (refl, refl)
  granted_same x (file late_on_receipt text) = (refl, refl)

  run_same : (calls : List Call) (n : ℕ) (x : HouseState m.State) → x.cells.n ≡ n → kept_in (run m rule x calls) ≡ replay m n (kept_in x) calls (responses m rule x calls)
  run_same [] n x e = refl
  run_same (call ∷ calls) n x e = go (first_no (questions m rule x call)) (λ x' e'. run_same calls n x' e')
    where
      go : (o : Option (ℕ × ℕ × ℕ)) → ((x' : HouseState m.State) → x'.cells.n ≡ n → kept_in (run m rule x' calls) ≡ replay m n (kept_in x') calls (responses m rule x' calls)) → kept_in (run m rule (next x (outcome o (after m rule x call) (reply m x call))) calls) ≡ replay m n (replay_response m n (kept_in x) call (response_of (outcome o (after m rule x call) (reply m x call)))) calls (responses m rule (next x (outcome o (after m rule x call) (reply m x call))) calls)
      go None ih =
          let g = granted_same x call in
          ih (after m rule x call) (g.0 ∙ e)
          ∙ ap (λ r. replay m n r calls (responses m rule (after m rule x call) calls)) (g.1 ∙ ap (λ k. replay_call m k (kept_in x) call (reply m x call)) e)
      go (Some code) ih = ih x e

  history_same : (x : HouseState m.State) (history : History m rule x) → kept_in x ≡ replayed m rule x history
  history_same x history =
      let g = made_yes m history.handed history.method history.first history.made in
      ap (λ (y : HouseState m.State). kept_in y) (sym history.leads)
      ∙ run_same history.calls history.handed.n history.first (ap (λ (y : HouseState m.State). y.cells.n) g.1)
      ∙ ap (λ r. replay m history.handed.n r history.calls (responses m rule history.first history.calls)) (ap (λ (y : HouseState m.State). kept_in y) g.1)

  -- what a granted report and a granted close answer, where that is what the house keeps
  told : (x : HouseState m.State) (r : Replay m.State) → kept_in x ≡ r → ToldTheTruth m rule x r
  told x r e =
      record {
        method = ap (λ (t : Replay m.State). t.method) e;
        sums = λ y answer answered.
            let y' = all_yes_lem (questions m rule x (gather 0)) (step_done m rule x (gather 0) y answer answered).0 in
            let z = (yes_parts (gather_questions x.phase x.cells 0) (begin_questions (m.rules.outstanding x.method) x.cells.n (sum_at x.cells 0)) y').1 in
            let w = (fits_begin (sum_at x.cells 0) (and_parts _ _ z.0).1).0 in
            subst (λ a. a ≡ sum (pos (gathered_told a))) (outcome_answer (first_no (questions m rule x (gather 0))) (after m rule x (gather 0)) y (reply m x (gather 0)) answer answered) (ap (λ k. sum k) (sym w));
        reports = λ s y answer answered.
            sym (outcome_answer (first_no (questions m rule x (report s))) (after m rule x (report s)) y (reply m x (report s)) answer answered)
            ∙ ap (λ (t : Replay m.State). sent (m.rules.arrived_sent t.method s)) e;
        closes = λ y answer answered.
            sym (outcome_answer (first_no (questions m rule x close)) (after m rule x close) y (reply m x close) answer answered)
            ∙ ap (λ (t : Replay m.State). receipt (length x.cells.late) t.messages) e
            ∙ ap (λ (z : HouseState m.State). receipt (length z.cells.late) r.messages) (step_done m rule x close y answer answered).1;
      }

pub method_is_told_the_truth : (m : Model) → MethodIsToldTheTruth m
method_is_told_the_truth m rule x history = told m rule x (replayed m rule x history) (history_same m rule x history)
