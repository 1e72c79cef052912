-- CountsStay: between a close and the next granted open, record, late list and text stay as they are.
use Rattle.std.proofs.Common.{◌≡◌, ℕ, false, List, [], ◌∷◌, Some, None, Option, refl, ap, ◌∙◌}
use Rattle.std.proofs.lemmas.Bool.{both_ways}
use Rattle.std.specs.List.{AllByRecursion}
use Rattle.sections.specs.Rule.{Rule}
use Rattle.methods.specs.Model.{Model}
use Rattle.common.specs.Questions.{first_no}
use Rattle.house_rules.specs.declared.phase.Phase.{Phase}
use Rattle.house_rules.specs.declared.slip.ColouredSlip.{ColouredSlip}
use Rattle.house_rules.specs.Calls.EveryCall.{Call, house_questions, method_questions, questions, after, reply, open', turn, gather, report, close, file, event}
use Rattle.house_rules.specs.Calls.CountText.{count_text}
use Rattle.house_rules.specs.State.Names.{slips_of}
use Rattle.house_rules.specs.Theorem.Histories.{outcome, next, run, only_done, granted_among}
use Rattle.house_rules.specs.State.House.{Cells, HouseState, is_counting}
use Rattle.house_rules.specs.Theorem.Statements.{NotOpen, NotFile, Stays, CountsStay}
use Rattle.house_rules.specs.Calls.Take.{arrives, arrived, taken_cells, under_way}
use Rattle.common.proofs.AllYes.{AllYes, all_yes_lem, yes_parts}
use Rattle.house_rules.specs.Calls.Event.{enter, post, take}

stays : {Q : Type 0} (x y : HouseState Q) → is_counting y.phase ≡ false → y.cells.recorded ≡ x.cells.recorded → y.cells.late ≡ x.cells.late → Stays x y
stays x y p r l = record { shut = p; recorded = r; late = l; text = ap (λ f. count_text f (slips_of y.cells.late)) r ∙ ap (λ f. count_text x.cells.recorded (slips_of f)) l }

taken_stays : (cells : Cells) (p : Phase) (o : Option ColouredSlip) → is_counting p ≡ false → ((taken_cells p cells o).recorded ≡ cells.recorded) × ((taken_cells p cells o).late ≡ cells.late)
taken_stays cells p None nc = (refl, refl)
taken_stays cells p (Some x) nc =
    let way : arrived p cells x ≡ arrives cells x = rw nc in
    (ap (λ (z : Cells). z.recorded) way, ap (λ (z : Cells). z.late) way)

module _ (m : Model) (rule : Rule) where
  granted_stays : (x : HouseState m.State) (call : Call) → is_counting x.phase ≡ false → NotOpen call → AllYes (house_questions rule x.phase x.cells (m.rules.outstanding x.method) call) → Stays x (after m rule x call) × (NotFile call → (after m rule x call).phase ≡ x.phase)
  granted_stays x (event (enter s a b r)) e w y = (stays x (after m rule x (event (enter s a b r))) e refl refl, λ _. refl)
  granted_stays x (event (post s to line amount)) e w y = (stays x (after m rule x (event (post s to line amount))) e refl refl, λ _. refl)
  granted_stays x (event (take a b)) e w y = let t = taken_stays x.cells x.phase (under_way x.cells a b) e in (stays x (after m rule x (event (take a b))) e t.0 t.1, λ _. refl)
  granted_stays x (open' s) e w y = absurd (w s refl)
  granted_stays x (turn s) e w y = absurd (both_ways (is_counting x.phase) e y.1.0)
  granted_stays x (gather s) e w y = absurd (both_ways (is_counting x.phase) e y.1.0)
  granted_stays x (report s) e w y = absurd (both_ways (is_counting x.phase) e y.1.0)
  granted_stays x close e w y = absurd (both_ways (is_counting x.phase) e y.0)
  granted_stays x (file late_on_receipt text) e w y = (stays x (after m rule x (file late_on_receipt text)) refl refl refl, λ f. absurd (f late_on_receipt text refl))

  run_stays : (calls : List Call) (x : HouseState m.State) → is_counting x.phase ≡ false → AllByRecursion NotOpen (granted_among m rule x calls) → Stays x (run m rule x calls) × (AllByRecursion NotFile (granted_among m rule x calls) → (run m rule x calls).phase ≡ x.phase)
  run_stays [] x e w = (stays x x e refl refl, λ _. refl)
  run_stays (call ∷ calls) x e w = go (first_no (questions m rule x call)) refl w (λ x' e' w'. run_stays calls x' e' w')
    where
      go : (o : Option (ℕ × ℕ × ℕ)) → first_no (questions m rule x call) ≡ o → AllByRecursion NotOpen (only_done (outcome o (after m rule x call) (reply m x call)) call (granted_among m rule (next x (outcome o (after m rule x call) (reply m x call))) calls)) → ((x' : HouseState m.State) → is_counting x'.phase ≡ false → AllByRecursion NotOpen (granted_among m rule x' calls) → Stays x' (run m rule x' calls) × (AllByRecursion NotFile (granted_among m rule x' calls) → (run m rule x' calls).phase ≡ x'.phase)) → Stays x (run m rule (next x (outcome o (after m rule x call) (reply m x call))) calls) × (AllByRecursion NotFile (only_done (outcome o (after m rule x call) (reply m x call)) call (granted_among m rule (next x (outcome o (after m rule x call) (reply m x call))) calls)) → (run m rule (next x (outcome o (after m rule x call) (reply m x call))) calls).phase ≡ x.phase)
      go None q w ih =
          let y = yes_parts (house_questions rule x.phase x.cells (m.rules.outstanding x.method) call) (method_questions m x call) (all_yes_lem (questions m rule x call) q) in
          let one = granted_stays x call e w.0 y.0 in
          let all = ih (after m rule x call) one.0.shut w.1 in
          (stays x (run m rule (after m rule x call) calls) all.0.shut (all.0.recorded ∙ one.0.recorded) (all.0.late ∙ one.0.late), λ f. all.1 f.1 ∙ one.1 f.0)
      go (Some code) q w ih = ih x e w

pub counts_stay : (m : Model) → CountsStay m
counts_stay m rule x calls e w = run_stays m rule calls x e w
