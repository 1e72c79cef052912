-- MethodsAgree: two houses that are made alike but for the method give the same responses and stay alike, messages aside.
use Rattle.std.proofs.Common.{◌≡◌, ℕ, Bool, true, false, cond, eqb, List, [], ◌∷◌, map, length, nat_abs, Some, None, Option, sym, refl, ap, ◌∙◌, subst, arith}
use Rattle.std.proofs.lemmas.Bool.{eqb-true}
use Rattle.sections.specs.Rule.{Rule}
use Rattle.methods.specs.Model.{Model}
use Rattle.common.specs.Questions.{first_no}
use Rattle.house_rules.specs.declared.phase.Phase.{Phase}
use Rattle.house_rules.specs.declared.phase.Phase.TheVariants.{Ready, Counting, Closed}
use Rattle.house_rules.specs.declared.slip.ColouredSlip.{ColouredSlip}
use Rattle.house_rules.specs.Calls.EveryCall.{Call, Answer, house_questions, method_questions, questions, after, reply, open', turn, gather, report, close, file, nothing, sum, sent, receipt, filed, event, event_reply, cells_after_event}
use Rattle.house_rules.specs.State.Changes.{with_messages, with_cells}
use Rattle.house_rules.specs.Theorem.Cut.{Cut, no_cut, cut_after}
use Rattle.house_rules.specs.Calls.File.{text_of, written_over}
use Rattle.house_rules.specs.Calls.Gather.{sum_at, gathered_cells, root_questions, root_gathers, after_gather}
use Rattle.house_rules.specs.Calls.Open.{opened_cells}
use Rattle.house_rules.specs.Calls.Report.{reported_cells}
use Rattle.house_rules.specs.Theorem.Histories.{Outcome, outcome, next, run, response_of, responses, refused_with, granted}
use Rattle.house_rules.specs.State.House.{Cells, HouseState}
use Rattle.house_rules.specs.Theorem.Statements.{messages_aside, response_aside, MethodsAgree}
use Rattle.house_rules.specs.Calls.Take.{is_late, turns_receiver, take_questions, arrives, arrives_late, taken_cells, under_way}
use Rattle.house_rules.specs.Calls.Turn.{turns}
use Rattle.house_rules.proofs.Calls.EveryCall.{begun_left, arrived_left}
use Rattle.common.proofs.AllYes.{AllYes, all_yes_lem, yes_parts}
use Rattle.house_rules.proofs.Statements.EveryHistory.{granted_holds, made_yes, made_holds}
use Rattle.house_rules.proofs.Invariant.WholeHouse.{Holds}
use Rattle.house_rules.proofs.Calls.MethodQuestions.{house_decides}
use Rattle.methods.specs.Model as models
use Rattle.house_rules.specs.Calls.Event.{enter, post, take}

-- the cells with the messages set aside
abbrev aside : Cells → Cells
aside cells = with_messages cells 0

-- Questions, answers and effects do not look at the messages

take_questions_aside : (rule : Rule) (p : Phase) (cells : Cells) (o : Option ColouredSlip) → take_questions rule p cells o ≡ take_questions rule p (aside cells) o
take_questions_aside rule p cells None = refl
take_questions_aside rule p cells (Some x) = refl

questions_aside : (rule : Rule) (p : Phase) (cells : Cells) (out : ℕ) (call : Call) → house_questions rule p cells out call ≡ house_questions rule p (aside cells) out call
questions_aside rule p cells out (event (enter s a b r)) = refl
questions_aside rule p cells out (event (post s to line amount)) = refl
questions_aside rule p cells out (event (take a b)) = take_questions_aside rule p cells (under_way cells a b)
questions_aside rule p cells out (open' s) = refl
questions_aside rule p cells out (turn s) = refl
questions_aside rule p cells out (gather s) = refl
questions_aside rule p cells out (report s) = refl
questions_aside rule p cells out close = refl
questions_aside rule p cells out (file late_on_receipt text) = refl

-- the answer of a granted call, messages aside
abbrev plain_reply : Cells → Call → Answer
plain_reply cells (event e) = event_reply cells e
plain_reply cells (open' s) = nothing
plain_reply cells (turn s) = nothing
plain_reply cells (gather s) = sum (sum_at cells s)
plain_reply cells (report s) = sent 0
plain_reply cells close = receipt (length cells.late) 0
plain_reply cells (file late_on_receipt text) = filed (length (text_of cells)) (written_over (text_of cells) text)

reply_aside : (m : Model) (x : HouseState m.State) (call : Call) → messages_aside (reply m x call) ≡ plain_reply (aside x.cells) call
reply_aside m x (event (enter s a b r)) = refl
reply_aside m x (event (post s to line amount)) = refl
reply_aside m x (event (take a b)) = refl
reply_aside m x (open' s) = refl
reply_aside m x (turn s) = refl
reply_aside m x (gather s) = refl
reply_aside m x (report s) = refl
reply_aside m x close = refl
reply_aside m x (file late_on_receipt text) = refl

-- the cells after a granted call, messages aside
abbrev cells_after : Rule → Phase → Cells → Call → Cells
cells_after rule p cells (event e) = cells_after_event rule p cells e
cells_after rule p cells (open' s) = opened_cells cells s
cells_after rule p cells (turn s) = turns cells s
cells_after rule p cells (gather s) = gathered_cells cells s
cells_after rule p cells (report s) = reported_cells cells s
cells_after rule p cells close = cells
cells_after rule p cells (file late_on_receipt text) = cells

arrived_aside : (cells : Cells) (x : ColouredSlip) (b t : Bool) → aside (cond b (arrives_late cells x) (arrives (cond t (turns cells x.slip.receiver) cells) x)) ≡ aside (cond b (arrives_late (aside cells) x) (arrives (cond t (turns (aside cells) x.slip.receiver) (aside cells)) x))
arrived_aside cells x true t = refl
arrived_aside cells x false true = refl
arrived_aside cells x false false = refl

taken_aside : (p : Phase) (cells : Cells) (o : Option ColouredSlip) → aside (taken_cells p cells o) ≡ aside (taken_cells p (aside cells) o)
taken_aside p cells None = refl
taken_aside p cells (Some x) = arrived_aside cells x (is_late p cells x) (turns_receiver p cells x)

gather_aside : (m : Model) (x : HouseState m.State) (s : ℕ) → aside (after_gather m x s).cells ≡ aside (gathered_cells (aside x.cells) s)
gather_aside m x s = go (eqb s 0)
  where
    go : (b : Bool) → aside (cond b (root_gathers m x s) (with_cells x (gathered_cells x.cells s))).cells ≡ aside (gathered_cells (aside x.cells) s)
    go true = refl
    go false = refl

after_aside : (m : Model) (rule : Rule) (x : HouseState m.State) (call : Call) → aside (after m rule x call).cells ≡ aside (cells_after rule x.phase (aside x.cells) call)
after_aside m rule x (event (enter s a b r)) = refl
after_aside m rule x (event (post s to line amount)) = refl
after_aside m rule x (event (take a b)) = taken_aside x.phase x.cells (under_way x.cells a b)
after_aside m rule x (open' s) = refl
after_aside m rule x (turn s) = refl
after_aside m rule x (gather s) = gather_aside m x s
after_aside m rule x (report s) = refl
after_aside m rule x close = refl
after_aside m rule x (file late_on_receipt text) = refl

abbrev phase_after : Phase → Call → Phase
phase_after p (event e) = p
phase_after p (open' s) = Counting
phase_after p (turn s) = p
phase_after p (gather s) = p
phase_after p (report s) = p
phase_after p close = Closed
phase_after p (file late_on_receipt text) = Ready

phase_after_lem : (m : Model) (rule : Rule) (x : HouseState m.State) (call : Call) → (after m rule x call).phase ≡ phase_after x.phase call
phase_after_lem m rule x (event e) = refl
phase_after_lem m rule x (open' s) = refl
phase_after_lem m rule x (turn s) = refl
phase_after_lem m rule x (gather s) = go (eqb s 0)
  where
    go : (b : Bool) → (cond b (root_gathers m x s) (with_cells x (gathered_cells x.cells s))).phase ≡ x.phase
    go true = refl
    go false = refl
phase_after_lem m rule x (report s) = refl
phase_after_lem m rule x close = refl
phase_after_lem m rule x (file late_on_receipt text) = refl

-- Two methods side by side

record Same (m k : Model) (x : HouseState m.State) (y : HouseState k.State) : Type 0 where
  phase : x.phase ≡ y.phase
  cells : aside x.cells ≡ aside y.cells
  outstanding : m.rules.outstanding x.method ≡ k.rules.outstanding y.method

module _ (m k : Model) (ml : models.Lawful m) (kl : models.Lawful k) (rule : Rule) where
  same_questions : (c d : Cut) (x : HouseState m.State) (y : HouseState k.State) (call : Call) → Holds m rule c x → Holds k rule d y → Same m k x y → first_no (questions m rule x call) ≡ first_no (questions k rule y call)
  same_questions c d x y call hx hy s =
      house_decides m rule c x hx call
      ∙ ap first_no (questions_aside rule x.phase x.cells (m.rules.outstanding x.method) call)
      ∙ ap (λ p. first_no (house_questions rule p (aside x.cells) (m.rules.outstanding x.method) call)) s.phase
      ∙ ap (λ cells. first_no (house_questions rule y.phase cells (m.rules.outstanding x.method) call)) s.cells
      ∙ ap (λ o. first_no (house_questions rule y.phase (aside y.cells) o call)) s.outstanding
      ∙ sym (ap first_no (questions_aside rule y.phase y.cells (k.rules.outstanding y.method) call))
      ∙ sym (house_decides k rule d y hy call)

  same_reply : (x : HouseState m.State) (y : HouseState k.State) (call : Call) → Same m k x y → messages_aside (reply m x call) ≡ messages_aside (reply k y call)
  same_reply x y call s = reply_aside m x call ∙ ap (λ cells. plain_reply cells call) s.cells ∙ sym (reply_aside k y call)

  -- after a begin the methods wait for the same sum, after an arrival for one fewer
  gather_outstanding : (c d : Cut) (x : HouseState m.State) (y : HouseState k.State) (s : ℕ) → Holds m rule c x → Holds k rule d y → Same m k x y → AllYes (root_questions m x s) → AllYes (root_questions k y s) → m.rules.outstanding (after_gather m x s).method ≡ k.rules.outstanding (after_gather k y s).method
  gather_outstanding c d x y s hx hy sa yx yy = go (eqb s 0) refl
    where
      go : (b : Bool) → eqb s 0 ≡ b → m.rules.outstanding (cond b (root_gathers m x s) (with_cells x (gathered_cells x.cells s))).method ≡ k.rules.outstanding (cond b (root_gathers k y s) (with_cells y (gathered_cells y.cells s))).method
      go true e =
          let a = (begun_left m ml rule c x hx s e yx).0 in
          let b = (begun_left k kl rule d y hy s e yy).0 in
          let w : sum_at x.cells s ≡ sum_at y.cells s = ap (λ (z : Cells). sum_at z s) sa.cells in
          ap nat_abs (a ∙ w ∙ sym b)
      go false e = sa.outstanding

  same_outstanding : (c d : Cut) (x : HouseState m.State) (y : HouseState k.State) (call : Call) → Holds m rule c x → Holds k rule d y → Same m k x y → AllYes (method_questions m x call) → AllYes (method_questions k y call) → m.rules.outstanding (after m rule x call).method ≡ k.rules.outstanding (after k rule y call).method
  same_outstanding c d x y (event e) hx hy sa yx yy = sa.outstanding
  same_outstanding c d x y (open' s) hx hy sa yx yy = sa.outstanding
  same_outstanding c d x y (turn s) hx hy sa yx yy = sa.outstanding
  same_outstanding c d x y (gather s) hx hy sa yx yy = gather_outstanding c d x y s hx hy sa yx yy
  same_outstanding c d x y (report s) hx hy sa yx yy =
      let a = (arrived_left m ml rule c x hx s yx).0 in
      let b = (arrived_left k kl rule d y hy s yy).0 in
      let o = sa.outstanding in
      omega arith
  same_outstanding c d x y close hx hy sa yx yy = sa.outstanding
  same_outstanding c d x y (file late_on_receipt text) hx hy sa yx yy = sa.outstanding

  same_after : (c d : Cut) (x : HouseState m.State) (y : HouseState k.State) (call : Call) → Holds m rule c x → Holds k rule d y → Same m k x y → first_no (questions m rule x call) ≡ None → first_no (questions k rule y call) ≡ None → Same m k (after m rule x call) (after k rule y call)
  same_after c d x y call hx hy sa ex ey =
      let yx = yes_parts (house_questions rule x.phase x.cells (m.rules.outstanding x.method) call) (method_questions m x call) (all_yes_lem (questions m rule x call) ex) in
      let yy = yes_parts (house_questions rule y.phase y.cells (k.rules.outstanding y.method) call) (method_questions k y call) (all_yes_lem (questions k rule y call) ey) in
      record {
        phase = phase_after_lem m rule x call ∙ ap (λ p. phase_after p call) sa.phase ∙ sym (phase_after_lem k rule y call);
        cells =
            after_aside m rule x call
            ∙ ap (λ p. aside (cells_after rule p (aside x.cells) call)) sa.phase
            ∙ ap (λ cells. aside (cells_after rule y.phase cells call)) sa.cells
            ∙ sym (after_aside k rule y call);
        outstanding = same_outstanding c d x y call hx hy sa yx.1 yy.1;
      }

  run_agrees : (calls : List Call) (c d : Cut) (x : HouseState m.State) (y : HouseState k.State) → Holds m rule c x → Holds k rule d y → Same m k x y → (map response_aside (responses m rule x calls) ≡ map response_aside (responses k rule y calls)) × Same m k (run m rule x calls) (run k rule y calls)
  run_agrees [] c d x y hx hy sa = (refl, sa)
  run_agrees (call ∷ calls) c d x y hx hy sa =
      go (first_no (questions m rule x call)) (first_no (questions k rule y call)) refl refl (same_questions c d x y call hx hy sa) (λ c' d' x' y' hx' hy' sa'. run_agrees calls c' d' x' y' hx' hy' sa')
    where
      after_x : Option (ℕ × ℕ × ℕ) → Outcome m.State
      after_x o = outcome o (after m rule x call) (reply m x call)

      after_y : Option (ℕ × ℕ × ℕ) → Outcome k.State
      after_y o = outcome o (after k rule y call) (reply k y call)

      go : (o o' : Option (ℕ × ℕ × ℕ)) → first_no (questions m rule x call) ≡ o → first_no (questions k rule y call) ≡ o' → first_no (questions m rule x call) ≡ first_no (questions k rule y call) →
          ((c' d' : Cut) (x' : HouseState m.State) (y' : HouseState k.State) → Holds m rule c' x' → Holds k rule d' y' → Same m k x' y' → (map response_aside (responses m rule x' calls) ≡ map response_aside (responses k rule y' calls)) × Same m k (run m rule x' calls) (run k rule y' calls)) →
          (response_aside (response_of (after_x o)) ∷ map response_aside (responses m rule (next x (after_x o)) calls) ≡ response_aside (response_of (after_y o')) ∷ map response_aside (responses k rule (next y (after_y o')) calls)) × Same m k (run m rule (next x (after_x o)) calls) (run k rule (next y (after_y o')) calls)
      go None None e e' q ih =
          let r = ih (cut_after c call) (cut_after d call) (after m rule x call) (after k rule y call) (granted_holds m ml rule c x call hx e) (granted_holds k kl rule d y call hy e') (same_after c d x y call hx hy sa e e') in
          (ap (λ a. granted a ∷ map response_aside (responses m rule (after m rule x call) calls)) (same_reply x y call sa) ∙ ap (λ l. granted (messages_aside (reply k y call)) ∷ l) r.0, r.1)
      go (Some a) (Some b) e e' q ih =
          let r = ih c d x y hx hy sa in
          let f : a ≡ b = cc in
          (ap (λ z. refused_with z ∷ map response_aside (responses m rule x calls)) f ∙ ap (λ l. refused_with b ∷ l) r.0, r.1)
      go None (Some b) e e' q ih = absurd (cc)
      go (Some a) None e e' q ih = absurd (cc)

pub methods_agree : (m k : Model) → models.Lawful m → models.Lawful k → MethodsAgree m k
methods_agree m k ml kl rule handed p q vp vq x y ex ey calls =
    let gx = made_yes m handed p x ex in
    let gy = made_yes k handed q y ey in
    let hx = subst (λ z. Holds m rule no_cut z) (sym gx.1) (made_holds m rule handed p vp gx.0) in
    let hy = subst (λ z. Holds k rule no_cut z) (sym gy.1) (made_holds k rule handed q vq gy.0) in
    let sa : Same m k x y =
    record {
      phase = ap (λ (z : HouseState m.State). z.phase) gx.1 ∙ sym (ap (λ (z : HouseState k.State). z.phase) gy.1);
      cells = ap (λ (z : HouseState m.State). aside z.cells) gx.1 ∙ sym (ap (λ (z : HouseState k.State). aside z.cells) gy.1);
      outstanding =
          ap (λ (z : HouseState m.State). m.rules.outstanding z.method) gx.1 ∙ eqb-true (m.rules.outstanding p) 0 gx.0.1.1.1.0
          ∙ sym (ap (λ (z : HouseState k.State). k.rules.outstanding z.method) gy.1 ∙ eqb-true (k.rules.outstanding q) 0 gy.0.1.1.1.0);
    } in
    let r = run_agrees m k ml kl rule calls no_cut no_cut x y hx hy sa in
    let h = r.1.cells in (
      r.0,
      record {
        phase = r.1.phase;
        station_count = ap (λ (z : Cells). z.n) h;
        tray_cells = ap (λ (z : Cells). z.tray_cells) h;
        late_cells = ap (λ (z : Cells). z.late_cells) h;
        sheets = ap (λ (z : Cells). z.sheets) h;
        recorded = ap (λ (z : Cells). z.recorded) h;
        stations = ap (λ (z : Cells). z.stations) h;
        tray = ap (λ (z : Cells). z.tray) h;
        late = ap (λ (z : Cells). z.late) h;
      },
    )
