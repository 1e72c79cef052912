-- Every call: where it is granted it keeps the invariant of the cells.
use Rattle.std.proofs.Common.{◌≡◌, ℕ, ◌+◌, ◌*◌, Bool, true, false, cond, eqb, List, pos, nat_abs, Some, None, Option, sym, refl, ap, ◌∙◌, subst}
use Rattle.std.proofs.lemmas.Bool.{true≢false, eqb-true, ltb-true, and_parts, not-true}
use Rattle.sections.specs.Codes.{section_code}
use Rattle.sections.specs.Rule.{Rule}
use Rattle.methods.specs.Model.{Model, begin_questions}
use Rattle.house_rules.specs.declared.phase.Phase.{Phase}
use Rattle.house_rules.specs.declared.slip.ColouredSlip.{ColouredSlip}
use Rattle.house_rules.specs.Calls.EveryCall.{Call, house_questions, method_questions, after, open', turn, gather, report, close, file, event}
use Rattle.house_rules.specs.State.Changes.{with_messages, with_cells}
use Rattle.house_rules.specs.Theorem.Cut.{Cut, cut_after}
use Rattle.house_rules.specs.Calls.Gather.{gathered_below, gather_questions, sum_at, gathered_cells, root_questions, root_gathers, after_gather}
use Rattle.house_rules.specs.State.Names.{find_coloured, slips_of}
use Rattle.house_rules.specs.Calls.Report.{arrived_questions}
use Rattle.house_rules.specs.State.House.{Cells, HouseState, station_at, sheet_at}
use Rattle.house_rules.specs.Calls.Take.{take_questions, arrived, taken_cells, under_way}
use Rattle.common.proofs.AllYes.{AllYes, told_tested}
use Rattle.house_rules.proofs.Calls.Close.{close_sound}
use Rattle.house_rules.proofs.Calls.Enter.{enter_sound}
use Rattle.house_rules.proofs.Invariant.Cells.{find_coloured_lem}
use Rattle.house_rules.proofs.Invariant.WholeHouse.{Holds}
use Rattle.house_rules.proofs.Invariant.Phases.{is_counting_lem, is_ready_lem, is_closed_lem}
use Rattle.house_rules.proofs.Calls.Post.{post_sound}
use Rattle.house_rules.proofs.Calls.Open.{open_sound}
use Rattle.house_rules.proofs.Calls.File.{file_sound}
use Rattle.house_rules.proofs.Calls.Report.{report_sound}
use Rattle.house_rules.proofs.Calls.Gather.{gather_sound}
use Rattle.house_rules.proofs.Lists.Slips.{find_named}
use Rattle.house_rules.proofs.Invariant.Sound.{Sound}
use Rattle.house_rules.proofs.Calls.Take.{take_sound}
use Rattle.house_rules.proofs.Calls.Turn.{during_of, turn_sound}
use Rattle.house_rules.proofs.Calls.MethodQuestions.{fits_begin}
use Rattle.methods.specs.Model as models
use Rattle.house_rules.specs.Calls.Event.{enter, post, take}

-- a slip is found by its own name
pub own_name : (a b : ℕ) (tray : List ColouredSlip) (x : ColouredSlip) → find_coloured a b tray ≡ Some x → find_coloured x.slip.sender x.slip.number tray ≡ Some x
own_name a b tray x s =
    let n = find_named a b (slips_of tray) x.slip (find_coloured_lem a b tray x s) in
    subst (λ k. find_coloured k x.slip.number tray ≡ Some x) (sym n.0) (subst (λ k. find_coloured a k tray ≡ Some x) (sym n.1) s)

module _ (rule : Rule) (c : Cut) (p : Phase) (cells : Cells) (out : ℕ) (so : Sound rule c p cells out) where
  taken_sound : (a b : ℕ) (o : Option ColouredSlip) → under_way cells a b ≡ o → AllYes (take_questions rule p cells o) → Sound rule (cut_after c (event (take a b))) p (taken_cells p cells o) out
  taken_sound a b None s y = absurd (true≢false (sym y.0))
  taken_sound a b (Some x) s y =
      let n = find_named a b (slips_of cells.tray) x.slip (find_coloured_lem a b cells.tray x s) in
      let t = take_sound rule c p cells out so x (own_name a b cells.tray x s) (told_tested section_code (rule.credit (sheet_at cells x.slip.receiver) x.slip.line x.slip.amount) y.1) in
      subst (λ k. Sound rule (cut_after c (event (take k b))) p (arrived p cells x) out) n.0 (subst (λ k. Sound rule (cut_after c (event (take x.slip.sender k))) p (arrived p cells x) out) n.1 t)

-- what the method owes after a begin and after an arrival
module _ (m : Model) (ml : models.Lawful m) (rule : Rule) (c : Cut) (x : HouseState m.State) (k : Holds m rule c x) where
  pub can_begin : (s : ℕ) → eqb s 0 ≡ true → AllYes (root_questions m x s) → models.CanBegin m x.method x.cells.n (nat_abs (sum_at x.cells s))
  can_begin s e y =
      let y' : AllYes (begin_questions (m.rules.outstanding x.method) x.cells.n (sum_at x.cells s)) = rw e at y in
      let q = and_parts _ _ y'.0 in
      record {
        valid = k.served.valid;
        idle = eqb-true (m.rules.outstanding x.method) 0 y'.1.0;
        some_stations = k.sound.shape.some';
        few_stations = k.sound.shape.few;
        few_arrivals = (fits_begin (sum_at x.cells s) q.1).1;
      }

  pub begun_left : (s : ℕ) → eqb s 0 ≡ true → AllYes (root_questions m x s) → (pos (m.rules.outstanding (m.rules.begun x.method x.cells.n (nat_abs (sum_at x.cells s)))) ≡ sum_at x.cells s) × (m.rules.stations (m.rules.begun x.method x.cells.n (nat_abs (sum_at x.cells s))) ≡ x.cells.n) × m.Valid (m.rules.begun x.method x.cells.n (nat_abs (sum_at x.cells s)))
  begun_left s e y =
      let y' : AllYes (begin_questions (m.rules.outstanding x.method) x.cells.n (sum_at x.cells s)) = rw e at y in
      let q = and_parts _ _ y'.0 in
      let w = nat_abs (sum_at x.cells s) in
      let can = can_begin s e y in
      (ap pos (ml.begun_outstanding x.method x.cells.n w can) ∙ (fits_begin (sum_at x.cells s) q.1).0, ml.begun_stations x.method x.cells.n w can, ml.begun_valid x.method x.cells.n w can)

  pub can_arrive : (s : ℕ) → AllYes (arrived_questions m x s) → models.CanArrive m x.method s
  can_arrive s y = record { valid = k.served.valid; counted = ltb-true s (m.rules.stations x.method) y.0; awaited = ltb-true 0 (m.rules.outstanding x.method) y.1.0 }

  pub arrived_left : (s : ℕ) → AllYes (arrived_questions m x s) → (m.rules.outstanding (m.rules.arrived x.method s) + 1 ≡ m.rules.outstanding x.method) × (m.rules.stations (m.rules.arrived x.method s) ≡ m.rules.stations x.method) × m.Valid (m.rules.arrived x.method s)
  arrived_left s y =
      let can = can_arrive s y in
      (ml.arrived_outstanding x.method s can, ml.arrived_stations x.method s can, ml.arrived_valid x.method s can)

  abbrev p : Phase
  p = x.phase

  abbrev cells : Cells
  cells = x.cells

  abbrev out : ℕ
  out = m.rules.outstanding x.method

  gather_kept : (s : ℕ) → AllYes (gather_questions x.phase x.cells s) → AllYes (root_questions m x s) → Sound rule c (after_gather m x s).phase (after_gather m x s).cells (m.rules.outstanding (after_gather m x s).method)
  gather_kept s y z = go (eqb s 0) refl
    where
      q : (gathered_below x.cells (2 * s + 1) ≡ true) × (gathered_below x.cells (2 * s + 2) ≡ true)
      q = and_parts _ _ y.1.1.1.1.0

      gathers : (messages left : ℕ) → (eqb s 0 ≡ true → pos left ≡ sum_at x.cells s) → (eqb s 0 ≡ false → left ≡ m.rules.outstanding x.method) → Sound rule c x.phase (with_messages (gathered_cells x.cells s) messages) left
      gathers messages left root else' = gather_sound rule c x.phase x.cells (m.rules.outstanding x.method) k.sound (is_counting_lem x.phase y.1.0) s messages left root else' (ltb-true s x.cells.n y.0) y.1.1.0 (not-true _ y.1.1.1.0) q.0 q.1

      go : (b : Bool) → eqb s 0 ≡ b → Sound rule c (cond b (root_gathers m x s) (with_cells x (gathered_cells x.cells s))).phase (cond b (root_gathers m x s) (with_cells x (gathered_cells x.cells s))).cells (m.rules.outstanding (cond b (root_gathers m x s) (with_cells x (gathered_cells x.cells s))).method)
      go true e = gathers _ _ (λ _. (begun_left s e z).0) (λ f. absurd (true≢false (sym e ∙ f)))
      go false e = gathers x.cells.messages _ (λ f. absurd (true≢false (sym f ∙ e))) (λ _. refl)

  pub granted_sound : (call : Call) → AllYes (house_questions rule x.phase x.cells (m.rules.outstanding x.method) call) → AllYes (method_questions m x call) → Sound rule (cut_after c call) (after m rule x call).phase (after m rule x call).cells (m.rules.outstanding (after m rule x call).method)
  granted_sound (event (enter s a b r)) y z = enter_sound rule c p cells out k.sound s a b r (ltb-true s cells.n y.0) (told_tested section_code (rule.entry (sheet_at cells s) a b r) y.1.1)
  granted_sound (event (post s to line amount)) y z =
      let q = and_parts _ _ y.0 in
      post_sound rule c p cells out k.sound s to line amount (ltb-true s cells.n q.0) (ltb-true to cells.n q.1) (told_tested section_code (rule.debit (sheet_at cells s) line amount) y.1.1.1.1.1)
  granted_sound (event (take a b)) y z = taken_sound rule c p cells out k.sound a b (under_way cells a b) refl y
  granted_sound (open' s) y z = open_sound rule c p cells out k.sound s (ltb-true s cells.n y.0) (is_ready_lem p y.1.0)
  granted_sound (turn s) y z =
      let ph = is_counting_lem p y.1.0 in
      let lt = ltb-true s cells.n y.0 in
      turn_sound rule c p cells out k.sound ph s lt (sym ((during_of rule c p cells out k.sound ph).colouring.marked s lt) ∙ not-true _ y.1.1.0)
  granted_sound (gather s) y z = gather_kept s y z
  granted_sound (report s) y z = report_sound rule c p cells out k.sound (is_counting_lem p y.1.0) s _ _ (arrived_left s z).0 (ltb-true s cells.n y.0) y.1.1.0 (ltb-true 0 (station_at cells s).unreported y.1.1.1.0)
  granted_sound close y z =
      let ph = is_counting_lem p y.0 in
      close_sound rule c p cells out k.sound (during_of rule c p cells out k.sound ph) y.1.0 (eqb-true out 0 y.1.1.0)
  granted_sound (file late_on_receipt text) y z =
      let q = and_parts _ _ y.0 in
      file_sound rule c p cells out k.sound (is_closed_lem p q.0)
