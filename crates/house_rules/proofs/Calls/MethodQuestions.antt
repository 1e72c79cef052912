-- Every call: where the house's own questions are all answered yes, so are the method's; for MethodRefusesNothing.
use Rattle.std.proofs.Common.{◌≡◌, ℕ, suc, ◌+◌, ◌<◌, ◌≤◌, Bool, true, false, cond, not, ◌&&◌, eqb, leb, List, [], ◌∷◌, length, ℤ, pos, negsuc, nat_abs, sym, refl, ap, ◌∙◌, arith}
use lib.Signed.{le_z}
use Rattle.std.proofs.lemmas.Bool.{true≢false, eqb-true, ltb-true, lt-ltb, leb-true, and_parts, not-true, eq-eqb, le-leb}
use Rattle.sections.specs.Rule.{Rule}
use Rattle.methods.specs.Model.{Model, begin_questions}
use Rattle.common.specs.Questions.{first_no}
use Rattle.house_rules.specs.declared.slip.ColouredSlip.{ColouredSlip}
use Rattle.house_rules.specs.Calls.EveryCall.{Call, house_questions, method_questions, questions, open', turn, gather, report, close, file, event}
use Rattle.house_rules.specs.Theorem.Cut.{Cut}
use Rattle.house_rules.specs.Calls.Gather.{gather_questions, sum_at, root_questions}
use Rattle.house_rules.specs.Calls.Report.{report_questions, arrived_questions}
use Rattle.house_rules.specs.State.House.{HouseState, station_at}
use Rattle.common.proofs.AllYes.{AllYes, first_decide}
use Rattle.house_rules.proofs.Calls.Close.{owed}
use Rattle.house_rules.proofs.Invariant.GatheredSum.{root_sum}
use Rattle.house_rules.proofs.Invariant.WholeHouse.{Holds}
use Rattle.house_rules.proofs.Invariant.Phases.{is_counting_lem}
use Rattle.house_rules.proofs.Calls.Gather.{turned_below}
use Rattle.house_rules.proofs.Invariant.Sound.{During}
use Rattle.house_rules.proofs.Lists.Totals.{sum_z, sum_z_same, sum_n_le, count}
use Rattle.house_rules.proofs.Calls.Turn.{during_of}

pub count_le : (p : ℕ → ℕ → Bool) (xs : List ColouredSlip) → count p xs ≤ length xs
count_le p [] = omega arith
count_le p (x ∷ xs) = let ih = count_le p xs in go (p x.slip.sender x.slip.number) ih
  where
    go : (t : Bool) → count p xs ≤ length xs → cond t 1 0 + count p xs ≤ suc (length xs)
    go true ih = omega arith
    go false ih = omega arith

-- a number that a begin takes
pub fits_begin : (z : ℤ) → (le_z (pos 0) z && le_z z (pos 8192)) ≡ true → (pos (nat_abs z) ≡ z) × (nat_abs z ≤ 8192)
fits_begin (pos k) e = let p = and_parts (le_z (pos 0) (pos k)) (le_z (pos k) (pos 8192)) e in (refl, leb-true k 8192 p.1)
fits_begin (negsuc k) e = let p = and_parts (le_z (pos 0) (negsuc k)) (le_z (negsuc k) (pos 8192)) e in absurd (true≢false (sym p.0))

module _ (m : Model) (rule : Rule) (c : Cut) (x : HouseState m.State) (k : Holds m rule c x) where
  -- once all have turned, what is gathered at the root is the old slips under way and the late ones
  pub root_is : During rule c x.cells (m.rules.outstanding x.method) → ((s : ℕ) → s < x.cells.n → c.turned s ≡ true) → sum_at x.cells 0 ≡ pos (count (λ a b. not (c.new a b)) x.cells.tray + length x.cells.late)
  root_is co ev =
      let h = x.cells in
      let sh = k.sound.shape in
      let g : sum_z (λ s. cond (c.turned s) (station_at h s).frozen (station_at h s).running) h.n ≡ sum_z (λ s. (station_at h s).frozen) h.n = sum_z_same _ _ h.n (λ s l. rw (ev s l)) in
      root_sum h.stations (rw sh.stations sh.few) ∙ ap (λ j. sum_z (λ s. (station_at h s).frozen) j) sh.stations ∙ sym g ∙ co.balance.frozen

  root_fits : During rule c x.cells (m.rules.outstanding x.method) → ((s : ℕ) → s < x.cells.n → c.turned s ≡ true) → (le_z (pos 0) (sum_at x.cells 0) && le_z (sum_at x.cells 0) (pos 8192)) ≡ true
  root_fits co ev =
      let h = x.cells in
      let a = count_le (λ a b. not (c.new a b)) h.tray in
      let b = k.room.tray in
      let d = k.room.late in
      let e = k.room.tray_cells_lem in
      let f = k.room.late_cells_lem in
      rw (root_is co ev) (fits (count (λ a b. not (c.new a b)) h.tray + length h.late) (omega arith))
    where
      fits : (w : ℕ) → w ≤ 8192 → (le_z (pos 0) (pos w) && le_z (pos w) (pos 8192)) ≡ true
      fits w d = let z : le_z (pos 0) (pos w) ≡ true = le-leb 0 w (omega arith) in let u : le_z (pos w) (pos 8192) ≡ true = le-leb w 8192 d in rw (z, u)

  begin_yes : (s : ℕ) → AllYes (gather_questions x.phase x.cells s) → AllYes (root_questions m x s)
  begin_yes s y = go (eqb s 0) refl
    where
      go : (b : Bool) → eqb s 0 ≡ b → AllYes (cond b (begin_questions (m.rules.outstanding x.method) x.cells.n (sum_at x.cells s)) [])
      go false e = tt
      go true e =
          let h = x.cells in
          let u = eqb-true s 0 e in
          let ph = is_counting_lem x.phase y.1.0 in
          let q = and_parts _ _ y.1.1.1.1.0 in
          let lt = ltb-true s h.n y.0 in
          let ng : (station_at h s).gathered ≡ false = not-true _ y.1.1.1.0 in
          let ng' : (station_at h 0).gathered ≡ false = rw u at ng in
          let co = during_of rule c x.phase h (m.rules.outstanding x.method) k.sound ph in
          let ev = turned_below rule c x.phase h (m.rules.outstanding x.method) k.sound ph s u lt y.1.1.0 q.0 q.1 in
          let f : (le_z (pos 0) (sum_at h s) && le_z (sum_at h s) (pos 8192)) ≡ true = rw u (root_fits co ev) in
          let n1 : leb 1 h.n ≡ true = le-leb 1 h.n k.sound.shape.some' in
          let n2 : leb h.n 64 ≡ true = le-leb h.n 64 k.sound.shape.few in
          let o : m.rules.outstanding x.method ≡ 0 = k.served.idle (rw (y.1.0, ng')) in
          (rw (n1, n2, f), (eq-eqb (m.rules.outstanding x.method) 0 o, tt))

  arrived_yes : (s : ℕ) → AllYes (report_questions x.phase x.cells s) → AllYes (arrived_questions m x s)
  arrived_yes s y =
      let h = x.cells in
      let ph = is_counting_lem x.phase y.1.0 in
      let lt = ltb-true s h.n y.0 in
      let u = ltb-true 0 (station_at h s).unreported y.1.1.1.0 in
      let co = during_of rule c x.phase h (m.rules.outstanding x.method) k.sound ph in
      let o = owed rule c x.phase h (m.rules.outstanding x.method) k.sound co y.1.1.0 in
      let b = sum_n_le (λ s. (station_at h s).unreported) h.n s lt in
      let st : m.rules.stations x.method ≡ h.n = k.served.counted (rw (y.1.0, y.1.1.0)) in
      (lt-ltb s (m.rules.stations x.method) (rw st lt), (lt-ltb 0 (m.rules.outstanding x.method) (omega arith), tt))

  pub method_yes : (call : Call) → AllYes (house_questions rule x.phase x.cells (m.rules.outstanding x.method) call) → AllYes (method_questions m x call)
  method_yes (event e) y = tt
  method_yes (open' s) y = tt
  method_yes (turn s) y = tt
  method_yes (gather s) y = begin_yes s y
  method_yes (report s) y = arrived_yes s y
  method_yes close y = tt
  method_yes (file late_on_receipt text) y = tt

  -- so the house alone decides
  pub house_decides : (call : Call) → first_no (questions m rule x call) ≡ first_no (house_questions rule x.phase x.cells (m.rules.outstanding x.method) call)
  house_decides call = first_decide (house_questions rule x.phase x.cells (m.rules.outstanding x.method) call) (method_questions m x call) (method_yes call)
