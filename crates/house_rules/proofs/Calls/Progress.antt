-- Every call: where it is granted, the progress read off the calls stays what the cells are marked with; for CloseIsExact.
use Rattle.std.proofs.Common.{◌≡◌, ℕ, ◌+◌, ◌-◌, ◌<◌, Bool, true, false, cond, eqb, ltb, map, length, get_or, set, Some, None, Option, sym, refl, ap, ◌∙◌, subst, arith}
use mathlib.Core.Path.{fun_ext}
use Rattle.std.proofs.lemmas.List.{length-set, length-map}
use Rattle.std.proofs.lemmas.Bool.{true≢false, eqb-true, ltb-true, and_parts}
use Rattle.std.proofs.lemmas.Bool.Decides.{nat_tests}
use Rattle.common.specs.Questions.{all_yes}
use Rattle.sections.specs.Codes.{section_code}
use Rattle.sections.specs.Rule.{Rule}
use Rattle.methods.specs.Model.{Model}
use Rattle.house_rules.specs.declared.phase.Phase.{Phase}
use Rattle.house_rules.specs.declared.phase.Phase.TheVariants.{Counting}
use Rattle.house_rules.specs.declared.slip.ColouredSlip.{ColouredSlip}
use Rattle.house_rules.specs.declared.station.Station.{Station}
use Rattle.house_rules.specs.Calls.EveryCall.{Call, house_questions, after, open', turn, gather, report, close, file, event}
use Rattle.house_rules.specs.State.Changes.{with_messages, with_cells}
use Rattle.house_rules.specs.Theorem.Cut.{put, Cut}
use Rattle.house_rules.specs.Calls.Gather.{gathered_station, gathered_cells, root_gathers, after_gather}
use Rattle.house_rules.specs.State.Names.{find, find_coloured, slips_of}
use Rattle.house_rules.specs.Calls.Open.{cleared_station, cleared, opened_cells}
use Rattle.house_rules.specs.Calls.Post.{posted_station}
use Rattle.house_rules.specs.Theorem.Progress.{Progress, late_take, one_more, progress_after}
use Rattle.house_rules.specs.Calls.Report.{reported_station, reported_cells}
use Rattle.house_rules.specs.State.House.{Cells, HouseState, fresh, station_at, sheet_at, is_counting}
use Rattle.house_rules.specs.Calls.Take.{is_late, turns_receiver, take_questions, took_station, late_station, arrives, arrives_late, arrived, taken_cells, under_way}
use Rattle.house_rules.specs.Calls.Turn.{turned_station, turns}
use Rattle.house_rules.proofs.Calls.EveryCall.{own_name}
use Rattle.common.proofs.AllYes.{AllYes, told_tested}
use Rattle.house_rules.proofs.Invariant.Cells.{field_put, field_kept, find_coloured_lem}
use Rattle.house_rules.proofs.Invariant.Phases.{is_counting_lem, is_closed_lem}
use Rattle.house_rules.proofs.Calls.Open.{mapped}
use Rattle.house_rules.proofs.Lists.Slips.{find_named}
use Rattle.house_rules.proofs.Invariant.Sound.{Sound}
use Rattle.house_rules.proofs.Calls.Take.{late?}
use Rattle.house_rules.proofs.Calls.Turn.{during_of}
use Rattle.house_rules.specs.Calls.Event.{enter, post, take}

-- the progress that the granted calls tell is the one that the cells are marked with
pub record Kept (g : Progress) (p : Phase) (cells : Cells) : Type 0 where
  pub opened : g.open? ≡ is_counting p
  pub gathered : g.gathered ≡ (λ s. (station_at cells s).gathered)
  pub late_takes : (s : ℕ) → g.late_takes s ≡ g.reports s + (station_at cells s).unreported

-- a change of one station that keeps the two marks
pub kept_set : (g : Progress) (p : Phase) (cells : Cells) (s : ℕ) (st : Station) → s < length cells.stations → st.gathered ≡ (station_at cells s).gathered → st.unreported ≡ (station_at cells s).unreported → Kept g p cells → (◌≡◌ {A = ℕ → Bool} g.gathered (λ t. (get_or (set cells.stations s st) t fresh).gathered)) × ((t : ℕ) → g.late_takes t ≡ g.reports t + (get_or (set cells.stations s st) t fresh).unreported)
kept_set g p cells s st l e u k = (
  k.gathered ∙ sym (field_kept (λ t. t.gathered) cells.stations s st l e),
  λ t. k.late_takes t ∙ ap (λ f. g.reports t + f t) (sym (field_kept (λ t. t.unreported) cells.stations s st l u)),
)

module _ (r : Rule) (c : Cut) (g : Progress) (p : Phase) (cells : Cells) (out : ℕ) (so : Sound r c p cells out) (k : Kept g p cells) where
  below : (s : ℕ) → s < cells.n → s < length cells.stations
  below s lt = rw so.shape.stations lt

  turns_kept : (s : ℕ) → s < cells.n → Kept g p (turns cells s)
  turns_kept s lt = let m = kept_set g p cells s (turned_station (station_at cells s)) (below s lt) refl refl k in record { opened = k.opened; gathered = m.0; late_takes = m.1 }

  arrives_kept : (cells₁ : Cells) (x : ColouredSlip) → x.slip.receiver < length cells₁.stations → Kept g p cells₁ → Kept g p (arrives cells₁ x)
  arrives_kept cells₁ x l k₁ = let m = kept_set g p cells₁ x.slip.receiver (took_station (station_at cells₁ x.slip.receiver)) l refl refl k₁ in record { opened = k₁.opened; gathered = m.0; late_takes = m.1 }

  late_kept : (x : ColouredSlip) → x.slip.receiver < cells.n → Kept (record { open? = g.open?; gathered = g.gathered; late_takes = one_more g.late_takes x.slip.receiver; reports = g.reports }) p (arrives_late cells x)
  late_kept x lt =
      record {
        opened = k.opened;
        gathered = k.gathered ∙ sym (field_kept (λ t. t.gathered) cells.stations x.slip.receiver (late_station (station_at cells x.slip.receiver)) (below _ lt) refl);
        late_takes = λ t. let e = ap (λ f. f t) (field_put (λ t. t.unreported) cells.stations x.slip.receiver (late_station (station_at cells x.slip.receiver)) (below _ lt)) in let a = k.late_takes t in let b = k.late_takes x.slip.receiver in rw e (grind (arith, nat_tests));
      }

  -- the house's own test for a late slip is the progress's
  pub late_same : (x : ColouredSlip) → find_coloured x.slip.sender x.slip.number cells.tray ≡ Some x → all_yes (r.credit (sheet_at cells x.slip.receiver) x.slip.line x.slip.amount) ≡ true → is_late p cells x ≡ late_take c g x.slip.sender x.slip.number
  late_same x here yes' = go (is_counting p) refl
    where
      q : c.receiver x.slip.sender x.slip.number ≡ x.slip.receiver
      q = so.common.goes_is x.slip.sender x.slip.number x.slip (find_coloured_lem x.slip.sender x.slip.number cells.tray x here)

      between : is_counting p ≡ false → is_late p cells x ≡ late_take c g x.slip.sender x.slip.number
      between e = rw (e, k.opened, e)

      go : (b : Bool) → is_counting p ≡ b → is_late p cells x ≡ late_take c g x.slip.sender x.slip.number
      go false e = between e
      go true e = let ph = is_counting_lem p e in late? r c p cells out so x here yes' (during_of r c p cells out so ph) ph ∙ (let o : g.open? ≡ true = k.opened ∙ e in rw (o, q))

  arrived_kept : (x : ColouredSlip) → find_coloured x.slip.sender x.slip.number cells.tray ≡ Some x → all_yes (r.credit (sheet_at cells x.slip.receiver) x.slip.line x.slip.amount) ≡ true → Kept (progress_after c g (event (take x.slip.sender x.slip.number))) p (arrived p cells x)
  arrived_kept x here yes' = go (is_late p cells x) refl (turns_receiver p cells x) refl
    where
      has : find x.slip.sender x.slip.number (slips_of cells.tray) ≡ Some x.slip
      has = find_coloured_lem x.slip.sender x.slip.number cells.tray x here

      q : c.receiver x.slip.sender x.slip.number ≡ x.slip.receiver
      q = so.common.goes_is x.slip.sender x.slip.number x.slip has

      lt : x.slip.receiver < cells.n
      lt = so.common.naming.meant x.slip.sender x.slip.number x.slip has

      with' : Bool → Progress
      with' b = record { open? = g.open?; gathered = g.gathered; late_takes = cond b (one_more g.late_takes x.slip.receiver) g.late_takes; reports = g.reports }

      book : (b : Bool) → is_late p cells x ≡ b → progress_after c g (event (take x.slip.sender x.slip.number)) ≡ with' b
      book b e = ap (λ p. record { open? = g.open?; gathered = g.gathered; late_takes = cond (late_take c g x.slip.sender x.slip.number) (one_more g.late_takes p) g.late_takes; reports = g.reports }) q ∙ ap with' (sym (late_same x here yes') ∙ e)

      go : (b : Bool) → is_late p cells x ≡ b → (t : Bool) → turns_receiver p cells x ≡ t → Kept (progress_after c g (event (take x.slip.sender x.slip.number))) p (arrived p cells x)
      go true e t et = subst (λ y. Kept y p (arrived p cells x)) (sym (book true e)) (subst (λ y. Kept (with' true) p y) (let w : arrived p cells x ≡ arrives_late cells x = rw e in sym w) (late_kept x lt))
      go false e true et = subst (λ y. Kept y p (arrived p cells x)) (sym (book false e)) (subst (λ y. Kept g p y) (let w : arrived p cells x ≡ arrives (turns cells x.slip.receiver) x = rw (e, et) in sym w) (arrives_kept (turns cells x.slip.receiver) x (rw (length-set cells.stations x.slip.receiver (turned_station (station_at cells x.slip.receiver))) (below _ lt)) (turns_kept x.slip.receiver lt)))
      go false e false et = subst (λ y. Kept y p (arrived p cells x)) (sym (book false e)) (subst (λ y. Kept g p y) (let w : arrived p cells x ≡ arrives cells x = rw (e, et) in sym w) (arrives_kept cells x (below _ lt) k))

  taken_kept : (a b : ℕ) (o : Option ColouredSlip) → under_way cells a b ≡ o → AllYes (take_questions r p cells o) → Kept (progress_after c g (event (take a b))) p (taken_cells p cells o)
  taken_kept a b None s y = absurd (true≢false (sym y.0))
  taken_kept a b (Some x) s y =
      let n = find_named a b (slips_of cells.tray) x.slip (find_coloured_lem a b cells.tray x s) in
      let t = arrived_kept x (own_name a b cells.tray x s) (told_tested section_code (r.credit (sheet_at cells x.slip.receiver) x.slip.line x.slip.amount) y.1) in
      subst (λ k. Kept (progress_after c g (event (take k b))) p (arrived p cells x)) n.0 (subst (λ k. Kept (progress_after c g (event (take x.slip.sender k))) p (arrived p cells x)) n.1 t)

  gather_kept : (s messages : ℕ) → ltb s cells.n ≡ true → Kept (progress_after c g (gather s)) p (with_messages (gathered_cells cells s) messages)
  gather_kept s messages lt =
      let ls = below s (ltb-true s cells.n lt) in
      record {
        opened = k.opened;
        gathered = ap (λ f. put f s true) k.gathered ∙ sym (field_put (λ t. t.gathered) cells.stations s (gathered_station (station_at cells s)) ls);
        late_takes = λ t. k.late_takes t ∙ ap (λ f. g.reports t + f t) (sym (field_kept (λ t. t.unreported) cells.stations s (gathered_station (station_at cells s)) ls refl));
      }

  report_kept : (s messages : ℕ) → ltb s cells.n ≡ true → 0 < (station_at cells s).unreported → Kept (progress_after c g (report s)) p (with_messages (reported_cells cells s) messages)
  report_kept s messages lt some' =
      let ls = below s (ltb-true s cells.n lt) in
      record {
        opened = k.opened;
        gathered = k.gathered ∙ sym (field_kept (λ t. t.gathered) cells.stations s (reported_station (station_at cells s)) ls refl);
        late_takes = λ t. let e = ap (λ f. f t) (field_put (λ t. t.unreported) cells.stations s (reported_station (station_at cells s)) ls) in let a = k.late_takes t in rw e (one t (eqb t s) refl some');
      }
    where
      one : (t : ℕ) (b : Bool) → eqb t s ≡ b → 0 < (station_at cells s).unreported → g.late_takes t ≡ one_more g.reports s t + put (λ t. (station_at cells t).unreported) s ((station_at cells s).unreported - 1) t
      one t true w l = let u = eqb-true t s w in rw (w, u) (let a = k.late_takes s in omega arith)
      one t false w l = rw w (k.late_takes t)

  open_kept : (s : ℕ) → ltb s cells.n ≡ true → Kept (progress_after c g (open' s)) Counting (opened_cells cells s)
  open_kept s lt =
      let ls : s < length (map cleared_station cells.stations) = rw (length-map cells.stations cleared_station) (below s (ltb-true s cells.n lt)) in
      let st = turned_station (station_at (cleared cells) s) in
      record {
        opened = refl;
        gathered = sym (field_kept (λ t. t.gathered) (map cleared_station cells.stations) s st ls refl ∙ fun_ext (λ t. ap (λ u. u.gathered) (mapped cells.stations t)));
        late_takes = λ t. let e : (get_or (set (map cleared_station cells.stations) s st) t fresh).unreported ≡ 0 = ap (λ f. f t) (field_kept (λ t. t.unreported) (map cleared_station cells.stations) s st ls refl) ∙ ap (λ u. u.unreported) (mapped cells.stations t) in omega arith;
      }

module _ (m : Model) (rule : Rule) (c : Cut) (g : Progress) (x : HouseState m.State) (so : Sound rule c x.phase x.cells (m.rules.outstanding x.method)) (k : Kept g x.phase x.cells) where
  abbrev p : Phase
  p = x.phase

  abbrev cells : Cells
  cells = x.cells

  abbrev out : ℕ
  out = m.rules.outstanding x.method

  gathered_kept : (s : ℕ) → ltb s x.cells.n ≡ true → Kept (progress_after c g (gather s)) (after_gather m x s).phase (after_gather m x s).cells
  gathered_kept s lt = go (eqb s 0)
    where
      go : (b : Bool) → Kept (progress_after c g (gather s)) (cond b (root_gathers m x s) (with_cells x (gathered_cells x.cells s))).phase (cond b (root_gathers m x s) (with_cells x (gathered_cells x.cells s))).cells
      go true = gather_kept rule c g p cells out so k s _ lt
      go false = gather_kept rule c g p cells out so k s x.cells.messages lt

  pub granted_kept : (call : Call) → AllYes (house_questions rule x.phase x.cells (m.rules.outstanding x.method) call) → Kept (progress_after c g call) (after m rule x call).phase (after m rule x call).cells
  granted_kept (event (enter s a b r)) y = record { opened = k.opened; gathered = k.gathered; late_takes = k.late_takes }
  granted_kept (event (post s to line amount)) y =
      let q = and_parts _ _ y.0 in
      let e = kept_set g p cells s (posted_station (station_at cells s)) (rw so.shape.stations (ltb-true s cells.n q.0)) refl refl k in
      record { opened = k.opened; gathered = e.0; late_takes = e.1 }
  granted_kept (event (take a b)) y = taken_kept rule c g p cells out so k a b (under_way cells a b) refl y
  granted_kept (open' s) y = open_kept rule c g p cells out so k s y.0
  granted_kept (turn s) y = turns_kept rule c g p cells out so k s (ltb-true s cells.n y.0)
  granted_kept (gather s) y = gathered_kept s y.0
  granted_kept (report s) y = report_kept rule c g p cells out so k s _ y.0 (ltb-true 0 (station_at cells s).unreported y.1.1.1.0)
  granted_kept close y = record { opened = refl; gathered = k.gathered; late_takes = k.late_takes }
  granted_kept (file late_on_receipt text) y =
      let q = and_parts _ _ y.0 in
      record { opened = k.opened ∙ ap is_counting (is_closed_lem p q.0); gathered = k.gathered; late_takes = k.late_takes }
