-- Every call: where it is granted it keeps the method in step with the count.
use Rattle.std.proofs.Common.{◌≡◌, ℕ, ◌<◌, Bool, true, false, cond, ◌&&◌, eqb, ltb, map, length, get_or, set, Some, None, Option, sym, refl, ap, ◌∙◌}
use Rattle.std.proofs.lemmas.List.{length-set, length-map}
use Rattle.std.proofs.lemmas.Bool.{true≢false, eqb-true, eqb-false, ltb-true, and_parts, and_from}
use Rattle.sections.specs.Rule.{Rule}
use Rattle.methods.specs.Model.{Model}
use Rattle.house_rules.specs.declared.phase.Phase.{Phase}
use Rattle.house_rules.specs.declared.phase.Phase.TheVariants.{Ready, Counting, Closed}
use Rattle.house_rules.specs.declared.slip.ColouredSlip.{ColouredSlip}
use Rattle.house_rules.specs.Calls.EveryCall.{Call, house_questions, method_questions, after, open', turn, gather, report, close, file, event}
use Rattle.house_rules.specs.State.Changes.{with_cells}
use Rattle.house_rules.specs.Theorem.Cut.{put, Cut}
use Rattle.house_rules.specs.Calls.Enter.{entered_cells}
use Rattle.house_rules.specs.Calls.Gather.{gather_questions, gathered_station, gathered_cells, root_questions, root_gathers, after_gather}
use Rattle.house_rules.specs.Calls.Open.{cleared_station, cleared, opened_cells}
use Rattle.house_rules.specs.Calls.Post.{posted_station, posted_cells}
use Rattle.house_rules.specs.Calls.Report.{reported_station}
use Rattle.house_rules.specs.State.House.{Cells, HouseState, fresh, station_at, is_counting}
use Rattle.house_rules.specs.Calls.Take.{is_late, turns_receiver, took_station, late_station, arrives, arrives_late, arrived, taken_cells, under_way}
use Rattle.house_rules.specs.Calls.Turn.{turned_station, turns}
use Rattle.house_rules.proofs.Calls.EveryCall.{begun_left, arrived_left}
use Rattle.common.proofs.AllYes.{AllYes}
use Rattle.house_rules.proofs.Invariant.Cells.{field_put, find_coloured_lem}
use Rattle.house_rules.proofs.Invariant.WholeHouse.{begun?, Served, Holds, served_on, root_kept}
use Rattle.house_rules.proofs.Invariant.Phases.{is_ready_lem, is_closed_lem}
use Rattle.house_rules.proofs.Calls.Open.{mapped}
use Rattle.methods.specs.Model as models
use Rattle.house_rules.specs.Calls.Event.{enter, post, take}
use Rattle.house_rules.proofs.Lists.Puts.{put_other}

-- a take leaves the root's mark
arrives_root : (cells : Cells) (x : ColouredSlip) → x.slip.receiver < length cells.stations → (station_at (arrives cells x) 0).gathered ≡ (station_at cells 0).gathered
arrives_root cells x l = root_kept cells x.slip.receiver (took_station (station_at cells x.slip.receiver)) l refl

turns_root : (cells : Cells) (s : ℕ) → s < length cells.stations → (station_at (turns cells s) 0).gathered ≡ (station_at cells 0).gathered
turns_root cells s l = root_kept cells s (turned_station (station_at cells s)) l refl

arrived_root : (p : Phase) (cells : Cells) (x : ColouredSlip) → x.slip.receiver < length cells.stations → ((station_at (arrived p cells x) 0).gathered ≡ (station_at cells 0).gathered) × ((arrived p cells x).n ≡ cells.n)
arrived_root p cells x l = go (is_late p cells x) (turns_receiver p cells x)
  where
    go : (b t : Bool) → ((station_at (cond b (arrives_late cells x) (arrives (cond t (turns cells x.slip.receiver) cells) x)) 0).gathered ≡ (station_at cells 0).gathered) × ((cond b (arrives_late cells x) (arrives (cond t (turns cells x.slip.receiver) cells) x)).n ≡ cells.n)
    go true t = (root_kept cells x.slip.receiver (late_station (station_at cells x.slip.receiver)) l refl, refl)
    go false true = (arrives_root (turns cells x.slip.receiver) x (rw (length-set cells.stations x.slip.receiver (turned_station (station_at cells x.slip.receiver))) l) ∙ turns_root cells x.slip.receiver l, refl)
    go false false = (arrives_root cells x l, refl)

module _ (m : Model) (ml : models.Lawful m) (rule : Rule) (c : Cut) (x : HouseState m.State) (k : Holds m rule c x) where
  abbrev p : Phase
  p = x.phase

  abbrev cells : Cells
  cells = x.cells

  below : (s : ℕ) → ltb s x.cells.n ≡ true → s < length x.cells.stations
  below s e = rw k.sound.shape.stations (ltb-true s x.cells.n e)

  still : (cells' : Cells) → (station_at cells' 0).gathered ≡ (station_at x.cells 0).gathered → cells'.n ≡ x.cells.n → Served m x.phase cells' x.method
  still cells' g n = served_on m x.phase x.phase x.cells cells' x.method (ap (λ b. is_counting x.phase && b) g) n k.served

  taken_served : (a b : ℕ) (o : Option ColouredSlip) → under_way x.cells a b ≡ o → Served m x.phase (taken_cells x.phase x.cells o) x.method
  taken_served a b None s = k.served
  taken_served a b (Some y) s =
      let lt : y.slip.receiver < x.cells.n = k.sound.common.naming.meant a b y.slip (find_coloured_lem a b x.cells.tray y s) in
      let e = arrived_root x.phase x.cells y (rw k.sound.shape.stations lt) in
      still (arrived x.phase x.cells y) e.0 e.1

  -- outside a count, and in a count whose root has not gathered, the method is idle
  idle_served : (p' : Phase) (cells' : Cells) → begun? p' cells' ≡ false → m.rules.outstanding x.method ≡ 0 → Served m p' cells' x.method
  idle_served p' cells' e o = record { valid = k.served.valid; idle = λ _. o; counted = λ i. absurd (true≢false (sym i ∙ e)) }

  gather_served : (s : ℕ) → AllYes (gather_questions x.phase x.cells s) → AllYes (root_questions m x s) → Served m (after_gather m x s).phase (after_gather m x s).cells (after_gather m x s).method
  gather_served s y z = go (eqb s 0) refl
    where
      g_is : (λ t. (get_or (set x.cells.stations s (gathered_station (station_at x.cells s))) t fresh).gathered) ≡ put (λ t. (station_at x.cells t).gathered) s true
      g_is = field_put (λ t. t.gathered) x.cells.stations s (gathered_station (station_at x.cells s)) (below s y.0)

      go : (b : Bool) → eqb s 0 ≡ b → Served m (cond b (root_gathers m x s) (with_cells x (gathered_cells x.cells s))).phase (cond b (root_gathers m x s) (with_cells x (gathered_cells x.cells s))).cells (cond b (root_gathers m x s) (with_cells x (gathered_cells x.cells s))).method
      go true e =
          let l = begun_left m ml rule c x k s e z in
          let g : (get_or (set x.cells.stations s (gathered_station (station_at x.cells s))) 0 fresh).gathered ≡ true = ap (λ f. f 0) g_is ∙ (let w : put (λ t. (station_at x.cells t).gathered) s true 0 ≡ true = rw (eqb-true s 0 e) in w) in
          record { valid = l.2; idle = λ i. absurd (true≢false (sym (and_from (is_counting x.phase) _ y.1.0 g) ∙ i)); counted = λ _. l.1 }
      go false e = still (gathered_cells x.cells s) (ap (λ f. f 0) g_is ∙ put_other (λ t. (station_at x.cells t).gathered) s 0 true (λ w. eqb-false s 0 e (sym w))) refl

  pub granted_served : (call : Call) → AllYes (house_questions rule x.phase x.cells (m.rules.outstanding x.method) call) → AllYes (method_questions m x call) → Served m (after m rule x call).phase (after m rule x call).cells (after m rule x call).method
  granted_served (event (enter s a b r)) y z = still (entered_cells rule cells s a b r) refl refl
  granted_served (event (post s to line amount)) y z =
      let q = and_parts _ _ y.0 in
      still (posted_cells cells s to line amount) (root_kept cells s (posted_station (station_at cells s)) (below s q.0) refl) refl
  granted_served (event (take a b)) y z = taken_served a b (under_way cells a b) refl
  granted_served (open' s) y z =
      let ls : s < length (map cleared_station cells.stations) = rw (length-map cells.stations cleared_station) (below s y.0) in
      let g : (station_at (opened_cells cells s) 0).gathered ≡ false = root_kept (cleared cells) s (turned_station (station_at (cleared cells) s)) ls refl ∙ ap (λ t. t.gathered) (mapped cells.stations 0) in
      idle_served Counting (opened_cells cells s) g (k.served.idle (ap (λ q. is_counting q && (station_at cells 0).gathered) (is_ready_lem p y.1.0)))
  granted_served (turn s) y z = still (turns cells s) (turns_root cells s (below s y.0)) refl
  granted_served (gather s) y z = gather_served s y z
  granted_served (report s) y z =
      let l = arrived_left m ml rule c x k s z in
      let g : (get_or (set cells.stations s (reported_station (station_at cells s))) 0 fresh).gathered ≡ true = root_kept cells s (reported_station (station_at cells s)) (below s y.0) refl ∙ y.1.1.0 in
      record { valid = l.2; idle = λ i. absurd (true≢false (sym (and_from (is_counting p) _ y.1.0 g) ∙ i)); counted = λ _. l.1 ∙ k.served.counted (and_from (is_counting p) _ y.1.0 y.1.1.0) }
  granted_served close y z = idle_served Closed cells refl (eqb-true (m.rules.outstanding x.method) 0 y.1.1.0)
  granted_served (file late_on_receipt text) y z =
      let q = and_parts _ _ y.0 in
      idle_served Ready cells refl (k.served.idle (ap (λ q. is_counting q && (station_at cells 0).gathered) (is_closed_lem p q.0)))
