-- MessagesAreFew: at a close the messages are at most 1,000 for each late slip, and 1,000 more.
use Rattle.std.proofs.Common.{◌≡◌, ℕ, ◌+◌, ◌-◌, ◌*◌, ◌<◌, ◌≤◌, Bool, true, false, cond, eqb, List, map, length, get_or, set, nat_abs, Some, None, Option, sym, refl, ap, ◌∙◌, subst, arith}
use Rattle.std.proofs.lemmas.List.{length-set, length-map, length_push}
use Rattle.std.proofs.lemmas.Bool.{eqb-true, eqb-false, ltb-true, and_parts, not-true}
use Rattle.sections.specs.Rule.{Rule}
use Rattle.methods.specs.Model.{Model, begin_questions}
use Rattle.common.specs.Questions.{first_no}
use Rattle.house_rules.specs.declared.phase.Phase.{Phase}
use Rattle.house_rules.specs.declared.slip.ColouredSlip.{ColouredSlip}
use Rattle.house_rules.specs.declared.station.Station.{Station}
use Rattle.house_rules.specs.Calls.EveryCall.{Call, Answer, house_questions, method_questions, questions, after, reply, open', turn, gather, report, close, file, nothing, number, sum, sent, receipt, filed, event}
use Rattle.house_rules.specs.State.Changes.{with_cells}
use Rattle.house_rules.specs.Theorem.Cut.{Cut, put}
use Rattle.house_rules.specs.Calls.Gather.{gather_questions, sum_at, gathered_station, gathered_cells, root_questions, root_gathers, after_gather}
use Rattle.house_rules.specs.Calls.Make.{Handed, made_cells}
use Rattle.house_rules.specs.Theorem.Messages.{MessagesAreFew}
use Rattle.house_rules.specs.Calls.Open.{cleared_station, cleared, opened_cells}
use Rattle.house_rules.specs.Calls.Post.{posted_station}
use Rattle.house_rules.specs.Calls.Report.{reported_station}
use Rattle.house_rules.specs.Theorem.Histories.{History}
use Rattle.house_rules.specs.State.House.{Cells, HouseState, fresh, station_at}
use Rattle.house_rules.specs.Calls.Take.{is_late, turns_receiver, took_station, late_station, arrives, arrives_late, taken_cells, under_way}
use Rattle.house_rules.specs.Calls.Turn.{turned_station, turns}
use Rattle.common.proofs.AllYes.{AllYes}
use Rattle.house_rules.proofs.Invariant.Cells.{field_put, field_kept, find_coloured_lem}
use Rattle.house_rules.proofs.Calls.EveryCall.{can_begin, can_arrive}
use Rattle.house_rules.proofs.Statements.EveryHistory.{history_keeps}
use Rattle.house_rules.proofs.Invariant.WholeHouse.{Holds}
use Rattle.house_rules.proofs.Calls.Outcome.{outcome_answer}
use Rattle.house_rules.proofs.Calls.Open.{mapped}
use Rattle.house_rules.proofs.Lists.Sums.{get_or-same}
use Rattle.house_rules.proofs.Lists.Totals.{sum_n, sum_n_put, sum_n_none}
use Rattle.methods.specs.Model as models
use Rattle.house_rules.specs.Calls.Event.{enter, post, take}
use Rattle.house_rules.proofs.Lists.Puts.{put_other}

-- 1,000 for each late slip that is reported, and 1,000 once the root has gathered
abbrev Few : (n : ℕ) → List Station → (late messages : ℕ) → Type 0
Few n ts late messages = messages + 1000 * sum_n (λ s. (get_or ts s fresh).unreported) n ≤ 1000 * (late + cond (get_or ts 0 fresh).gathered 1 0)

abbrev FewIn : Cells → Type 0
FewIn cells = Few cells.n cells.stations (length cells.late) cells.messages

module _ (n : ℕ) (ts : List Station) (late messages : ℕ) (f : Few n ts late messages) (s : ℕ) (l : s < length ts) where
  -- a change of one station that keeps the unreported number and the mark
  few_set : (st : Station) → st.unreported ≡ (get_or ts s fresh).unreported → st.gathered ≡ (get_or ts s fresh).gathered → Few n (set ts s st) late messages
  few_set st u g =
      let eu = field_kept (λ t. t.unreported) ts s st l u in
      let eg = ap (λ w. w 0) (field_kept (λ t. t.gathered) ts s st l g) in
      subst (λ b. messages + 1000 * sum_n (λ t. (get_or (set ts s st) t fresh).unreported) n ≤ 1000 * (late + cond b 1 0)) (sym eg)
      (subst (λ w. messages + 1000 * sum_n w n ≤ 1000 * (late + cond (get_or ts 0 fresh).gathered 1 0)) (sym eu) f)

  -- a change of its unreported number
  few_put : (st : Station) (late' messages' : ℕ) → st.gathered ≡ (get_or ts s fresh).gathered → (messages + 1000 * sum_n (λ t. (get_or ts t fresh).unreported) n ≤ 1000 * (late + cond (get_or ts 0 fresh).gathered 1 0) → messages' + 1000 * sum_n (put (λ t. (get_or ts t fresh).unreported) s st.unreported) n ≤ 1000 * (late' + cond (get_or ts 0 fresh).gathered 1 0)) → Few n (set ts s st) late' messages'
  few_put st late' messages' g k =
      let eu = field_put (λ t. t.unreported) ts s st l in
      let eg = ap (λ w. w 0) (field_kept (λ t. t.gathered) ts s st l g) in
      subst (λ b. messages' + 1000 * sum_n (λ t. (get_or (set ts s st) t fresh).unreported) n ≤ 1000 * (late' + cond b 1 0)) (sym eg)
      (subst (λ w. messages' + 1000 * sum_n w n ≤ 1000 * (late' + cond (get_or ts 0 fresh).gathered 1 0)) (sym eu) (k f))

  few_late : s < n → Few n (set ts s (late_station (get_or ts s fresh))) (late + 1) messages
  few_late lt =
      few_put (late_station (get_or ts s fresh)) (late + 1) messages refl
      (λ k. let e = sum_n_put (λ t. (get_or ts t fresh).unreported) s ((get_or ts s fresh).unreported + 1) n lt in omega arith)

  few_report : s < n → 0 < (get_or ts s fresh).unreported → (more : ℕ) → more ≤ 1000 → Few n (set ts s (reported_station (get_or ts s fresh))) late (messages + more)
  few_report lt some' more m =
      few_put (reported_station (get_or ts s fresh)) late (messages + more) refl
      (λ k. let e = sum_n_put (λ t. (get_or ts t fresh).unreported) s ((get_or ts s fresh).unreported - 1) n lt in omega arith)

  -- a gather, of the root and of another station
  few_root : eqb s 0 ≡ true → (get_or ts s fresh).gathered ≡ false → (more : ℕ) → more ≤ 1000 → Few n (set ts s (gathered_station (get_or ts s fresh))) late (messages + more)
  few_root z un more m =
      let e = eqb-true s 0 z in
      let eu = field_kept (λ t. t.unreported) ts s (gathered_station (get_or ts s fresh)) l refl in
      let g : (get_or (set ts s (gathered_station (get_or ts s fresh))) 0 fresh).gathered ≡ true = ap (λ w. w 0) (field_put (λ t. t.gathered) ts s (gathered_station (get_or ts s fresh)) l) ∙ (let w : put (λ t. (get_or ts t fresh).gathered) s true 0 ≡ true = rw e in w) in
      let u0 : (get_or ts 0 fresh).gathered ≡ false = rw e at un in
      let f0 : messages + 1000 * sum_n (λ t. (get_or ts t fresh).unreported) n ≤ 1000 * (late + 0) = rw u0 at f in
      subst (λ b. messages + more + 1000 * sum_n (λ t. (get_or (set ts s (gathered_station (get_or ts s fresh))) t fresh).unreported) n ≤ 1000 * (late + cond b 1 0)) (sym g)
      (subst (λ w. messages + more + 1000 * sum_n w n ≤ 1000 * (late + 1)) (sym eu) (omega arith))

  few_other : eqb s 0 ≡ false → Few n (set ts s (gathered_station (get_or ts s fresh))) late messages
  few_other z =
      let ne = eqb-false s 0 z in
      let eu = field_kept (λ t. t.unreported) ts s (gathered_station (get_or ts s fresh)) l refl in
      let eg = ap (λ w. w 0) (field_put (λ t. t.gathered) ts s (gathered_station (get_or ts s fresh)) l) ∙ put_other (λ t. (get_or ts t fresh).gathered) s 0 true (λ w. ne (sym w)) in
      subst (λ b. messages + 1000 * sum_n (λ t. (get_or (set ts s (gathered_station (get_or ts s fresh))) t fresh).unreported) n ≤ 1000 * (late + cond b 1 0)) (sym eg)
      (subst (λ w. messages + 1000 * sum_n w n ≤ 1000 * (late + cond (get_or ts 0 fresh).gathered 1 0)) (sym eu) f)

taken_few : (p : Phase) (cells : Cells) (x : ColouredSlip) → x.slip.receiver < cells.n → length cells.stations ≡ cells.n → FewIn cells → FewIn (cond (is_late p cells x) (arrives_late cells x) (arrives (cond (turns_receiver p cells x) (turns cells x.slip.receiver) cells) x))
taken_few p cells x lt ln f = go (is_late p cells x) (turns_receiver p cells x)
  where
    l : x.slip.receiver < length cells.stations
    l = rw ln lt

    go : (a b : Bool) → FewIn (cond a (arrives_late cells x) (arrives (cond b (turns cells x.slip.receiver) cells) x))
    go true b = subst (λ k. Few cells.n (set cells.stations x.slip.receiver (late_station (station_at cells x.slip.receiver))) k cells.messages) (sym (length_push cells.late x)) (few_late cells.n cells.stations (length cells.late) cells.messages f x.slip.receiver l lt)
    go false true =
        let t = few_set cells.n cells.stations (length cells.late) cells.messages f x.slip.receiver l (turned_station (station_at cells x.slip.receiver)) refl refl in
        few_set cells.n (set cells.stations x.slip.receiver (turned_station (station_at cells x.slip.receiver))) (length cells.late) cells.messages t x.slip.receiver (rw (length-set cells.stations x.slip.receiver (turned_station (station_at cells x.slip.receiver))) l) (took_station (station_at (turns cells x.slip.receiver) x.slip.receiver)) refl refl
    go false false = few_set cells.n cells.stations (length cells.late) cells.messages f x.slip.receiver l (took_station (station_at cells x.slip.receiver)) refl refl

module _ (m : Model) (ml : models.Lawful m) (rule : Rule) (c : Cut) (x : HouseState m.State) (k : Holds m rule c x) (f : FewIn x.cells) where
  abbrev cells : Cells
  cells = x.cells

  below : (s : ℕ) → s < x.cells.n → s < length x.cells.stations
  below s lt = rw k.sound.shape.stations lt

  begun_few : (s : ℕ) → eqb s 0 ≡ true → AllYes (root_questions m x s) → m.rules.begin_sent x.method x.cells.n (nat_abs (sum_at x.cells s)) ≤ 1000
  begun_few s e y = ml.begun_few x.method x.cells.n (nat_abs (sum_at x.cells s)) (can_begin m ml rule c x k s e y)

  gather_few : (s : ℕ) → AllYes (gather_questions x.phase x.cells s) → AllYes (root_questions m x s) → FewIn (after_gather m x s).cells
  gather_few s y z = go (eqb s 0) refl
    where
      l : s < length x.cells.stations
      l = below s (ltb-true s x.cells.n y.0)

      go : (b : Bool) → eqb s 0 ≡ b → FewIn (cond b (root_gathers m x s) (with_cells x (gathered_cells x.cells s))).cells
      go true e = few_root x.cells.n x.cells.stations (length x.cells.late) x.cells.messages f s l e (not-true _ y.1.1.1.0) (m.rules.begin_sent x.method x.cells.n (nat_abs (sum_at x.cells s))) (begun_few s e z)
      go false e = few_other x.cells.n x.cells.stations (length x.cells.late) x.cells.messages f s l e

  take_few : (a b : ℕ) (o : Option ColouredSlip) → under_way x.cells a b ≡ o → FewIn (taken_cells x.phase x.cells o)
  take_few a b None s = f
  take_few a b (Some y) s = taken_few x.phase x.cells y (k.sound.common.naming.meant a b y.slip (find_coloured_lem a b x.cells.tray y s)) k.sound.shape.stations f

  open_few : (s : ℕ) → s < x.cells.n → FewIn (opened_cells x.cells s)
  open_few s lt =
      let ls : s < length (map cleared_station x.cells.stations) = rw (length-map x.cells.stations cleared_station) (below s lt) in
      let z = sum_n_none (λ t. (get_or (map cleared_station x.cells.stations) t fresh).unreported) x.cells.n (λ t _. ap (λ u. u.unreported) (mapped x.cells.stations t)) in
      few_set x.cells.n (map cleared_station x.cells.stations) 0 0 (rw z (omega arith)) s ls (turned_station (station_at (cleared x.cells) s)) refl refl

  granted_few : (call : Call) → AllYes (house_questions rule x.phase x.cells (m.rules.outstanding x.method) call) → AllYes (method_questions m x call) → FewIn (after m rule x call).cells
  granted_few (event (enter s a b r)) y z = f
  granted_few (event (post s to line amount)) y z =
      let q = and_parts _ _ y.0 in
      few_set cells.n cells.stations (length cells.late) cells.messages f s (below s (ltb-true s cells.n q.0)) (posted_station (station_at cells s)) refl refl
  granted_few (event (take a b)) y z = take_few a b (under_way cells a b) refl
  granted_few (open' s) y z = open_few s (ltb-true s cells.n y.0)
  granted_few (turn s) y z = few_set cells.n cells.stations (length cells.late) cells.messages f s (below s (ltb-true s cells.n y.0)) (turned_station (station_at cells s)) refl refl
  granted_few (gather s) y z = gather_few s y z
  granted_few (report s) y z =
      let lt = ltb-true s cells.n y.0 in
      few_report cells.n cells.stations (length cells.late) cells.messages f s (below s lt) lt (ltb-true 0 (station_at cells s).unreported y.1.1.1.0) (m.rules.arrived_sent x.method s) (ml.arrived_few x.method s (can_arrive m ml rule c x k s z))
  granted_few close y z = f
  granted_few (file late_on_receipt text) y z = f

made_few : (handed : Handed) → FewIn (made_cells handed)
made_few handed =
    let z = sum_n_none (λ s. (station_at (made_cells handed) s).unreported) handed.n (λ s _. ap (λ u. u.unreported) (get_or-same handed.n fresh s)) in
    rw z (omega arith)

history_few : (m : Model) → models.Lawful m → (rule : Rule) (x : HouseState m.State) → History m rule x → FewIn x.cells
history_few m ml rule x history =
    history_keeps m ml rule (λ c g x. FewIn x.cells) (λ c g x k f call y z. granted_few m ml rule c x k f call y z) (λ handed q. made_few handed) x history

-- what a receipt tells
abbrev late_told : Answer → ℕ
late_told nothing = 0
late_told (number k) = 0
late_told (sum z) = 0
late_told (sent messages) = 0
late_told (receipt late messages) = late
late_told (filed written text) = 0

abbrev messages_told : Answer → ℕ
messages_told nothing = 0
messages_told (number k) = 0
messages_told (sum z) = 0
messages_told (sent messages) = 0
messages_told (receipt late messages) = messages
messages_told (filed written text) = 0

few_close : (late messages total : ℕ) (b : Bool) → messages + 1000 * total ≤ 1000 * (late + cond b 1 0) → messages ≤ 1000 * (late + 1)
few_close late messages total true f = omega arith
few_close late messages total false f = omega arith

pub messages_are_few : (m : Model) → models.Lawful m → MessagesAreFew m
messages_are_few m ml rule x y late messages answered history =
    let a = outcome_answer (first_no (questions m rule x close)) (after m rule x close) y (reply m x close) (receipt late messages) answered in
    let el : length x.cells.late ≡ late = ap late_told a in
    let em : x.cells.messages ≡ messages = ap messages_told a in
    let f = few_close (length x.cells.late) x.cells.messages (sum_n (λ s. (station_at x.cells s).unreported) x.cells.n) (station_at x.cells 0).gathered (history_few m ml rule x history) in
    subst (λ k. messages ≤ 1000 * (k + 1)) el (subst (λ k. k ≤ 1000 * (length x.cells.late + 1)) em f)
