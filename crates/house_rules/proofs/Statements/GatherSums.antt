-- What the gathers of a count told is the sum of frozen deficits at each station that has gathered; for WhatGatherTells.
use Rattle.std.proofs.Common.{◌≡◌, ℕ, zero, suc, ◌+◌, ◌*◌, ◌<◌, ◌≤◌, Bool, true, false, cond, not, eqb, leb, ltb, List, [], ◌∷◌, map, length, get_or, set, replicate, ℤ, pos, ◌+ℤ◌, Some, None, Option, sym, refl, ap, ◌∙◌, subst, arith}
use Rattle.std.proofs.lemmas.List.{length-set, length-map}
use Rattle.std.proofs.lemmas.Bool.{true≢false, and_parts, ltb-true, leb-true, eqb-true, not-true}
use Rattle.sections.specs.Rule.{Rule}
use Rattle.methods.specs.Model.{Model}
use Rattle.methods.specs.Model as models
use Rattle.common.specs.Questions.{first_no}
use Rattle.common.proofs.AllYes.{AllYes, all_yes_lem, yes_parts}
use Rattle.house_rules.specs.declared.slip.ColouredSlip.{ColouredSlip}
use Rattle.house_rules.specs.declared.station.Station.{Station}
use Rattle.house_rules.specs.State.House.{Cells, HouseState, fresh, station_at, is_counting}
use Rattle.house_rules.specs.State.Changes.{with_cells}
use Rattle.house_rules.specs.Calls.Event.{enter, post, take}
use Rattle.house_rules.specs.Calls.EveryCall.{Call, open', turn, gather, report, close, file, event, house_questions, method_questions, questions, after, reply}
use Rattle.house_rules.specs.Calls.Gather.{gathered_below, sums, sum_at, gathered_station, gathered_cells, root_gathers, after_gather}
use Rattle.house_rules.specs.Calls.Open.{cleared_station}
use Rattle.house_rules.specs.Calls.Post.{posted_station}
use Rattle.house_rules.specs.Calls.Report.{reported_station}
use Rattle.house_rules.specs.Calls.Take.{is_late, turns_receiver, took_station, late_station, arrives, arrives_late, arrived, taken_cells, under_way}
use Rattle.house_rules.specs.Calls.Turn.{turned_station, turns}
use Rattle.house_rules.specs.Theorem.Cut.{put, Cut, no_cut, cut_after}
use Rattle.house_rules.specs.Theorem.Gathers.{sums_after, sums_response, sums_by, sums_told}
use Rattle.house_rules.specs.Theorem.Histories.{outcome, next, run, responses, response_of, History}
use Rattle.house_rules.proofs.Calls.Open.{mapped}
use Rattle.house_rules.proofs.Calls.Turn.{during_of}
use Rattle.house_rules.proofs.Invariant.Cells.{field_put, field_kept, find_coloured_lem}
use Rattle.house_rules.proofs.Invariant.GatheredSum.{sums_outer, sums_inner}
use Rattle.house_rules.proofs.Invariant.Phases.{is_counting_lem}
use Rattle.house_rules.proofs.Invariant.Sound.{During}
use Rattle.house_rules.proofs.Invariant.WholeHouse.{Holds}
use Rattle.house_rules.proofs.Lists.Sums.{get_or-same}
use Rattle.house_rules.proofs.Statements.EveryHistory.{granted_holds, made_yes, made_holds}

abbrev gathered_in : List Station → ℕ → Bool
gathered_in ts t = (get_or ts t fresh).gathered

abbrev frozen_in : List Station → ℕ → ℤ
frozen_in ts t = (get_or ts t fresh).frozen

-- each station that has gathered told the sum there, and no other has told any
abbrev pub ToldIn : (ℕ → ℤ) → List Station → Type 0
ToldIn f ts = (t : ℕ) → f t ≡ cond (get_or ts t fresh).gathered (sums 7 ts t) (pos 0)

-- a sum stays where the deficits below it stay
module _ (ts ts' : List Station) (len : length ts' ≡ length ts) (G : ℕ → Bool) (tree : (i : ℕ) → i < length ts → G i ≡ true → (2 * i + 1 < length ts → G (2 * i + 1) ≡ true) × (2 * i + 2 < length ts → G (2 * i + 2) ≡ true)) (same : (t : ℕ) → G t ≡ true → frozen_in ts' t ≡ frozen_in ts t) where
  sums_kept : (k i : ℕ) → (i < length ts → G i ≡ true) → sums k ts' i ≡ sums k ts i
  unfolding sums
  sums_kept zero i h = refl
  sums_kept (suc k) i h = rw len (go (ltb i (length ts)) refl (λ j. sums_kept k j))
    where
      go : (b : Bool) → ltb i (length ts) ≡ b → ((j : ℕ) → (j < length ts → G j ≡ true) → sums k ts' j ≡ sums k ts j) → cond b (frozen_in ts' i +ℤ (sums k ts' (2 * i + 1) +ℤ sums k ts' (2 * i + 2))) (pos 0) ≡ cond b (frozen_in ts i +ℤ (sums k ts (2 * i + 1) +ℤ sums k ts (2 * i + 2))) (pos 0)
      go true e ih =
          let lt = ltb-true i (length ts) e in
          let t = tree i lt (h lt) in
          let s = same i (h lt) in
          let a = ih (2 * i + 1) t.0 in
          let b = ih (2 * i + 2) t.1 in
          cc
      go false e ih = refl

told_as : (f : ℕ → ℤ) (ts ts' : List Station) → ◌≡◌ {A = ℕ → Bool} (λ t. gathered_in ts' t) (λ t. gathered_in ts t) → ((t : ℕ) → gathered_in ts t ≡ true → sums 7 ts' t ≡ sums 7 ts t) → ToldIn f ts → ToldIn f ts'
told_as f ts ts' ge same told t = told t ∙ go (gathered_in ts t) refl ∙ ap (λ b. cond b (sums 7 ts' t) (pos 0)) (sym (ap (λ h. h t) ge))
  where
    go : (b : Bool) → gathered_in ts t ≡ b → cond (gathered_in ts t) (sums 7 ts t) (pos 0) ≡ cond (gathered_in ts t) (sums 7 ts' t) (pos 0)
    go true e = rw e (sym (same t e))
    go false e = rw e refl

-- a station changes that keeps mark and frozen deficit
sums_set : (ts : List Station) (s : ℕ) (st : Station) → s < length ts → st.frozen ≡ frozen_in ts s → (i : ℕ) → sums 7 (set ts s st) i ≡ sums 7 ts i
sums_set ts s st l fe i = sums_kept ts (set ts s st) (length-set ts s st) (λ t. true) (λ j lt e. (λ u. refl, λ u. refl)) (λ t e. ap (λ h. h t) (field_kept (λ u. u.frozen) ts s st l fe)) 7 i (λ u. refl)

told_set : (f : ℕ → ℤ) (ts : List Station) (s : ℕ) (st : Station) → s < length ts → st.gathered ≡ gathered_in ts s → st.frozen ≡ frozen_in ts s → ToldIn f ts → ToldIn f (set ts s st)
told_set f ts s st l ge fe told = told_as f ts (set ts s st) (field_kept (λ u. u.gathered) ts s st l ge) (λ t e. sums_set ts s st l fe t) told

-- a station turns that has not gathered
told_turn : (f : ℕ → ℤ) (ts : List Station) (s : ℕ) → s < length ts → gathered_in ts s ≡ false → ((i : ℕ) → i < length ts → gathered_in ts i ≡ true → (2 * i + 1 < length ts → gathered_in ts (2 * i + 1) ≡ true) × (2 * i + 2 < length ts → gathered_in ts (2 * i + 2) ≡ true)) → ToldIn f ts → ToldIn f (set ts s (turned_station (get_or ts s fresh)))
told_turn f ts s l ng tree told =
    told_as f ts (set ts s st) (field_kept (λ u. u.gathered) ts s st l refl)
    (λ t e. sums_kept ts (set ts s st) (length-set ts s st) (λ u. gathered_in ts u) tree (λ u g. ap (λ h. h u) (field_put (λ u. u.frozen) ts s st l) ∙ other u g (eqb u s) refl) 7 t (λ lt. e))
    told
  where
    st : Station
    st = turned_station (get_or ts s fresh)

    other : (u : ℕ) → gathered_in ts u ≡ true → (b : Bool) → eqb u s ≡ b → put (λ t. frozen_in ts t) s st.frozen u ≡ frozen_in ts u
    other u g true e = let w = eqb-true u s e in let g' : gathered_in ts s ≡ true = rw w at g in absurd (true≢false (sym g' ∙ ng))
    other u g false e = rw e refl

-- a station gathers
told_gather : (f : ℕ → ℤ) (ts : List Station) (s : ℕ) → s < length ts → ToldIn f ts → ToldIn (put f s (sums 7 ts s)) (set ts s (gathered_station (get_or ts s fresh)))
told_gather f ts s l told t =
    go (eqb t s) refl
    ∙ ap (λ b. cond b (sums 7 ts t) (pos 0)) (sym (ap (λ h. h t) (field_put (λ u. u.gathered) ts s st l)))
    ∙ ap (λ z. cond (gathered_in (set ts s st) t) z (pos 0)) (sym (sums_set ts s st l refl t))
  where
    st : Station
    st = gathered_station (get_or ts s fresh)

    go : (b : Bool) → eqb t s ≡ b → put f s (sums 7 ts s) t ≡ cond (put (λ u. gathered_in ts u) s true t) (sums 7 ts t) (pos 0)
    go true e = let w = eqb-true t s e in rw (e, w) refl
    go false e = rw e (told t)

-- a count is opened
told_open : (ts : List Station) (s : ℕ) → s < length ts → ToldIn (λ t. pos 0) (set (map cleared_station ts) s (turned_station (get_or (map cleared_station ts) s fresh)))
told_open ts s l t = ap (λ b. cond b (sums 7 ts' t) (pos 0)) (sym (ap (λ h. h t) (field_kept (λ u. u.gathered) (map cleared_station ts) s st (rw (length-map ts cleared_station) l) refl) ∙ ap (λ u. u.gathered) (mapped ts t)))
  where
    st : Station
    st = turned_station (get_or (map cleared_station ts) s fresh)

    ts' : List Station
    ts' = set (map cleared_station ts) s st

-- every granted call keeps it
module _ (m : Model) (ml : models.Lawful m) (rule : Rule) (c : Cut) (x : HouseState m.State) (k : Holds m rule c x) (f : ℕ → ℤ) (told : ToldIn f x.cells.stations) where
  within : (s : ℕ) → s < x.cells.n → s < length x.cells.stations
  within s lt = rw k.sound.shape.stations lt

  turn_told : (s : ℕ) → is_counting x.phase ≡ true → s < x.cells.n → (station_at x.cells s).turned ≡ false → ToldIn f (turns x.cells s).stations
  turn_told s counting lt un = told_turn f x.cells.stations s (within s lt) ng (λ i l e. let g = d.tree i (rw k.sound.shape.stations at l) e in (λ j. g.1 (rw k.sound.shape.stations at j), λ j. g.2 (rw k.sound.shape.stations at j))) told
    where
      d : During rule c x.cells (m.rules.outstanding x.method)
      d = during_of rule c x.phase x.cells (m.rules.outstanding x.method) k.sound (is_counting_lem x.phase counting)

      ng : (station_at x.cells s).gathered ≡ false
      ng = go (station_at x.cells s).gathered refl
        where
          go : (b : Bool) → (station_at x.cells s).gathered ≡ b → b ≡ false
          go false e = refl
          go true e = absurd (true≢false (sym (d.tree s lt e).0 ∙ sym (d.colouring.marked s lt) ∙ un))

  arrived_told : (y : ColouredSlip) → y.slip.receiver < x.cells.n → ToldIn f (arrived x.phase x.cells y).stations
  arrived_told y lt = go (is_late x.phase x.cells y) (turns_receiver x.phase x.cells y) refl
    where
      go : (a b : Bool) → turns_receiver x.phase x.cells y ≡ b → ToldIn f (cond a (arrives_late x.cells y) (arrives (cond b (turns x.cells y.slip.receiver) x.cells) y)).stations
      go true b e = told_set f x.cells.stations y.slip.receiver (late_station (station_at x.cells y.slip.receiver)) (within _ lt) refl refl told
      go false true e =
          let p = and_parts (is_counting x.phase) _ e in
          let q = and_parts (not (station_at x.cells y.slip.receiver).turned) _ p.1 in
          let ts = (turns x.cells y.slip.receiver).stations in
          told_set f ts y.slip.receiver (took_station (get_or ts y.slip.receiver fresh)) (rw (length-set x.cells.stations y.slip.receiver (turned_station (station_at x.cells y.slip.receiver))) (within _ lt)) refl refl (turn_told y.slip.receiver p.0 lt (not-true _ q.0))
      go false false e = told_set f x.cells.stations y.slip.receiver (took_station (station_at x.cells y.slip.receiver)) (within _ lt) refl refl told

  taken_told : (a b : ℕ) (o : Option ColouredSlip) → under_way x.cells a b ≡ o → ToldIn f (taken_cells x.phase x.cells o).stations
  taken_told a b None e = told
  taken_told a b (Some y) e = arrived_told y (k.sound.common.naming.meant a b y.slip (find_coloured_lem a b x.cells.tray y e))

  gather_told : (s : ℕ) → s < x.cells.n → ToldIn (put f s (sum_at x.cells s)) (after_gather m x s).cells.stations
  gather_told s lt = go (eqb s 0)
    where
      go : (b : Bool) → ToldIn (put f s (sum_at x.cells s)) (cond b (root_gathers m x s) (with_cells x (gathered_cells x.cells s))).cells.stations
      go true = told_gather f x.cells.stations s (within s lt) told
      go false = told_gather f x.cells.stations s (within s lt) told

  granted_told : (call : Call) → AllYes (house_questions rule x.phase x.cells (m.rules.outstanding x.method) call) → ToldIn (sums_after f call (reply m x call)) (after m rule x call).cells.stations
  granted_told (event (enter s a b r)) y = told
  granted_told (event (post s to line amount)) y = told_set f x.cells.stations s (posted_station (station_at x.cells s)) (within s (ltb-true s x.cells.n (and_parts _ _ y.0).0)) refl refl told
  granted_told (event (take a b)) y = taken_told a b (under_way x.cells a b) refl
  granted_told (open' s) y = told_open x.cells.stations s (within s (ltb-true s x.cells.n y.0))
  granted_told (turn s) y = turn_told s y.1.0 (ltb-true s x.cells.n y.0) (not-true _ y.1.1.0)
  granted_told (gather s) y = gather_told s (ltb-true s x.cells.n y.0)
  granted_told (report s) y = told_set f x.cells.stations s (reported_station (station_at x.cells s)) (within s (ltb-true s x.cells.n y.0)) refl refl told
  granted_told close y = told
  granted_told (file late_on_receipt text) y = told

-- so does every history
module _ (m : Model) (ml : models.Lawful m) (rule : Rule) where
  run_told : (calls : List Call) (c : Cut) (x : HouseState m.State) (f : ℕ → ℤ) → Holds m rule c x → ToldIn f x.cells.stations → ToldIn (sums_by f calls (responses m rule x calls)) (run m rule x calls).cells.stations
  run_told [] c x f k told = told
  run_told (call ∷ calls) c x f k told = go (first_no (questions m rule x call)) refl (λ c' x' f' k' t'. run_told calls c' x' f' k' t')
    where
      go : (o : Option (ℕ × ℕ × ℕ)) → first_no (questions m rule x call) ≡ o → ((c' : Cut) (x' : HouseState m.State) (f' : ℕ → ℤ) → Holds m rule c' x' → ToldIn f' x'.cells.stations → ToldIn (sums_by f' calls (responses m rule x' calls)) (run m rule x' calls).cells.stations) → ToldIn (sums_by (sums_response f call (response_of (outcome o (after m rule x call) (reply m x call)))) calls (responses m rule (next x (outcome o (after m rule x call) (reply m x call))) calls)) (run m rule (next x (outcome o (after m rule x call) (reply m x call))) calls).cells.stations
      go None e ih =
          let y = yes_parts (house_questions rule x.phase x.cells (m.rules.outstanding x.method) call) (method_questions m x call) (all_yes_lem (questions m rule x call) e) in
          ih (cut_after c call) (after m rule x call) (sums_after f call (reply m x call)) (granted_holds m ml rule c x call k e) (granted_told m ml rule c x k f told call y.0)
      go (Some code) e ih = ih c x f k told

  pub history_told : (x : HouseState m.State) (history : History m rule x) → ToldIn (sums_told m rule x history) x.cells.stations
  history_told x history =
      let g = made_yes m history.handed history.method history.first history.made in
      let k = made_holds m rule history.handed history.method history.valid g.0 in
      subst (λ (y : HouseState m.State). ToldIn (sums_told m rule x history) y.cells.stations) history.leads
      (run_told history.calls no_cut history.first (λ t. pos 0) (subst (λ y. Holds m rule no_cut y) (sym g.1) k) (subst (λ (y : HouseState m.State). ToldIn (λ t. pos 0) y.cells.stations) (sym g.1) (λ t. ap (λ (u : Station). cond u.gathered (sums 7 (replicate history.handed.n fresh) t) (pos 0)) (sym (get_or-same history.handed.n fresh t)))))

-- what a gather tells, where its children have gathered
pub sum_split : (f : ℕ → ℤ) (cells : Cells) → length cells.stations ≡ cells.n → cells.n ≤ 64 → ToldIn f cells.stations → (s : ℕ) → s < cells.n → gathered_below cells (2 * s + 1) ≡ true → gathered_below cells (2 * s + 2) ≡ true → sum_at cells s ≡ (station_at cells s).frozen +ℤ (f (2 * s + 1) +ℤ f (2 * s + 2))
sum_split f cells len few told s lt left right =
    sums_inner cells.stations (rw len few) s (rw len lt)
    ∙ ap (λ z. (station_at cells s).frozen +ℤ (z +ℤ sums 7 cells.stations (2 * s + 2))) (child (2 * s + 1) left)
    ∙ ap (λ z. (station_at cells s).frozen +ℤ (f (2 * s + 1) +ℤ z)) (child (2 * s + 2) right)
  where
    child : (i : ℕ) → gathered_below cells i ≡ true → sum_at cells i ≡ f i
    child i b = go (station_at cells i).gathered refl
      where
        go : (g : Bool) → (station_at cells i).gathered ≡ g → sum_at cells i ≡ f i
        go true e = sym (told i ∙ rw e refl)
        go false e =
            let w : leb cells.n i ≡ true = grind arith in
            sums_outer cells.stations 7 i (rw len (leb-true cells.n i w)) ∙ sym (told i ∙ rw e refl)
