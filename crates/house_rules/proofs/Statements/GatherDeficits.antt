-- The deficits of the stations are those that the granted calls tell; for WhatGatherTells.
use Rattle.std.proofs.Common.{◌≡◌, ℕ, ◌<◌, Bool, true, false, cond, not, ◌&&◌, ◌||◌, eqb, List, [], ◌∷◌, map, length, get_or, set, ℤ, pos, ◌+ℤ◌, ◌-ℤ◌, Some, None, Option, sym, refl, ap, ◌∙◌, subst, arith}
use Rattle.std.proofs.lemmas.Int.{ints}
use Rattle.std.proofs.lemmas.List.{length-set, length-map}
use Rattle.std.proofs.lemmas.Bool.{true≢false, and_parts, ltb-true, eqb-true, eqb-false, eq-eqb}
use Rattle.sections.specs.Codes.{section_code}
use Rattle.sections.specs.Rule.{Rule}
use Rattle.methods.specs.Model.{Model}
use Rattle.methods.specs.Model as models
use Rattle.common.specs.Questions.{first_no, all_yes}
use Rattle.common.proofs.AllYes.{AllYes, all_yes_lem, yes_parts, told_tested}
use Rattle.house_rules.specs.declared.phase.Phase.{Phase}
use Rattle.house_rules.specs.declared.slip.ColouredSlip.{ColouredSlip}
use Rattle.house_rules.specs.declared.station.Station.{Station}
use Rattle.house_rules.specs.State.House.{Cells, HouseState, fresh, station_at, sheet_at, is_counting}
use Rattle.house_rules.specs.State.Names.{find_coloured, slips_of}
use Rattle.house_rules.specs.State.Changes.{with_cells}
use Rattle.house_rules.specs.Calls.Event.{enter, post, take}
use Rattle.house_rules.specs.Calls.EveryCall.{Call, open', turn, gather, report, close, file, event, house_questions, method_questions, questions, after, reply}
use Rattle.house_rules.specs.Calls.Gather.{gathered_station, gathered_cells, root_gathers, after_gather}
use Rattle.house_rules.specs.Calls.Open.{cleared_station}
use Rattle.house_rules.specs.Calls.Post.{posted_station}
use Rattle.house_rules.specs.Calls.Report.{reported_station}
use Rattle.house_rules.specs.Calls.Take.{turns_receiver, take_questions, took_station, late_station, arrives, arrives_late, arrived, taken_cells, under_way}
use Rattle.house_rules.specs.Calls.Turn.{turned_station, turns}
use Rattle.house_rules.specs.Theorem.Cut.{put, Cut, no_cut, cut_after}
use Rattle.house_rules.specs.Theorem.Gathers.{Deficits, no_deficits, turns_in, deficits_after, deficits_after_all, deficits_of}
use Rattle.house_rules.specs.Theorem.Histories.{outcome, next, run, only_done, granted_among, History, granted_calls}
use Rattle.house_rules.specs.Theorem.Progress.{Progress, no_progress, late_take, progress_after}
use Rattle.house_rules.proofs.Calls.EveryCall.{own_name}
use Rattle.house_rules.proofs.Calls.Open.{mapped}
use Rattle.house_rules.proofs.Calls.Progress.{Kept, granted_kept, late_same}
use Rattle.house_rules.proofs.Calls.Take.{first?}
use Rattle.house_rules.proofs.Calls.Turn.{during_of}
use Rattle.house_rules.proofs.Invariant.Cells.{field_put, field_kept, find_coloured_lem}
use Rattle.house_rules.proofs.Invariant.Phases.{is_counting_lem}
use Rattle.house_rules.proofs.Invariant.Sound.{Sound}
use Rattle.house_rules.proofs.Invariant.WholeHouse.{Holds}
use Rattle.house_rules.proofs.Lists.Puts.{put_same, put_other}
use Rattle.house_rules.proofs.Lists.Slips.{find_named}
use Rattle.house_rules.proofs.Lists.Sums.{get_or-same}
use Rattle.house_rules.proofs.Statements.CloseIsExact.{made_kept}
use Rattle.house_rules.proofs.Statements.EveryHistory.{granted_holds, made_yes, made_holds}

abbrev running_in : List Station → ℕ → ℤ
running_in ts t = (get_or ts t fresh).running

abbrev frozen_in : List Station → ℕ → ℤ
frozen_in ts t = (get_or ts t fresh).frozen

-- the deficits of the stations are those told
pub record Same (d : Deficits) (ts : List Station) : Type 0 where
  pub since : (t : ℕ) → d.since t ≡ (get_or ts t fresh).running
  pub between : (t : ℕ) → d.between t ≡ (get_or ts t fresh).frozen

-- one station changes
same_set : (d : Deficits) (ts : List Station) (s : ℕ) (st : Station) → s < length ts → ((t : ℕ) → d.since t ≡ put (λ u. running_in ts u) s st.running t) → ((t : ℕ) → d.between t ≡ put (λ u. frozen_in ts u) s st.frozen t) → Same d (set ts s st)
same_set d ts s st l a b =
    record {
      since = λ t. a t ∙ sym (ap (λ f. f t) (field_put (λ u. u.running) ts s st l));
      between = λ t. b t ∙ sym (ap (λ f. f t) (field_put (λ u. u.frozen) ts s st l));
    }

own : (f : ℕ → ℤ) (s t : ℕ) → f t ≡ put f s (f s) t
own f s t = go (eqb t s) refl
  where
    go : (b : Bool) → eqb t s ≡ b → f t ≡ cond b (f s) (f t)
    go true e = ap f (eqb-true t s e)
    go false e = refl

nothing_more : (z : ℤ) → (z +ℤ pos 0) -ℤ pos 0 ≡ z
nothing_more z = omega (arith, ints)

not_both : (b u : Bool) → (b && (not u && u)) ≡ false
not_both true true = refl
not_both true false = refl
not_both false u = refl

if_not : (b u w : Bool) → (b && (not u && (u || w))) ≡ (b && (not u && w))
if_not b true w = refl
if_not b false w = refl

never_both : (b u w : Bool) → (b && (u && not w)) ≡ true → (b && (not u && w)) ≡ false
never_both true true w e = refl
never_both true false w e = absurd (true≢false (sym e))
never_both false u w e = refl

-- a call in which no station turns, posts or takes
still : (d : Deficits) (ts ts' : List Station) → ◌≡◌ {A = ℕ → ℤ} (λ t. running_in ts' t) (λ t. running_in ts t) → ◌≡◌ {A = ℕ → ℤ} (λ t. frozen_in ts' t) (λ t. frozen_in ts t) → Same d ts → Same (record { since = λ s. (d.since s +ℤ pos 0) -ℤ pos 0; between = d.between }) ts'
still d ts ts' r f h = record { since = λ t. nothing_more (d.since t) ∙ h.since t ∙ sym (ap (λ g. g t) r); between = λ t. h.between t ∙ sym (ap (λ g. g t) f) }

-- a station turns
turned_same : (d : Deficits) (ts : List Station) (s : ℕ) → s < length ts → Same d ts → Same (record { since = λ t. (cond (eqb t s) (pos 0) (d.since t) +ℤ pos 0) -ℤ pos 0; between = λ t. cond (eqb t s) (d.since t) (d.between t) }) (set ts s (turned_station (get_or ts s fresh)))
turned_same d ts s l h =
    same_set _ ts s (turned_station (get_or ts s fresh)) l
    (λ t. nothing_more (cond (eqb t s) (pos 0) (d.since t)) ∙ ap (λ z. cond (eqb t s) (pos 0) z) (h.since t))
    (λ t. go t (eqb t s) refl)
  where
    go : (t : ℕ) (b : Bool) → eqb t s ≡ b → cond b (d.since t) (d.between t) ≡ cond b (running_in ts s) (frozen_in ts t)
    go t true e = h.since t ∙ ap (λ j. running_in ts j) (eqb-true t s e)
    go t false e = h.between t

module _ (r : Rule) (c : Cut) (g : Progress) (p : Phase) (cells : Cells) (out : ℕ) (so : Sound r c p cells out) (k : Kept g p cells) (d : Deficits) (h : Same d cells.stations) where
  within : (s : ℕ) → s < cells.n → s < length cells.stations
  within s lt = rw so.shape.stations lt

  post_same : (s to line : ℕ) (amount : ℤ) → s < cells.n → Same (deficits_after c g d (event (post s to line amount))) (set cells.stations s (posted_station (station_at cells s)))
  post_same s to line amount lt =
      same_set _ cells.stations s (posted_station (station_at cells s)) (within s lt)
      (λ t. ap (λ b. (cond b (pos 0) (d.since t) +ℤ pos (cond (eqb t s) 1 0)) -ℤ pos 0) (not_both g.open? (c.turned t)) ∙ go t (eqb t s) refl)
      (λ t. ap (λ b. cond b (d.since t) (d.between t)) (not_both g.open? (c.turned t)) ∙ h.between t ∙ own (λ u. frozen_in cells.stations u) s t)
    where
      go : (t : ℕ) (b : Bool) → eqb t s ≡ b → (d.since t +ℤ pos (cond b 1 0)) -ℤ pos 0 ≡ cond b (running_in cells.stations s +ℤ pos 1) (running_in cells.stations t)
      go t true e = let a = h.since t ∙ ap (λ j. running_in cells.stations j) (eqb-true t s e) in omega (arith, ints)
      go t false e = nothing_more (d.since t) ∙ h.since t

  enter_same : (s a b : ℕ) (code : ℤ) → Same (deficits_after c g d (event (enter s a b code))) cells.stations
  enter_same s a b code =
      record {
        since = λ t. ap (λ b. (cond b (pos 0) (d.since t) +ℤ pos 0) -ℤ pos 0) (not_both g.open? (c.turned t)) ∙ nothing_more (d.since t) ∙ h.since t;
        between = λ t. ap (λ b. cond b (d.since t) (d.between t)) (not_both g.open? (c.turned t)) ∙ h.between t;
      }

  module _ (y : ColouredSlip) (here : find_coloured y.slip.sender y.slip.number cells.tray ≡ Some y) (yes' : all_yes (r.credit (sheet_at cells y.slip.receiver) y.slip.line y.slip.amount) ≡ true) where
    abbrev q : ℕ
    q = y.slip.receiver

    abbrev a : ℕ
    a = y.slip.sender

    abbrev b : ℕ
    b = y.slip.number

    abbrev call : Call
    call = event (take a b)

    to_q : c.receiver a b ≡ q
    to_q = so.common.goes_is a b y.slip (find_coloured_lem a b cells.tray y here)

    lt : q < cells.n
    lt = so.common.naming.meant a b y.slip (find_coloured_lem a b cells.tray y here)

    turns_q : turns_in c g call q ≡ (g.open? && (not (c.turned q) && c.new a b))
    turns_q =
        ap (λ j. g.open? && (not (c.turned q) && put c.turned j (c.turned j || c.new a b) q)) to_q
        ∙ ap (λ z. g.open? && (not (c.turned q) && z)) (put_same c.turned q (c.turned q || c.new a b))
        ∙ if_not g.open? (c.turned q) (c.new a b)

    first_same : turns_receiver p cells y ≡ turns_in c g call q
    first_same = go (is_counting p) refl ∙ sym turns_q
      where
        go : (t : Bool) → is_counting p ≡ t → turns_receiver p cells y ≡ (g.open? && (not (c.turned q) && c.new a b))
        go false e = let o : g.open? ≡ false = k.opened ∙ e in rw (e, o) refl
        go true e = let ph = is_counting_lem p e in let o : g.open? ≡ true = k.opened ∙ e in first? r c p cells out so y here yes' (during_of r c p cells out so ph) ph ∙ rw o refl

    late_first : late_take c g a b ≡ true → turns_in c g call q ≡ false
    late_first e = turns_q ∙ never_both g.open? (c.turned q) (c.new a b) (sym (ap (λ j. g.open? && (c.turned j && not (c.new a b))) to_q) ∙ e)

    elsewhere : (t : ℕ) → eqb t q ≡ false → turns_in c g call t ≡ false
    elsewhere t e =
        ap (λ j. g.open? && (not (c.turned t) && put c.turned j (c.turned j || c.new a b) t)) to_q
        ∙ ap (λ z. g.open? && (not (c.turned t) && z)) (put_other c.turned q t (c.turned q || c.new a b) (eqb-false t q e))
        ∙ not_both g.open? (c.turned t)

    since_is : (l f : Bool) → late_take c g a b ≡ l → turns_in c g call q ≡ f → (t : ℕ) → (deficits_after c g d call).since t ≡ put (λ u. running_in cells.stations u) q (cond f (pos 0) (running_in cells.stations q) -ℤ pos (cond (not l) 1 0)) t
    since_is l f el ef t = go (eqb t q) refl
      where
        at_q : (deficits_after c g d call).since q ≡ cond f (pos 0) (running_in cells.stations q) -ℤ pos (cond (not l) 1 0)
        at_q =
            ap (λ z. (cond z (pos 0) (d.since q) +ℤ pos 0) -ℤ pos (cond (eqb q (c.receiver a b) && not (late_take c g a b)) 1 0)) ef
            ∙ ap (λ z. (cond f (pos 0) (d.since q) +ℤ pos 0) -ℤ pos (cond (eqb q z && not (late_take c g a b)) 1 0)) to_q
            ∙ ap (λ z. (cond f (pos 0) (d.since q) +ℤ pos 0) -ℤ pos (cond (z && not (late_take c g a b)) 1 0)) (eq-eqb q q refl)
            ∙ ap (λ z. (cond f (pos 0) (d.since q) +ℤ pos 0) -ℤ pos (cond (not z) 1 0)) el
            ∙ ap (λ z. (cond f (pos 0) z +ℤ pos 0) -ℤ pos (cond (not l) 1 0)) (h.since q)
            ∙ omega (arith, ints)

        go : (e : Bool) → eqb t q ≡ e → (deficits_after c g d call).since t ≡ cond e (cond f (pos 0) (running_in cells.stations q) -ℤ pos (cond (not l) 1 0)) (running_in cells.stations t)
        go true e = ap (λ j. (deficits_after c g d call).since j) (eqb-true t q e) ∙ at_q
        go false e =
            ap (λ z. (cond z (pos 0) (d.since t) +ℤ pos 0) -ℤ pos (cond (eqb t (c.receiver a b) && not (late_take c g a b)) 1 0)) (elsewhere t e)
            ∙ ap (λ z. (d.since t +ℤ pos 0) -ℤ pos (cond (eqb t z && not (late_take c g a b)) 1 0)) to_q
            ∙ ap (λ z. (d.since t +ℤ pos 0) -ℤ pos (cond (z && not (late_take c g a b)) 1 0)) e
            ∙ nothing_more (d.since t)
            ∙ h.since t

    between_is : (f : Bool) → turns_in c g call q ≡ f → (t : ℕ) → (deficits_after c g d call).between t ≡ put (λ u. frozen_in cells.stations u) q (cond f (running_in cells.stations q) (frozen_in cells.stations q)) t
    between_is f ef t = go (eqb t q) refl
      where
        at_q : (deficits_after c g d call).between q ≡ cond f (running_in cells.stations q) (frozen_in cells.stations q)
        at_q = ap (λ z. cond z (d.since q) (d.between q)) ef ∙ ap (λ z. cond f z (d.between q)) (h.since q) ∙ ap (λ z. cond f (running_in cells.stations q) z) (h.between q)

        go : (e : Bool) → eqb t q ≡ e → (deficits_after c g d call).between t ≡ cond e (cond f (running_in cells.stations q) (frozen_in cells.stations q)) (frozen_in cells.stations t)
        go true e = ap (λ j. (deficits_after c g d call).between j) (eqb-true t q e) ∙ at_q
        go false e = ap (λ z. cond z (d.since t) (d.between t)) (elsewhere t e) ∙ h.between t

    twice : (f : ℕ → ℤ) (v w : ℤ) (t : ℕ) → put f q w t ≡ put (put f q v) q w t
    twice f v w t = go (eqb t q)
      where
        go : (e : Bool) → cond e w (f t) ≡ cond e w (cond e v (f t))
        go true = refl
        go false = refl

    arrived_same : Same (deficits_after c g d call) (arrived p cells y).stations
    arrived_same = subst (λ (z : Cells). Same (deficits_after c g d call) z.stations) (sym (ap (λ z. cond z (arrives_late cells y) (arrives (cond (turns_receiver p cells y) (turns cells q) cells) y)) (late_same r c g p cells out so k y here yes') ∙ ap (λ z. cond (late_take c g a b) (arrives_late cells y) (arrives (cond z (turns cells q) cells) y)) first_same)) (go (late_take c g a b) (turns_in c g call q) refl refl)
      where
        go : (l f : Bool) → late_take c g a b ≡ l → turns_in c g call q ≡ f → Same (deficits_after c g d call) (cond l (arrives_late cells y) (arrives (cond f (turns cells q) cells) y)).stations
        go true f el ef =
            let n = late_first el in
            same_set _ cells.stations q (late_station (station_at cells q)) (within q lt)
            (λ t. since_is true false el n t ∙ ap (λ v. put (λ u. running_in cells.stations u) q v t) (let z : running_in cells.stations q -ℤ pos 0 ≡ running_in cells.stations q = omega (arith, ints) in z))
            (between_is false n)
        go false false el ef = same_set _ cells.stations q (took_station (station_at cells q)) (within q lt) (since_is false false el ef) (between_is false ef)
        go false true el ef =
            let st = turned_station (station_at cells q) in
            let ts = set cells.stations q st in
            let rs = field_put (λ u. u.running) cells.stations q st (within q lt) in
            let fs = field_put (λ u. u.frozen) cells.stations q st (within q lt) in
            let r0 : running_in ts q ≡ pos 0 = ap (λ f. f q) rs ∙ put_same (λ u. running_in cells.stations u) q (pos 0) in
            let f0 : frozen_in ts q ≡ running_in cells.stations q = ap (λ f. f q) fs ∙ put_same (λ u. frozen_in cells.stations u) q (running_in cells.stations q) in
            same_set _ ts q (took_station (get_or ts q fresh)) (rw (length-set cells.stations q st) (within q lt))
            (λ t. since_is false true el ef t ∙ twice (λ u. running_in cells.stations u) (pos 0) (pos 0 -ℤ pos 1) t ∙ ap (λ f. put f q (pos 0 -ℤ pos 1) t) (sym rs) ∙ ap (λ z. put (λ u. running_in ts u) q (z -ℤ pos 1) t) (sym r0))
            (λ t. between_is true ef t ∙ twice (λ u. frozen_in cells.stations u) (running_in cells.stations q) (running_in cells.stations q) t ∙ ap (λ f. put f q (running_in cells.stations q) t) (sym fs) ∙ ap (λ z. put (λ u. frozen_in ts u) q z t) (sym f0))

  taken_same : (a b : ℕ) (o : Option ColouredSlip) → under_way cells a b ≡ o → AllYes (take_questions r p cells o) → Same (deficits_after c g d (event (take a b))) (taken_cells p cells o).stations
  taken_same a b None s y = absurd (true≢false (sym y.0))
  taken_same a b (Some x) s y =
      let n = find_named a b (slips_of cells.tray) x.slip (find_coloured_lem a b cells.tray x s) in
      let t = arrived_same x (own_name a b cells.tray x s) (told_tested section_code (r.credit (sheet_at cells x.slip.receiver) x.slip.line x.slip.amount) y.1) in
      subst (λ j. Same (deficits_after c g d (event (take j b))) (arrived p cells x).stations) n.0 (subst (λ j. Same (deficits_after c g d (event (take x.slip.sender j))) (arrived p cells x).stations) n.1 t)

  cleared_same : Same d (map cleared_station cells.stations)
  cleared_same =
      record {
        since = λ t. h.since t ∙ sym (ap (λ (u : Station). u.running) (mapped cells.stations t));
        between = λ t. h.between t ∙ sym (ap (λ (u : Station). u.frozen) (mapped cells.stations t));
      }

  open_same : (s : ℕ) → s < cells.n → Same (deficits_after c g d (open' s)) (set (map cleared_station cells.stations) s (turned_station (get_or (map cleared_station cells.stations) s fresh)))
  open_same s lt = turned_same d (map cleared_station cells.stations) s (rw (length-map cells.stations cleared_station) (within s lt)) cleared_same

  marked_same : (s : ℕ) (st : Station) → s < cells.n → st.running ≡ running_in cells.stations s → st.frozen ≡ frozen_in cells.stations s → Same (record { since = λ t. (d.since t +ℤ pos 0) -ℤ pos 0; between = d.between }) (set cells.stations s st)
  marked_same s st lt re fe = still d cells.stations (set cells.stations s st) (field_kept (λ u. u.running) cells.stations s st (within s lt) re) (field_kept (λ u. u.frozen) cells.stations s st (within s lt) fe) h

-- every granted call keeps it
module _ (m : Model) (rule : Rule) (c : Cut) (g : Progress) (x : HouseState m.State) (so : Sound rule c x.phase x.cells (m.rules.outstanding x.method)) (k : Kept g x.phase x.cells) (d : Deficits) (h : Same d x.cells.stations) where
  gather_same : (s : ℕ) → s < x.cells.n → Same (deficits_after c g d (gather s)) (after_gather m x s).cells.stations
  gather_same s lt = go (eqb s 0)
    where
      one : Same (deficits_after c g d (gather s)) (gathered_cells x.cells s).stations
      one = marked_same rule c g x.phase x.cells (m.rules.outstanding x.method) so k d h s (gathered_station (station_at x.cells s)) lt refl refl

      go : (b : Bool) → Same (deficits_after c g d (gather s)) (cond b (root_gathers m x s) (with_cells x (gathered_cells x.cells s))).cells.stations
      go true = one
      go false = one

  granted_same : (call : Call) → AllYes (house_questions rule x.phase x.cells (m.rules.outstanding x.method) call) → Same (deficits_after c g d call) (after m rule x call).cells.stations
  granted_same (event (enter s a b r)) y = enter_same rule c g x.phase x.cells (m.rules.outstanding x.method) so k d h s a b r
  granted_same (event (post s to line amount)) y = post_same rule c g x.phase x.cells (m.rules.outstanding x.method) so k d h s to line amount (ltb-true s x.cells.n (and_parts _ _ y.0).0)
  granted_same (event (take a b)) y = taken_same rule c g x.phase x.cells (m.rules.outstanding x.method) so k d h a b (under_way x.cells a b) refl y
  granted_same (open' s) y = open_same rule c g x.phase x.cells (m.rules.outstanding x.method) so k d h s (ltb-true s x.cells.n y.0)
  granted_same (turn s) y = turned_same d x.cells.stations s (within rule c g x.phase x.cells (m.rules.outstanding x.method) so k d h s (ltb-true s x.cells.n y.0)) h
  granted_same (gather s) y = gather_same s (ltb-true s x.cells.n y.0)
  granted_same (report s) y = marked_same rule c g x.phase x.cells (m.rules.outstanding x.method) so k d h s (reported_station (station_at x.cells s)) (ltb-true s x.cells.n y.0) refl refl
  granted_same close y = still d x.cells.stations x.cells.stations refl refl h
  granted_same (file late_on_receipt text) y = still d x.cells.stations x.cells.stations refl refl h

-- so does every history
module _ (m : Model) (ml : models.Lawful m) (rule : Rule) where
  run_same : (calls : List Call) (c : Cut) (g : Progress) (d : Deficits) (x : HouseState m.State) → Holds m rule c x → Kept g x.phase x.cells → Same d x.cells.stations → Same (deficits_after_all c g d (granted_among m rule x calls)) (run m rule x calls).cells.stations
  run_same [] c g d x k kept h = h
  run_same (call ∷ calls) c g d x k kept h = go (first_no (questions m rule x call)) refl (λ c' g' d' x' k' kept' h'. run_same calls c' g' d' x' k' kept' h')
    where
      go : (o : Option (ℕ × ℕ × ℕ)) → first_no (questions m rule x call) ≡ o → ((c' : Cut) (g' : Progress) (d' : Deficits) (x' : HouseState m.State) → Holds m rule c' x' → Kept g' x'.phase x'.cells → Same d' x'.cells.stations → Same (deficits_after_all c' g' d' (granted_among m rule x' calls)) (run m rule x' calls).cells.stations) → Same (deficits_after_all c g d (only_done (outcome o (after m rule x call) (reply m x call)) call (granted_among m rule (next x (outcome o (after m rule x call) (reply m x call))) calls))) (run m rule (next x (outcome o (after m rule x call) (reply m x call))) calls).cells.stations
      go None e ih =
          let y = yes_parts (house_questions rule x.phase x.cells (m.rules.outstanding x.method) call) (method_questions m x call) (all_yes_lem (questions m rule x call) e) in
          ih (cut_after c call) (progress_after c g call) (deficits_after c g d call) (after m rule x call) (granted_holds m ml rule c x call k e) (granted_kept m rule c g x k.sound kept call y.0) (granted_same m rule c g x k.sound kept d h call y.0)
      go (Some code) e ih = ih c g d x k kept h

  pub history_same : (x : HouseState m.State) (history : History m rule x) → Same (deficits_of (granted_calls m rule x history)) x.cells.stations
  history_same x history =
      let w = made_yes m history.handed history.method history.first history.made in
      let k = made_holds m rule history.handed history.method history.valid w.0 in
      subst (λ (y : HouseState m.State). Same (deficits_of (granted_calls m rule x history)) y.cells.stations) history.leads
      (run_same history.calls no_cut no_progress no_deficits history.first (subst (λ y. Holds m rule no_cut y) (sym w.1) k)
      (subst (λ (y : HouseState m.State). Kept no_progress y.phase y.cells) (sym w.1) (made_kept history.handed))
      (subst (λ (y : HouseState m.State). Same no_deficits y.cells.stations) (sym w.1)
      (record {
        since = λ t. ap (λ (u : Station). u.running) (sym (get_or-same history.handed.n fresh t));
        between = λ t. ap (λ (u : Station). u.frozen) (sym (get_or-same history.handed.n fresh t));
      })))
