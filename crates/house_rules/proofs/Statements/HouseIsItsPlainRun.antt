-- HouseIsItsPlainRun: the plain run of all granted events holds the house's sheets and, in order, the slips of its tray.
use Rattle.std.proofs.Common.{◌≡◌, ℕ, Bool, true, false, cond, ◌&&◌, eqb, ltb, List, [], ◌∷◌, ◌++◌, length, get_or, set, Some, None, Option, sym, refl, ap, ◌∙◌, subst}
use Rattle.std.proofs.lemmas.List.{ext_get_or}
use Rattle.std.proofs.lemmas.Bool.{true≢false, and_parts}
use Rattle.sections.specs.Codes.{section_code}
use Rattle.sections.specs.Rule.{Rule, entered}
use Rattle.methods.specs.Model.{Model}
use Rattle.common.specs.Questions.{all_yes}
use Rattle.house_rules.specs.declared.phase.Phase.{Phase}
use Rattle.house_rules.specs.declared.slip.ColouredSlip.{ColouredSlip}
use Rattle.house_rules.specs.Calls.EveryCall.{Call, house_questions, after, open', turn, gather, report, close, file, event}
use Rattle.house_rules.specs.State.Changes.{with_cells}
use Rattle.house_rules.specs.Theorem.Cut.{Cut, cut_after, cut_of}
use Rattle.house_rules.specs.Calls.Gather.{gathered_cells, root_gathers, after_gather}
use Rattle.house_rules.specs.State.Names.{without, find_coloured, slips_of}
use Rattle.house_rules.specs.Theorem.PlainHouse.{PlainHouse, plain_step, or_stays, plain_run, RefusesNone, blank}
use Rattle.house_rules.specs.Calls.Post.{posted_slip}
use Rattle.house_rules.specs.Theorem.Histories.{History, granted_calls}
use Rattle.house_rules.specs.State.House.{Cells, HouseState, station_at, sheet_at}
use Rattle.house_rules.specs.Theorem.Statements.{HouseIsItsPlainRun}
use Rattle.house_rules.specs.Calls.Take.{take_questions, is_late, turns_receiver, arrives, arrives_late, arrived, taken_cells, under_way}
use Rattle.house_rules.specs.Calls.Turn.{turns}
use Rattle.house_rules.proofs.Calls.EveryCall.{own_name}
use Rattle.common.proofs.AllYes.{AllYes, told_tested}
use Rattle.house_rules.proofs.Invariant.Shared.{fine_blank}
use Rattle.house_rules.proofs.Invariant.Cells.{cells_view, find_coloured_lem, slips_less, slips_push}
use Rattle.house_rules.proofs.Statements.EveryHistory.{history_holds, history_keeps}
use Rattle.house_rules.proofs.Invariant.PlainSteps.{plain_view, Fine, Plays, plays_run, plays_refuses_none, plays_all}
use Rattle.house_rules.proofs.Lists.Slips.{find_named}
use Rattle.house_rules.proofs.Invariant.Sound.{Sound}
use Rattle.methods.specs.Model as models
use Rattle.house_rules.specs.Calls.Event.{Event, enter, post, take}

run_push : (r : Rule) (p : PlainHouse) (es : List Event) (e : Event) → plain_run r p (es ++ e ∷ []) ≡ or_stays (plain_run r p es) (plain_step r (plain_run r p es) e)
run_push r p [] e = refl
run_push r p (d ∷ ds) e = run_push r (or_stays p (plain_step r p d)) ds e

module _ (r : Rule) (c : Cut) (p : Phase) (cells : Cells) (out : ℕ) (so : Sound r c p cells out) where
  whole : (q : PlainHouse) × Plays r (blank cells.n) c.all q × (plain_view q ≡ cells_view cells) × Fine cells.n q
  whole =
      let w = plays_all cells.n r so.common.ds (blank cells.n) (cells_view cells) (fine_blank cells.n) so.common.run in
      (w.0, subst (λ es. Plays r (blank cells.n) es w.0) so.common.is_all w.1, w.2, w.3)

  run_is : plain_run r (blank cells.n) c.all ≡ whole.0
  run_is = plays_run r (blank cells.n) whole.0 c.all whole.1

  pub run_refuses_none : RefusesNone r (blank cells.n) c.all
  run_refuses_none = plays_refuses_none r (blank cells.n) whole.0 c.all whole.1

  pub run_sheets : (plain_run r (blank cells.n) c.all).sheets ≡ cells.sheets
  run_sheets =
      ap (λ (q : PlainHouse). q.sheets) run_is
      ∙ ext_get_or [] whole.0.sheets cells.sheets (whole.3.sheets ∙ sym so.shape.sheets) (λ s l. ap (λ v. v.sheet s) whole.2)

  pub run_posted : (s : ℕ) → get_or (plain_run r (blank cells.n) c.all).posted s 0 ≡ (station_at cells s).posted
  run_posted s = ap (λ (q : PlainHouse). get_or q.posted s 0) run_is ∙ ap (λ v. v.posted s) whole.2

-- the slips under way by the plain run are those of the tray, in order
abbrev Ordered : Rule → Cut → Cells → Type 0
Ordered r c cells = (plain_run r (blank cells.n) c.all).under_way ≡ slips_of cells.tray

entry_stays : (r : Rule) (p : PlainHouse) (s a b : ℕ) (z : _) → (or_stays p (plain_step r p (enter s a b z))).under_way ≡ p.under_way
entry_stays r p s a b z = go (ltb s (length p.sheets) && all_yes (r.entry (get_or p.sheets s []) a b z))
  where
    go : (t : Bool) → (or_stays p (cond t (Some (record { sheets = set p.sheets s (entered (get_or p.sheets s []) (r.gain a b z)); posted = p.posted; under_way = p.under_way })) None)).under_way ≡ p.under_way
    go true = refl
    go false = refl

module _ (r : Rule) (c : Cut) (p : Phase) (cells : Cells) (out : ℕ) (so : Sound r c p cells out) (k : Ordered r c cells) where
  post_ordered : (s to line : ℕ) (amount : _) → ltb s cells.n ≡ true → ltb to cells.n ≡ true → all_yes (r.debit (sheet_at cells s) line amount) ≡ true → (plain_run r (blank cells.n) (c.all ++ post s to line amount ∷ [])).under_way ≡ slips_of cells.tray ++ posted_slip cells s to line amount ∷ []
  post_ordered s to line amount ls lt ok =
      ap (λ (q : PlainHouse). q.under_way) (run_push r (blank cells.n) c.all (post s to line amount))
      ∙ (let es = run_sheets r c p cells out so in let ep = run_posted r c p cells out so s in let en = so.shape.sheets in rw (es, en, ls, lt, ok, k, ep))

  take_ordered : (x : ColouredSlip) → find_coloured x.slip.sender x.slip.number cells.tray ≡ Some x → all_yes (r.credit (sheet_at cells x.slip.receiver) x.slip.line x.slip.amount) ≡ true → (plain_run r (blank cells.n) (c.all ++ take x.slip.sender x.slip.number ∷ [])).under_way ≡ without x.slip.sender x.slip.number (slips_of cells.tray)
  take_ordered x here ok =
      ap (λ (q : PlainHouse). q.under_way) (run_push r (blank cells.n) c.all (take x.slip.sender x.slip.number))
      ∙ (let es = run_sheets r c p cells out so in let f = find_coloured_lem x.slip.sender x.slip.number cells.tray x here in rw (k, f, es, ok, k))

-- a taken slip leaves the tray, whichever way it goes
arrived_tray : (r : Rule) (es : List Event) (p : Phase) (cells : Cells) (x : ColouredSlip) → (plain_run r (blank cells.n) es).under_way ≡ without x.slip.sender x.slip.number (slips_of cells.tray) → (plain_run r (blank (arrived p cells x).n) es).under_way ≡ slips_of (arrived p cells x).tray
arrived_tray r es p cells x e = go (is_late p cells x) (turns_receiver p cells x)
  where
    go : (a b : Bool) → (plain_run r (blank (cond a (arrives_late cells x) (arrives (cond b (turns cells x.slip.receiver) cells) x)).n) es).under_way ≡ slips_of (cond a (arrives_late cells x) (arrives (cond b (turns cells x.slip.receiver) cells) x)).tray
    go true b = e ∙ sym (slips_less x.slip.sender x.slip.number cells.tray)
    go false true = e ∙ sym (slips_less x.slip.sender x.slip.number cells.tray)
    go false false = e ∙ sym (slips_less x.slip.sender x.slip.number cells.tray)

taken_ordered : (r : Rule) (c : Cut) (p : Phase) (cells : Cells) (out : ℕ) → Sound r c p cells out → Ordered r c cells → (a b : ℕ) (o : Option ColouredSlip) → under_way cells a b ≡ o → AllYes (take_questions r p cells o) → Ordered r (cut_after c (event (take a b))) (taken_cells p cells o)
taken_ordered r c p cells out so k a b None s y = absurd (true≢false (sym y.0))
taken_ordered r c p cells out so k a b (Some x) s y =
    let n = find_named a b (slips_of cells.tray) x.slip (find_coloured_lem a b cells.tray x s) in
    let t = arrived_tray r (c.all ++ take x.slip.sender x.slip.number ∷ []) p cells x (take_ordered r c p cells out so k x (own_name a b cells.tray x s) (told_tested section_code (r.credit (sheet_at cells x.slip.receiver) x.slip.line x.slip.amount) y.1)) in
    subst (λ i. (plain_run r (blank (arrived p cells x).n) (c.all ++ take i b ∷ [])).under_way ≡ slips_of (arrived p cells x).tray) n.0 (subst (λ i. (plain_run r (blank (arrived p cells x).n) (c.all ++ take x.slip.sender i ∷ [])).under_way ≡ slips_of (arrived p cells x).tray) n.1 t)

gathered_ordered : (m : Model) (r : Rule) (c : Cut) (x : HouseState m.State) (s : ℕ) → Ordered r c x.cells → Ordered r c (after_gather m x s).cells
gathered_ordered m r c x s k = go (eqb s 0)
  where
    go : (b : Bool) → Ordered r c (cond b (root_gathers m x s) (with_cells x (gathered_cells x.cells s))).cells
    go true = k
    go false = k

module _ (m : Model) (rule : Rule) where
  granted_ordered : (c : Cut) (x : HouseState m.State) → Sound rule c x.phase x.cells (m.rules.outstanding x.method) → Ordered rule c x.cells → (call : Call) → AllYes (house_questions rule x.phase x.cells (m.rules.outstanding x.method) call) → Ordered rule (cut_after c call) (after m rule x call).cells
  granted_ordered c x so k (event (enter s a b r)) y =
      ap (λ (q : PlainHouse). q.under_way) (run_push rule (blank x.cells.n) c.all (enter s a b r))
      ∙ entry_stays rule (plain_run rule (blank x.cells.n) c.all) s a b r ∙ k
  granted_ordered c x so k (event (post s to line amount)) y =
      let q = and_parts _ _ y.0 in
      post_ordered rule c x.phase x.cells (m.rules.outstanding x.method) so k s to line amount q.0 q.1 (told_tested section_code (rule.debit (sheet_at x.cells s) line amount) y.1.1.1.1.1)
      ∙ sym (slips_push x.cells.tray (record { slip = posted_slip x.cells s to line amount; colour = (station_at x.cells s).colour }))
  granted_ordered c x so k (event (take a b)) y = taken_ordered rule c x.phase x.cells (m.rules.outstanding x.method) so k a b (under_way x.cells a b) refl y
  granted_ordered c x so k (open' s) y = k
  granted_ordered c x so k (turn s) y = k
  granted_ordered c x so k (gather s) y = gathered_ordered m rule c x s k
  granted_ordered c x so k (report s) y = k
  granted_ordered c x so k close y = k
  granted_ordered c x so k (file late_on_receipt text) y = k

pub history_ordered : (m : Model) → models.Lawful m → (rule : Rule) (x : HouseState m.State) (history : History m rule x) → (plain_run rule (blank x.cells.n) (cut_of (granted_calls m rule x history)).all).under_way ≡ slips_of x.cells.tray
history_ordered m ml rule x history =
    history_keeps m ml rule (λ c g x. Ordered rule c x.cells) (λ c g x k o call y z. granted_ordered m rule c x k.sound o call y) (λ handed q. refl) x history

pub house_is_its_plain_run : (m : Model) → models.Lawful m → HouseIsItsPlainRun m
house_is_its_plain_run m ml rule x history =
    let k = history_holds m ml rule x history in
    let c = cut_of (granted_calls m rule x history) in
    record {
      refuses_none = run_refuses_none rule c x.phase x.cells (m.rules.outstanding x.method) k.sound;
      sheets = run_sheets rule c x.phase x.cells (m.rules.outstanding x.method) k.sound;
      under_way = history_ordered m ml rule x history;
    }
