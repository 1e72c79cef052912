-- take: where it is granted it keeps the invariant; the receiver turns first, or the slip is late, or neither.
use Rattle.std.proofs.Common.{◌≡◌, ℕ, ◌<◌, Bool, true, false, not, ◌&&◌, ◌||◌, [], ◌∷◌, ◌++◌, Some, sym, refl, ap, ◌∙◌, subst, arith}
use Rattle.common.specs.Questions.{all_yes}
use Rattle.sections.specs.Rule.{Rule}
use Rattle.house_rules.specs.declared.colour.Colour.{Colour}
use Rattle.house_rules.specs.declared.colour.Colour.TheVariants.{White, Red}
use Rattle.house_rules.specs.declared.phase.Phase.{Phase}
use Rattle.house_rules.specs.declared.phase.Phase.TheVariants.{Ready, Counting, Closed}
use Rattle.house_rules.specs.declared.slip.ColouredSlip.{ColouredSlip}
use Rattle.house_rules.specs.State.Colours.{differ}
use Rattle.house_rules.specs.Theorem.Cut.{put, Cut, with_event, with_turned, with_take}
use Rattle.house_rules.specs.State.Names.{find, find_coloured, slips_of, named}
use Rattle.house_rules.specs.State.House.{Cells, station_at, sheet_at, is_counting}
use Rattle.house_rules.specs.Calls.Take.{is_late, turns_receiver, arrives, arrives_late, arrived}
use Rattle.house_rules.specs.Calls.Turn.{turns}
use Rattle.house_rules.proofs.Calls.TakeArrives.{arrives_shape, arrives_common, arrives_between, arrives_new, arrives_old, late_shape, late_common, late_during}
use Rattle.house_rules.proofs.Invariant.Colours.{shade}
use Rattle.house_rules.proofs.Invariant.Cells.{cells_view, find_coloured_lem}
use Rattle.house_rules.proofs.Invariant.Phases.{is_counting_lem}
use Rattle.house_rules.proofs.Invariant.Sound.{Common, Between, During, ByPhase, Sound}
use Rattle.house_rules.proofs.Calls.Turn.{during_of, as_during, turn_sound}
use Rattle.house_rules.proofs.Lists.Slips.{first_all}
use Rattle.house_rules.specs.Calls.Event.{Event, take}
use Rattle.house_rules.proofs.Lists.Puts.{put_same, put_kept}

-- Which of the ways a take goes

pub by_colours : (base : Colour) (t u : Bool) → ((t && differ (shade base u) (shade base t)) ≡ (t && not u)) × ((not t && differ (shade base u) (shade base t)) ≡ (not t && u))
by_colours White true true = (refl, refl)
by_colours White true false = (refl, refl)
by_colours White false true = (refl, refl)
by_colours White false false = (refl, refl)
by_colours Red true true = (refl, refl)
by_colours Red true false = (refl, refl)
by_colours Red false true = (refl, refl)
by_colours Red false false = (refl, refl)

pub same_cut : (c : Cut) (q : ℕ) (t : Bool) (e : Event) → c.turned q ≡ t → with_event (with_turned c (put c.turned q t)) t e ≡ with_event c t e
same_cut c q t e k = ap (λ f. with_event (with_turned c f) t e) (put_kept c.turned q t k)

module _ (r : Rule) (c : Cut) (p : Phase) (cells : Cells) (out : ℕ) (so : Sound r c p cells out) (x : ColouredSlip) (here : find_coloured x.slip.sender x.slip.number cells.tray ≡ Some x) (yes' : all_yes (r.credit (sheet_at cells x.slip.receiver) x.slip.line x.slip.amount) ≡ true) where
  has : find x.slip.sender x.slip.number (slips_of cells.tray) ≡ Some x.slip
  has = find_coloured_lem x.slip.sender x.slip.number cells.tray x here

  lt : x.slip.receiver < cells.n
  lt = so.common.naming.meant x.slip.sender x.slip.number x.slip has

  between_take : is_counting p ≡ false → (c' : Cut) → c'.all ≡ c.all ++ take x.slip.sender x.slip.number ∷ [] → c'.posted ≡ c.posted → c'.receiver ≡ c.receiver → Sound r c' p (arrived p cells x) out
  between_take nc c' ea es eg =
      subst (λ k. Sound r c' p k out) (sym way)
      (record {
        shape = arrives_shape r c p cells out so x has yes';
        common =
            subst (λ k. Common cells.n r k c'.posted c'.receiver (cells_view (arrives cells x)) (slips_of (arrives cells x).tray) (slips_of cells.late)) (sym ea)
            (subst (λ k. Common cells.n r (c.all ++ take x.slip.sender x.slip.number ∷ []) k c'.receiver (cells_view (arrives cells x)) (slips_of (arrives cells x).tray) (slips_of cells.late)) (sym es)
            (subst (λ k. Common cells.n r (c.all ++ take x.slip.sender x.slip.number ∷ []) c.posted k (cells_view (arrives cells x)) (slips_of (arrives cells x).tray) (slips_of cells.late)) (sym eg)
            (arrives_common r c p cells out so x has yes')));
        state = state' p nc so.state;
      })
    where
      way : arrived p cells x ≡ arrives cells x
      way = rw nc

      state' : (p : Phase) → is_counting p ≡ false → ByPhase p (Between cells.n (λ s. (station_at cells s).colour) (λ s. (station_at cells s).running) cells.tray) (During r c cells out) → ByPhase p (Between cells.n (λ t. (station_at (arrives cells x) t).colour) (λ t. (station_at (arrives cells x) t).running) (arrives cells x).tray) (During r c' (arrives cells x) out)
      state' Ready e k = arrives_between r c p cells out so x has yes' k
      state' Counting e k = let z : ◌≡◌ {A = ℕ} 0 1 = cc in absurd (omega arith)
      state' Closed e k = arrives_between r c p cells out so x has yes' k

  pub late? : During r c cells out → p ≡ Counting → is_late p cells x ≡ (c.turned x.slip.receiver && not (c.new x.slip.sender x.slip.number))
  late? k ph =
      rw (ph, k.colouring.marked x.slip.receiver lt, k.colouring.coloured x.slip.receiver lt, first_all (λ (y : ColouredSlip). y.colour ≡ shade k.base (c.new y.slip.sender y.slip.number)) (λ y. named x.slip.sender x.slip.number y.slip) cells.tray x k.colouring.slips here)
      (by_colours k.base (c.turned x.slip.receiver) (c.new x.slip.sender x.slip.number)).0

  pub first? : During r c cells out → p ≡ Counting → turns_receiver p cells x ≡ (not (c.turned x.slip.receiver) && c.new x.slip.sender x.slip.number)
  first? k ph =
      rw (ph, k.colouring.marked x.slip.receiver lt, k.colouring.coloured x.slip.receiver lt, first_all (λ (y : ColouredSlip). y.colour ≡ shade k.base (c.new y.slip.sender y.slip.number)) (λ y. named x.slip.sender x.slip.number y.slip) cells.tray x k.colouring.slips here)
      (by_colours k.base (c.turned x.slip.receiver) (c.new x.slip.sender x.slip.number)).1

  during_take : p ≡ Counting → (t u : Bool) → c.turned x.slip.receiver ≡ t → c.new x.slip.sender x.slip.number ≡ u → Sound r (with_event (with_turned c (put c.turned x.slip.receiver (t || u))) (t || u) (take x.slip.sender x.slip.number)) p (arrived p cells x) out
  during_take ph true true et eu =
      let k = during_of r c p cells out so ph in
      let l : is_late p cells x ≡ false = late? k ph ∙ rw (et, eu) in
      let t : turns_receiver p cells x ≡ false = first? k ph ∙ rw et in
      let way : arrived p cells x ≡ arrives cells x = rw (l, t) in
      subst (λ c'. Sound r c' p (arrived p cells x) out) (sym (same_cut c x.slip.receiver true _ et))
      (subst (λ cells'. Sound r (with_event c true (take x.slip.sender x.slip.number)) p cells' out) (sym way)
      (record { shape = arrives_shape r c p cells out so x has yes'; common = arrives_common r c p cells out so x has yes'; state = as_during p _ _ ph (arrives_new r c p cells out so x has yes' k et eu) }))
  during_take ph true false et eu =
      let k = during_of r c p cells out so ph in
      let l : is_late p cells x ≡ true = late? k ph ∙ rw (et, eu) in
      let way : arrived p cells x ≡ arrives_late cells x = rw l in
      subst (λ c'. Sound r c' p (arrived p cells x) out) (sym (same_cut c x.slip.receiver true _ et))
      (subst (λ cells'. Sound r (with_event c true (take x.slip.sender x.slip.number)) p cells' out) (sym way)
      (record { shape = late_shape r c p cells out so x has yes'; common = late_common r c p cells out so x has yes'; state = as_during p _ _ ph (late_during r c p cells out so x has yes' k et eu) }))
  during_take ph false false et eu =
      let k = during_of r c p cells out so ph in
      let l : is_late p cells x ≡ false = late? k ph ∙ rw et in
      let t : turns_receiver p cells x ≡ false = first? k ph ∙ rw (et, eu) in
      let way : arrived p cells x ≡ arrives cells x = rw (l, t) in
      subst (λ c'. Sound r c' p (arrived p cells x) out) (sym (same_cut c x.slip.receiver false _ et))
      (subst (λ cells'. Sound r (with_event c false (take x.slip.sender x.slip.number)) p cells' out) (sym way)
      (record { shape = arrives_shape r c p cells out so x has yes'; common = arrives_common r c p cells out so x has yes'; state = as_during p _ _ ph (arrives_old r c p cells out so x has yes' k et eu) }))
  during_take ph false true et eu =
      let k = during_of r c p cells out so ph in
      let l : is_late p cells x ≡ false = late? k ph ∙ rw et in
      let t : turns_receiver p cells x ≡ true = first? k ph ∙ rw (et, eu) in
      let q = x.slip.receiver in
      let way : arrived p cells x ≡ arrives (turns cells q) x = rw (l, t) in
      let c₁ : Cut = with_turned c (put c.turned q true) in
      let so₁ : Sound r c₁ p (turns cells q) out = turn_sound r c p cells out so ph q lt et in
      let k₁ = during_of r c₁ p (turns cells q) out so₁ ph in
      subst (λ cells'. Sound r (with_event c₁ true (take x.slip.sender x.slip.number)) p cells' out) (sym way)
      (record { shape = arrives_shape r c₁ p (turns cells q) out so₁ x has yes'; common = arrives_common r c₁ p (turns cells q) out so₁ x has yes'; state = as_during p _ _ ph (arrives_new r c₁ p (turns cells q) out so₁ x has yes' k₁ (put_same c.turned q true) eu) })

  pub take_sound : Sound r (with_take c (c.receiver x.slip.sender x.slip.number) x.slip.sender x.slip.number) p (arrived p cells x) out
  take_sound = subst (λ q. Sound r (with_take c q x.slip.sender x.slip.number) p (arrived p cells x) out) (sym (so.common.goes_is x.slip.sender x.slip.number x.slip has)) (go (is_counting p) refl)
    where
      go : (b : Bool) → is_counting p ≡ b → Sound r (with_take c x.slip.receiver x.slip.sender x.slip.number) p (arrived p cells x) out
      go true e = during_take (is_counting_lem p e) (c.turned x.slip.receiver) (c.new x.slip.sender x.slip.number) refl refl
      go false e = between_take e (with_take c x.slip.receiver x.slip.sender x.slip.number) refl refl refl
