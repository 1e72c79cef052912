-- take: a slip that arrives, late or not, keeps the invariant where its receiver need not turn.
use Rattle.std.proofs.Common.{◌≡◌, ℕ, ◌+◌, ◌<◌, ◌≤◌, Bool, true, false, cond, not, [], ◌∷◌, ◌++◌, length, pos, ◌-ℤ◌, Some, None, sym, refl, ap, ◌∙◌, subst, arith}
use Rattle.std.proofs.lemmas.List.{length-set, length_push}
use Rattle.std.proofs.lemmas.Int.{ints}
use Rattle.common.specs.Questions.{all_yes}
use Rattle.sections.specs.Rule.{Rule}
use Rattle.house_rules.specs.declared.phase.Phase.{Phase}
use Rattle.house_rules.specs.declared.slip.ColouredSlip.{ColouredSlip}
use Rattle.house_rules.specs.declared.slip.Slip.{Slip}
use Rattle.house_rules.specs.declared.station.Station.{Station}
use Rattle.house_rules.specs.Theorem.Cut.{put, put_slip, Cut, with_event}
use Rattle.house_rules.specs.State.Names.{same_name, find, without, without_coloured, slips_of}
use Rattle.house_rules.specs.State.House.{Cells, station_at, sheet_at}
use Rattle.house_rules.specs.Calls.Take.{took_station, late_station, arrives, arrives_late}
use Rattle.house_rules.proofs.Invariant.Deficits.{Balance, balance_take_new, balance_take_old, balance_late}
use Rattle.house_rules.proofs.Invariant.Colours.{Colouring, all_less, colouring_less, colouring_late}
use Rattle.house_rules.proofs.Invariant.Cells.{cells_view, Shape, field_put, field_kept, slips_less, slips_push, late_acts, take_acts}
use Rattle.house_rules.proofs.Invariant.Names.{Naming, not_found, find_push_at, naming_less, naming_late}
use Rattle.house_rules.proofs.Invariant.Shared.{colouring_as, balance_as, common_act, start_numbered, root_waits}
use Rattle.house_rules.proofs.Lists.Slips.{same_name_true, find_without}
use Rattle.house_rules.proofs.Invariant.Sound.{Common, Between, Tree, During, Sound}
use Rattle.house_rules.proofs.Invariant.Cut.{pending, split_later, split_sooner}
use Rattle.house_rules.proofs.Lists.Totals.{sum_z, sum_z_put, count, count_less}
use Rattle.house_rules.proofs.Invariant.PlainHouse.{Acts, take'}
use Rattle.house_rules.specs.Calls.Event.{take}

module _ (r : Rule) (c : Cut) (p : Phase) (cells : Cells) (out : ℕ) (so : Sound r c p cells out) (x : ColouredSlip) (has : find x.slip.sender x.slip.number (slips_of cells.tray) ≡ Some x.slip) (yes' : all_yes (r.credit (sheet_at cells x.slip.receiver) x.slip.line x.slip.amount) ≡ true) where
  within : x.slip.receiver < cells.n
  within = so.common.naming.meant x.slip.sender x.slip.number x.slip has

  ls : x.slip.receiver < length cells.stations
  ls = rw so.shape.stations within

  tray_is : slips_of (without_coloured x.slip.sender x.slip.number cells.tray) ≡ without x.slip.sender x.slip.number (slips_of cells.tray)
  tray_is = slips_less x.slip.sender x.slip.number cells.tray

  goes_less : (a b : ℕ) (y : Slip) → find a b (slips_of (without_coloured x.slip.sender x.slip.number cells.tray)) ≡ Some y → c.receiver a b ≡ y.receiver
  goes_less a b y e =
      let w = find_without x.slip.sender x.slip.number a b (slips_of cells.tray) so.common.naming.apart in
      let e' : find a b (without x.slip.sender x.slip.number (slips_of cells.tray)) ≡ Some y = rw tray_is at e in
      so.common.goes_is a b y (grind arith)

  none_late : find x.slip.sender x.slip.number (slips_of cells.late) ≡ None
  none_late = not_found x.slip.sender x.slip.number (slips_of cells.late) (λ y e. let g = so.common.naming.out x.slip.sender x.slip.number y e in let z : ◌≡◌ {A = ℕ} 0 1 = cc in omega arith)

  -- not late

  pub arrives_shape : Shape (arrives cells x)
  arrives_shape = record { some' = so.shape.some'; few = so.shape.few; sheets = length-set cells.sheets x.slip.receiver _ ∙ so.shape.sheets; recorded = so.shape.recorded; stations = length-set cells.stations x.slip.receiver _ ∙ so.shape.stations }

  arrives_act : Acts cells.n r (cells_view cells) (take' x.slip) (cells_view (arrives cells x))
  arrives_act = take_acts r cells so.shape x so.common.naming.apart has within yes'

  pub arrives_common : Common cells.n r (c.all ++ take x.slip.sender x.slip.number ∷ []) c.posted c.receiver (cells_view (arrives cells x)) (slips_of (without_coloured x.slip.sender x.slip.number cells.tray)) (slips_of cells.late)
  arrives_common =
      common_act cells.n r c.all c.posted c.posted c.receiver c.receiver (cells_view cells) (cells_view (arrives cells x)) (slips_of cells.tray) _ (slips_of cells.late) (slips_of cells.late) (take' x.slip) so.common arrives_act
      (subst (λ l. Naming cells.n (λ t. (station_at (arrives cells x) t).posted) l (slips_of cells.late)) (sym tray_is) (subst (λ p. Naming cells.n p (without x.slip.sender x.slip.number (slips_of cells.tray)) (slips_of cells.late)) (sym posted_is) (naming_less cells.n _ _ _ so.common.naming x.slip.sender x.slip.number)))
      (λ t. so.common.sent_is t ∙ ap (λ g. g t) (sym posted_is))
      goes_less
    where
      posted_is : ◌≡◌ {A = ℕ → ℕ} (λ t. (station_at (arrives cells x) t).posted) (λ t. (station_at cells t).posted)
      posted_is = field_kept (λ t. t.posted) cells.stations x.slip.receiver (took_station (station_at cells x.slip.receiver)) ls refl

  pub arrives_between : Between cells.n (λ t. (station_at cells t).colour) (λ t. (station_at cells t).running) cells.tray → Between cells.n (λ t. (station_at (arrives cells x) t).colour) (λ t. (station_at (arrives cells x) t).running) (arrives cells x).tray
  arrives_between k =
      record {
        base = k.base;
        coloured = λ t l. ap (λ f. f t) (field_kept (λ t. t.colour) cells.stations x.slip.receiver (took_station (station_at cells x.slip.receiver)) ls refl) ∙ k.coloured t l;
        slips = all_less _ x.slip.sender x.slip.number cells.tray k.slips;
        running =
            let m = sum_z_put (λ t. (station_at cells t).running) x.slip.receiver ((station_at cells x.slip.receiver).running -ℤ pos 1) cells.n within in
            let g = k.running in
            let p = count_less (λ a b. true) x.slip.sender x.slip.number x.slip cells.tray has in
            ap (λ f. sum_z f cells.n) (field_put (λ t. t.running) cells.stations x.slip.receiver (took_station (station_at cells x.slip.receiver)) ls) ∙ omega (arith, ints);
      }

  module _ (k : During r c cells out) where
    news : count c.new cells.tray ≡ count c.new (without_coloured x.slip.sender x.slip.number cells.tray) + cond (c.new x.slip.sender x.slip.number) 1 0
    news = count_less c.new x.slip.sender x.slip.number x.slip cells.tray has

    olds : count (λ a b. not (c.new a b)) cells.tray ≡ count (λ a b. not (c.new a b)) (without_coloured x.slip.sender x.slip.number cells.tray) + cond (not (c.new x.slip.sender x.slip.number)) 1 0
    olds = count_less (λ a b. not (c.new a b)) x.slip.sender x.slip.number x.slip cells.tray has

    arrives_colouring : Colouring cells.n k.base (λ t. (station_at (arrives cells x) t).turned) (λ t. (station_at (arrives cells x) t).colour) (without_coloured x.slip.sender x.slip.number cells.tray) (slips_of cells.late) c.turned c.new
    arrives_colouring =
        colouring_as (sym (field_kept (λ t. t.turned) cells.stations x.slip.receiver (took_station (station_at cells x.slip.receiver)) ls refl)) (sym (field_kept (λ t. t.colour) cells.stations x.slip.receiver (took_station (station_at cells x.slip.receiver)) ls refl)) refl
        (colouring_less cells.n k.base _ _ _ _ _ _ k.colouring x.slip.sender x.slip.number)

    arrives_tree : Tree cells.n (λ t. (station_at (arrives cells x) t).gathered) c.turned
    arrives_tree = subst (λ g. Tree cells.n g c.turned) (sym (field_kept (λ t. t.gathered) cells.stations x.slip.receiver (took_station (station_at cells x.slip.receiver)) ls refl)) k.tree

    arrives_given : (a b : ℕ) → c.new a b ≡ true → b ≤ (station_at (arrives cells x) a).posted
    arrives_given a b e = rw (ap (λ g. g a) (field_kept (λ t. t.posted) cells.stations x.slip.receiver (took_station (station_at cells x.slip.receiver)) ls refl)) (k.given a b e)

    arrives_balance : (old new : ℕ) → Balance cells.n (put (λ t. (station_at cells t).running) x.slip.receiver ((station_at cells x.slip.receiver).running -ℤ pos 1)) (λ t. (station_at cells t).frozen) (λ t. (station_at cells t).unreported) (station_at cells 0).gathered out old new (length cells.late) c.turned → old ≡ count (λ a b. not (c.new a b)) (arrives cells x).tray → new ≡ count c.new (arrives cells x).tray → Balance cells.n (λ t. (station_at (arrives cells x) t).running) (λ t. (station_at (arrives cells x) t).frozen) (λ t. (station_at (arrives cells x) t).unreported) (station_at (arrives cells x) 0).gathered out (count (λ a b. not (c.new a b)) (arrives cells x).tray) (count c.new (arrives cells x).tray) (length cells.late) c.turned
    arrives_balance old new b eo en =
        balance_as (sym (field_put (λ t. t.running) cells.stations x.slip.receiver (took_station (station_at cells x.slip.receiver)) ls)) (sym (field_kept (λ t. t.frozen) cells.stations x.slip.receiver (took_station (station_at cells x.slip.receiver)) ls refl)) (sym (field_kept (λ t. t.unreported) cells.stations x.slip.receiver (took_station (station_at cells x.slip.receiver)) ls refl)) (ap (λ f. f 0) (sym (field_kept (λ t. t.gathered) cells.stations x.slip.receiver (took_station (station_at cells x.slip.receiver)) ls refl))) eo en refl b

    slips_at : (a b : ℕ) → find a b (slips_of (without_coloured x.slip.sender x.slip.number cells.tray)) ≡ put_slip (λ a b. find a b (slips_of cells.tray)) x.slip.sender x.slip.number None a b
    slips_at a b = ap (λ g. g a b) arrives_act.slips

    -- a new slip at a station that has turned
    pub arrives_new : c.turned x.slip.receiver ≡ true → c.new x.slip.sender x.slip.number ≡ true → During r (with_event c true (take x.slip.sender x.slip.number)) (arrives cells x) out
    arrives_new tu nw =
        record {
          base = k.base;
          colouring = arrives_colouring;
          split = split_later _ _ _ _ _ _ _ _ _ _ k.split (take' x.slip) (cells_view (arrives cells x)) (slips_of cells.late) c.new arrives_act tu tt (λ _ _ q. q) (λ a b. pend a b (same_name x.slip.sender x.slip.number a b) refl);
          balance = arrives_balance _ _ (balance_take_new _ _ _ _ _ _ _ _ _ _ k.balance x.slip.receiver (count c.new (without_coloured x.slip.sender x.slip.number cells.tray)) (news ∙ rw nw (omega arith)) tu within) (olds ∙ rw nw (omega arith)) refl;
          tree = arrives_tree;
          given = arrives_given;
        }
      where
        pend : (a b : ℕ) (t : Bool) → same_name x.slip.sender x.slip.number a b ≡ t → pending c.new (λ a b. find a b (slips_of cells.tray)) (slips_of cells.late) a b ≡ pending c.new (λ a b. find a b (slips_of (without_coloured x.slip.sender x.slip.number cells.tray))) (slips_of cells.late) a b
        pend a b true t =
            let q = same_name_true x.slip.sender x.slip.number a b t in
            let nw' : c.new a b ≡ true = rw (q.0, q.1) nw in
            rw nw'
        pend a b false t = rw (slips_at a b, t)

    -- an old slip at a station that has not turned
    pub arrives_old : c.turned x.slip.receiver ≡ false → c.new x.slip.sender x.slip.number ≡ false → During r (with_event c false (take x.slip.sender x.slip.number)) (arrives cells x) out
    arrives_old un nw =
        record {
          base = k.base;
          colouring = arrives_colouring;
          split = split_sooner _ _ _ _ _ _ _ _ _ _ k.split (take' x.slip) (cells_view (arrives cells x)) c.new (start_numbered cells.n) arrives_act un nw (λ _ _ q. q) (λ a b. pend a b (same_name x.slip.sender x.slip.number a b) refl);
          balance = arrives_balance _ _ (balance_take_old _ _ _ _ _ _ _ _ _ _ k.balance x.slip.receiver (count (λ a b. not (c.new a b)) (without_coloured x.slip.sender x.slip.number cells.tray)) (olds ∙ rw nw (omega arith)) un within (root_waits c cells k.tree x.slip.receiver within un)) refl (news ∙ rw nw (omega arith));
          tree = arrives_tree;
          given = arrives_given;
        }
      where
        pend : (a b : ℕ) (t : Bool) → same_name x.slip.sender x.slip.number a b ≡ t → put_slip k.split.x.slips x.slip.sender x.slip.number None a b ≡ pending c.new (λ a b. find a b (slips_of (without_coloured x.slip.sender x.slip.number cells.tray))) (slips_of cells.late) a b
        pend a b true t =
            let q = same_name_true x.slip.sender x.slip.number a b t in
            let nw' : c.new a b ≡ false = rw (q.0, q.1) nw in
            let nl' : find a b (slips_of cells.late) ≡ None = rw (q.0, q.1) none_late in
            rw (slips_at a b, t, nw', nl')
        pend a b false t = rw (slips_at a b, t) (k.split.slips a b)

  -- late

  pub late_shape : Shape (arrives_late cells x)
  late_shape = record { some' = so.shape.some'; few = so.shape.few; sheets = length-set cells.sheets x.slip.receiver _ ∙ so.shape.sheets; recorded = so.shape.recorded; stations = length-set cells.stations x.slip.receiver _ ∙ so.shape.stations }

  late_act : Acts cells.n r (cells_view cells) (take' x.slip) (cells_view (arrives_late cells x))
  late_act = late_acts r cells so.shape x so.common.naming.apart has within yes'

  late_is : slips_of (cells.late ++ x ∷ []) ≡ slips_of cells.late ++ x.slip ∷ []
  late_is = slips_push cells.late x

  pub late_common : Common cells.n r (c.all ++ take x.slip.sender x.slip.number ∷ []) c.posted c.receiver (cells_view (arrives_late cells x)) (slips_of (without_coloured x.slip.sender x.slip.number cells.tray)) (slips_of (cells.late ++ x ∷ []))
  late_common =
      common_act cells.n r c.all c.posted c.posted c.receiver c.receiver (cells_view cells) (cells_view (arrives_late cells x)) (slips_of cells.tray) _ (slips_of cells.late) _ (take' x.slip) so.common late_act
      (subst (λ l. Naming cells.n (λ t. (station_at (arrives_late cells x) t).posted) (slips_of (without_coloured x.slip.sender x.slip.number cells.tray)) l) (sym late_is)
      (subst (λ l. Naming cells.n (λ t. (station_at (arrives_late cells x) t).posted) l (slips_of cells.late ++ x.slip ∷ [])) (sym tray_is)
      (subst (λ p. Naming cells.n p (without x.slip.sender x.slip.number (slips_of cells.tray)) (slips_of cells.late ++ x.slip ∷ [])) (sym posted_is)
      (naming_late cells.n _ _ _ so.common.naming x.slip has))))
      (λ t. so.common.sent_is t ∙ ap (λ g. g t) (sym posted_is))
      goes_less
    where
      posted_is : ◌≡◌ {A = ℕ → ℕ} (λ t. (station_at (arrives_late cells x) t).posted) (λ t. (station_at cells t).posted)
      posted_is = field_kept (λ t. t.posted) cells.stations x.slip.receiver (late_station (station_at cells x.slip.receiver)) ls refl

  pub late_during : During r c cells out → c.turned x.slip.receiver ≡ true → c.new x.slip.sender x.slip.number ≡ false → During r (with_event c true (take x.slip.sender x.slip.number)) (arrives_late cells x) out
  late_during k tu nw =
      record {
        base = k.base;
        colouring =
            colouring_as (sym (field_kept (λ t. t.turned) cells.stations x.slip.receiver st ls refl)) (sym (field_kept (λ t. t.colour) cells.stations x.slip.receiver st ls refl)) (sym late_is)
            (colouring_late cells.n k.base _ _ _ _ _ _ (colouring_less cells.n k.base _ _ _ _ _ _ k.colouring x.slip.sender x.slip.number) x.slip none_late nw);
        split = split_later _ _ _ _ _ _ _ _ _ _ k.split (take' x.slip) (cells_view (arrives_late cells x)) (slips_of (cells.late ++ x ∷ [])) c.new late_act tu tt (λ _ _ q. q) (λ a b. pend a b (same_name x.slip.sender x.slip.number a b) refl);
        balance =
            balance_as (sym (field_kept (λ t. t.running) cells.stations x.slip.receiver st ls refl)) (sym (field_kept (λ t. t.frozen) cells.stations x.slip.receiver st ls refl)) (sym (field_put (λ t. t.unreported) cells.stations x.slip.receiver st ls)) (ap (λ f. f 0) (sym (field_kept (λ t. t.gathered) cells.stations x.slip.receiver st ls refl))) refl (news k ∙ rw nw (omega arith)) (let p = length_push cells.late x in omega arith)
            (balance_late _ _ _ _ _ _ _ _ _ _ k.balance x.slip.receiver (count (λ a b. not (c.new a b)) (without_coloured x.slip.sender x.slip.number cells.tray)) (olds k ∙ rw nw (omega arith)) within);
        tree = subst (λ g. Tree cells.n g c.turned) (sym (field_kept (λ t. t.gathered) cells.stations x.slip.receiver st ls refl)) k.tree;
        given = λ a b e. rw (ap (λ g. g a) (field_kept (λ t. t.posted) cells.stations x.slip.receiver st ls refl)) (k.given a b e);
      }
    where
      st : Station
      st = late_station (station_at cells x.slip.receiver)

      late_at : (a b : ℕ) → find a b (slips_of (cells.late ++ x ∷ [])) ≡ put_slip (λ a b. find a b (slips_of cells.late)) x.slip.sender x.slip.number (Some x.slip) a b
      late_at a b = ap (λ l. find a b l) late_is ∙ find_push_at (slips_of cells.late) x.slip none_late a b

      pend : (a b : ℕ) (t : Bool) → same_name x.slip.sender x.slip.number a b ≡ t → pending c.new (λ a b. find a b (slips_of cells.tray)) (slips_of cells.late) a b ≡ pending c.new (λ a b. find a b (slips_of (without_coloured x.slip.sender x.slip.number cells.tray))) (slips_of (cells.late ++ x ∷ [])) a b
      pend a b true t =
          let q = same_name_true x.slip.sender x.slip.number a b t in
          let has' : find a b (slips_of cells.tray) ≡ Some x.slip = rw (q.0, q.1) has in
          rw (slips_at k a b, late_at a b, t, has')
      pend a b false t = rw (slips_at k a b, late_at a b, t)
