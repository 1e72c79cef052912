-- gather: where it is granted it keeps the invariant, and at the root every station has turned.
use Rattle.std.proofs.Common.{◌≡◌, ℕ, ◌+◌, ◌*◌, ◌<◌, Bool, true, false, not, eqb, leb, [], length, get_or, set, pos, sym, refl, ap, ◌∙◌, subst, arith}
use Rattle.std.proofs.lemmas.List.{length-set}
use Rattle.std.proofs.lemmas.Bool.{eqb-true, eqb-false, lt-leb}
use Rattle.sections.specs.Rule.{Rule}
use Rattle.house_rules.specs.declared.phase.Phase.{Phase}
use Rattle.house_rules.specs.declared.phase.Phase.TheVariants.{Counting}
use Rattle.house_rules.specs.declared.station.Station.{Station}
use Rattle.house_rules.specs.State.Changes.{with_messages}
use Rattle.house_rules.specs.Theorem.Cut.{put, Cut}
use Rattle.house_rules.specs.Calls.Gather.{gathered_below, sum_at, gathered_station, gathered_cells}
use Rattle.house_rules.specs.State.Names.{slips_of}
use Rattle.house_rules.specs.State.House.{Cells, fresh, station_at}
use Rattle.house_rules.proofs.Invariant.Deficits.{Balance, balance_root}
use Rattle.house_rules.proofs.Invariant.GatheredSum.{root_sum}
use Rattle.house_rules.proofs.Invariant.Cells.{cells_view, field_put, field_kept}
use Rattle.house_rules.proofs.Invariant.Shared.{colouring_as, balance_as}
use Rattle.house_rules.proofs.Invariant.PlainSteps.{same_view}
use Rattle.house_rules.proofs.Invariant.Sound.{start_view, Common, Tree, During, Sound, all_turned}
use Rattle.house_rules.proofs.Invariant.Cut.{Split}
use Rattle.house_rules.proofs.Lists.Totals.{sum_z, count}
use Rattle.house_rules.proofs.Calls.Turn.{during_of, as_during}
use Rattle.house_rules.proofs.Lists.Puts.{put_other}

module _ (r : Rule) (c : Cut) (p : Phase) (cells : Cells) (out : ℕ) (so : Sound r c p cells out) (ph : p ≡ Counting) where
  k : During r c cells out
  k = during_of r c p cells out so ph

  -- with station s gathered, what has gathered still has turned and has its children gathered
  gathers_tree : (s : ℕ) → s < cells.n → (station_at cells s).turned ≡ true → gathered_below cells (2 * s + 1) ≡ true → gathered_below cells (2 * s + 2) ≡ true → Tree cells.n (put (λ t. (station_at cells t).gathered) s true) c.turned
  gathers_tree s lt tu left right i l g = go (eqb i s) refl
    where
      G : ℕ → Bool
      G t = (station_at cells t).gathered

      more : (i : ℕ) → G i ≡ true → put G s true i ≡ true
      more i e = grind arith

      child : (i : ℕ) → gathered_below cells i ≡ true → i < cells.n → put G s true i ≡ true
      child i b l = more i (let w : leb cells.n i ≡ false = lt-leb cells.n i l in grind arith)

      go : (b : Bool) → eqb i s ≡ b → (c.turned i ≡ true) × (2 * i + 1 < cells.n → put G s true (2 * i + 1) ≡ true) × (2 * i + 2 < cells.n → put G s true (2 * i + 2) ≡ true)
      go true q =
          let w = eqb-true i s q in
          rw w (sym (k.colouring.marked s lt) ∙ tu, child (2 * s + 1) left, child (2 * s + 2) right)
      go false q =
          let old = k.tree i l (let g' : put G s true i ≡ true = g in rw q at g') in
          (old.0, λ j. more (2 * i + 1) (old.1 j), λ j. more (2 * i + 2) (old.2 j))

  -- when the root may gather, every station has turned
  pub turned_below : (s : ℕ) → s ≡ 0 → s < cells.n → (station_at cells s).turned ≡ true → gathered_below cells (2 * s + 1) ≡ true → gathered_below cells (2 * s + 2) ≡ true → (t : ℕ) → t < cells.n → c.turned t ≡ true
  turned_below s z lt tu left right = all_turned cells.n (put (λ t. (station_at cells t).gathered) s true) c.turned (gathers_tree s lt tu left right) (let w : put (λ t. (station_at cells t).gathered) s true 0 ≡ true = rw z in w)

  pub gather_sound : (s messages left : ℕ) → (eqb s 0 ≡ true → pos left ≡ sum_at cells s) → (eqb s 0 ≡ false → left ≡ out) → s < cells.n → (station_at cells s).turned ≡ true → (station_at cells s).gathered ≡ false → gathered_below cells (2 * s + 1) ≡ true → gathered_below cells (2 * s + 2) ≡ true → Sound r c p (with_messages (gathered_cells cells s) messages) left
  gather_sound s messages left at-root else' lt tu ng left' right =
      record {
        shape = record { some' = so.shape.some'; few = so.shape.few; sheets = so.shape.sheets; recorded = so.shape.recorded; stations = length-set cells.stations s _ ∙ so.shape.stations };
        common = subst (λ v. Common cells.n r c.all c.posted c.receiver v (slips_of cells.tray) (slips_of cells.late)) (sym view) so.common;
        state =
            as_during p _ _ ph
            (record {
              base = k.base;
              colouring = colouring_as (sym (kept (λ t. t.turned) refl)) (sym (kept (λ t. t.colour) refl)) refl k.colouring;
              split = subst (λ v. Split cells.n r (start_view cells.n) (λ s. get_or cells.recorded s []) v (slips_of cells.late) c.turned c.new c.before c.after) (sym view) k.split;
              balance = balance_as (sym (kept (λ t. t.running) refl)) (sym (kept (λ t. t.frozen) refl)) (sym (kept (λ t. t.unreported) refl)) (ap (λ f. f 0) (sym g_is)) refl refl refl (balanced (eqb s 0) refl);
              tree = subst (λ f. Tree cells.n f c.turned) (sym g_is) (gathers_tree s lt tu left' right);
              given = λ a b e. rw (ap (λ f. f a) (kept (λ t. t.posted) refl)) (k.given a b e);
            });
      }
    where
      st : Station
      st = gathered_station (station_at cells s)

      ls : s < length cells.stations
      ls = rw so.shape.stations lt

      kept : {Y : Type 0} (g : Station → Y) → g st ≡ g (station_at cells s) → ◌≡◌ {A = ℕ → Y} (λ t. g (get_or (set cells.stations s st) t fresh)) (λ t. g (station_at cells t))
      kept g e = field_kept g cells.stations s st ls e

      view : cells_view (with_messages (gathered_cells cells s) messages) ≡ cells_view cells
      view = same_view _ _ refl (kept (λ t. t.posted) refl) refl

      g_is : (λ t. (get_or (set cells.stations s st) t fresh).gathered) ≡ put (λ t. (station_at cells t).gathered) s true
      g_is = field_put (λ t. t.gathered) cells.stations s st ls

      root_of : sum_at cells 0 ≡ sum_z (λ t. (station_at cells t).frozen) cells.n
      root_of = root_sum cells.stations (rw so.shape.stations so.shape.few) ∙ ap (λ j. sum_z (λ t. (station_at cells t).frozen) j) so.shape.stations

      balanced : (b : Bool) → eqb s 0 ≡ b → Balance cells.n (λ t. (station_at cells t).running) (λ t. (station_at cells t).frozen) (λ t. (station_at cells t).unreported) (put (λ t. (station_at cells t).gathered) s true 0) left (count (λ a b. not (c.new a b)) cells.tray) (count c.new cells.tray) (length cells.late) c.turned
      balanced true q =
          let w = eqb-true s 0 q in
          let ng' : (station_at cells 0).gathered ≡ false = rw w at ng in
          let r0 : put (λ t. (station_at cells t).gathered) s true 0 ≡ true = rw w in
          let o : pos left ≡ sum_at cells 0 = at-root q ∙ ap (sum_at cells) w in
          rw r0 (balance_root _ _ _ _ _ _ _ _ _ _ k.balance left ng' (all_turned cells.n (put (λ t. (station_at cells t).gathered) s true) c.turned (gathers_tree s lt tu left' right) r0) (o ∙ root_of))
      balanced false q =
          let w = eqb-false s 0 q in
          let r0 : put (λ t. (station_at cells t).gathered) s true 0 ≡ (station_at cells 0).gathered = put_other (λ t. (station_at cells t).gathered) s 0 true (λ z. w (sym z)) in
          rw (r0, else' q) k.balance
