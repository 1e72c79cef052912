-- report: where it is granted it keeps the invariant.
use Rattle.std.proofs.Common.{◌≡◌, ℕ, ◌+◌, ◌<◌, true, [], length, get_or, set, sym, refl, ap, ◌∙◌, subst}
use Rattle.std.proofs.lemmas.List.{length-set}
use Rattle.sections.specs.Rule.{Rule}
use Rattle.house_rules.specs.declared.phase.Phase.{Phase}
use Rattle.house_rules.specs.declared.phase.Phase.TheVariants.{Counting}
use Rattle.house_rules.specs.declared.station.Station.{Station}
use Rattle.house_rules.specs.State.Changes.{with_messages}
use Rattle.house_rules.specs.Theorem.Cut.{Cut}
use Rattle.house_rules.specs.State.Names.{slips_of}
use Rattle.house_rules.specs.Calls.Report.{reported_station, reported_cells}
use Rattle.house_rules.specs.State.House.{Cells, fresh, station_at}
use Rattle.house_rules.proofs.Invariant.Deficits.{balance_report}
use Rattle.house_rules.proofs.Invariant.Cells.{cells_view, field_put, field_kept}
use Rattle.house_rules.proofs.Invariant.Shared.{colouring_as, balance_as}
use Rattle.house_rules.proofs.Invariant.PlainSteps.{same_view}
use Rattle.house_rules.proofs.Invariant.Sound.{start_view, Common, Tree, During, Sound}
use Rattle.house_rules.proofs.Invariant.Cut.{Split}
use Rattle.house_rules.proofs.Calls.Turn.{during_of, as_during}

module _ (r : Rule) (c : Cut) (p : Phase) (cells : Cells) (out : ℕ) (so : Sound r c p cells out) (ph : p ≡ Counting) where
  k : During r c cells out
  k = during_of r c p cells out so ph

  pub report_sound : (s messages left : ℕ) → left + 1 ≡ out → s < cells.n → (station_at cells 0).gathered ≡ true → 0 < (station_at cells s).unreported → Sound r c p (with_messages (reported_cells cells s) messages) left
  report_sound s messages left o lt root some' =
      record {
        shape = record { some' = so.shape.some'; few = so.shape.few; sheets = so.shape.sheets; recorded = so.shape.recorded; stations = length-set cells.stations s _ ∙ so.shape.stations };
        common = subst (λ v. Common cells.n r c.all c.posted c.receiver v (slips_of cells.tray) (slips_of cells.late)) (sym view) so.common;
        state =
            as_during p _ _ ph
            (record {
              base = k.base;
              colouring = colouring_as (sym (kept (λ t. t.turned) refl)) (sym (kept (λ t. t.colour) refl)) refl k.colouring;
              split = subst (λ v. Split cells.n r (start_view cells.n) (λ s. get_or cells.recorded s []) v (slips_of cells.late) c.turned c.new c.before c.after) (sym view) k.split;
              balance = balance_as (sym (kept (λ t. t.running) refl)) (sym (kept (λ t. t.frozen) refl)) (sym (field_put (λ t. t.unreported) cells.stations s st ls)) (ap (λ f. f 0) (sym (kept (λ t. t.gathered) refl))) refl refl refl (balance_report _ _ _ _ _ _ _ _ _ _ k.balance s left o root some' lt);
              tree = subst (λ f. Tree cells.n f c.turned) (sym (kept (λ t. t.gathered) refl)) k.tree;
              given = λ a b e. rw (ap (λ f. f a) (kept (λ t. t.posted) refl)) (k.given a b e);
            });
      }
    where
      st : Station
      st = reported_station (station_at cells s)

      ls : s < length cells.stations
      ls = rw so.shape.stations lt

      kept : {Y : Type 0} (g : Station → Y) → g st ≡ g (station_at cells s) → ◌≡◌ {A = ℕ → Y} (λ t. g (get_or (set cells.stations s st) t fresh)) (λ t. g (station_at cells t))
      kept g e = field_kept g cells.stations s st ls e

      view : cells_view (with_messages (reported_cells cells s) messages) ≡ cells_view cells
      view = same_view _ _ refl (kept (λ t. t.posted) refl) refl
