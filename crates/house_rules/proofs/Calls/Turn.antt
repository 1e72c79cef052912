-- turn: where it is granted it keeps the invariant.
use Rattle.std.proofs.Common.{◌≡◌, ℕ, ◌<◌, true, false, [], length, get_or, sym, refl, ap, subst, arith}
use Rattle.sections.specs.Rule.{Rule}
use Rattle.house_rules.specs.declared.phase.Phase.{Phase}
use Rattle.house_rules.specs.declared.phase.Phase.TheVariants.{Counting}
use Rattle.house_rules.specs.declared.station.Station.{Station}
use Rattle.house_rules.specs.Theorem.Cut.{put, Cut, with_turned}
use Rattle.house_rules.specs.State.Names.{slips_of}
use Rattle.house_rules.specs.State.House.{Cells, station_at, sheet_at}
use Rattle.house_rules.specs.Calls.Turn.{turned_station, turns}
use Rattle.house_rules.proofs.Invariant.Deficits.{balance_turn}
use Rattle.house_rules.proofs.Invariant.Colours.{colouring_turn}
use Rattle.house_rules.proofs.Invariant.Cells.{cells_view, field_put, field_kept, turn_view, turn_shape}
use Rattle.house_rules.proofs.Invariant.Shared.{colouring_as, balance_as}
use Rattle.house_rules.proofs.Invariant.Sound.{start_view, Common, Between, Tree, During, ByPhase, Sound}
use Rattle.house_rules.proofs.Invariant.Cut.{Split, split_turn}
use Rattle.house_rules.proofs.Lists.Puts.{get_or-put}

pub during_of : (r : Rule) (c : Cut) (p : Phase) (cells : Cells) (out : ℕ) → Sound r c p cells out → p ≡ Counting → During r c cells out
during_of r c p cells out so e = subst (λ q. ByPhase q (Between cells.n (λ s. (station_at cells s).colour) (λ s. (station_at cells s).running) cells.tray) (During r c cells out)) e so.state

pub as_during : (p : Phase) (A B : Type 0) → p ≡ Counting → B → ByPhase p A B
as_during p A B e b = subst (λ q. ByPhase q A B) (sym e) b

module _ (r : Rule) (c : Cut) (p : Phase) (cells : Cells) (out : ℕ) (so : Sound r c p cells out) (ph : p ≡ Counting) where
  pub turn_sound : (s : ℕ) → s < cells.n → c.turned s ≡ false → Sound r (with_turned c (put c.turned s true)) p (turns cells s) out
  turn_sound s lt un =
      record {
        shape = turn_shape r cells so.shape s lt;
        common = subst (λ v. Common cells.n r c.all c.posted c.receiver v (slips_of cells.tray) (slips_of cells.late)) (sym view) so.common;
        state = as_during p _ _ ph go;
      }
    where
      k : During r c cells out
      k = during_of r c p cells out so ph

      cells' : Cells
      cells' = turns cells s

      ls : s < length cells.stations
      ls = rw so.shape.stations lt

      view : cells_view cells' ≡ cells_view cells
      view = turn_view r cells so.shape s lt

      t' : Station
      t' = turned_station (station_at cells s)

      go : During r (with_turned c (put c.turned s true)) cells' out
      go =
          record {
            base = k.base;
            colouring = colouring_as (sym (field_put (λ t. t.turned) cells.stations s t' ls)) (sym (field_put (λ t. t.colour) cells.stations s t' ls)) refl (colouring_turn cells.n k.base _ _ _ _ _ _ k.colouring s lt un);
            split =
                subst (λ f. Split cells.n r (start_view cells.n) f (cells_view cells') (slips_of cells.late) (put c.turned s true) c.new c.before c.after) (sym (get_or-put cells.recorded s (sheet_at cells s) [] (rw so.shape.recorded lt)))
                (subst (λ v. Split cells.n r (start_view cells.n) (put (λ t. get_or cells.recorded t []) s (sheet_at cells s)) v (slips_of cells.late) (put c.turned s true) c.new c.before c.after) (sym view)
                (split_turn _ _ _ _ _ _ _ _ _ _ k.split s un));
            balance =
                balance_as (sym (field_put (λ t. t.running) cells.stations s t' ls)) (sym (field_put (λ t. t.frozen) cells.stations s t' ls)) (sym (field_kept (λ t. t.unreported) cells.stations s t' ls refl)) (ap (λ f. f 0) (sym (field_kept (λ t. t.gathered) cells.stations s t' ls refl))) refl refl refl
                (balance_turn _ _ _ _ _ _ _ _ _ _ k.balance s un);
            tree =
                subst (λ f. Tree cells.n f (put c.turned s true)) (sym (field_kept (λ t. t.gathered) cells.stations s t' ls refl))
                (λ i l g. let old = k.tree i l g in (let o = old.0 in grind arith, old.1, old.2));
            given = λ a b e. rw (ap (λ f. f a) (field_kept (λ t. t.posted) cells.stations s t' ls refl)) (k.given a b e);
          }
