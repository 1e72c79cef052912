-- enter: where it is granted it keeps the invariant.
use Rattle.std.proofs.Common.{◌≡◌, ℕ, ◌<◌, Bool, true, false, ℤ, refl, ◌∙◌}
use Rattle.std.proofs.lemmas.List.{length-set}
use Rattle.common.specs.Questions.{all_yes}
use Rattle.sections.specs.Rule.{Rule}
use Rattle.house_rules.specs.declared.phase.Phase.{Phase}
use Rattle.house_rules.specs.Theorem.Cut.{Cut, with_event}
use Rattle.house_rules.specs.Calls.Enter.{entered_cells}
use Rattle.house_rules.specs.State.Names.{slips_of}
use Rattle.house_rules.specs.State.House.{Cells, sheet_at}
use Rattle.house_rules.proofs.Invariant.Cells.{cells_view, enter_acts}
use Rattle.house_rules.proofs.Invariant.Shared.{by_phase, common_act, start_numbered}
use Rattle.house_rules.proofs.Invariant.Sound.{During, Sound}
use Rattle.house_rules.proofs.Invariant.Cut.{split_later, split_sooner}
use Rattle.house_rules.proofs.Invariant.PlainHouse.{Acts, enter'}
use Rattle.house_rules.specs.Calls.Event.{enter}

module _ (r : Rule) (c : Cut) (p : Phase) (cells : Cells) (out : ℕ) (so : Sound r c p cells out) where
  pub enter_sound : (s a b : ℕ) (code : ℤ) → s < cells.n → all_yes (r.entry (sheet_at cells s) a b code) ≡ true → Sound r (with_event c (c.turned s) (enter s a b code)) p (entered_cells r cells s a b code) out
  enter_sound s a b code lt yes' =
      record {
        shape = record { some' = so.shape.some'; few = so.shape.few; sheets = length-set cells.sheets s _ ∙ so.shape.sheets; recorded = so.shape.recorded; stations = so.shape.stations };
        common = common_act cells.n r c.all c.posted c.posted c.receiver c.receiver (cells_view cells) (cells_view cells') (slips_of cells.tray) (slips_of cells.tray) (slips_of cells.late) (slips_of cells.late) (enter' s a b code) so.common act so.common.naming so.common.sent_is so.common.goes_is;
        state = by_phase p _ _ _ _ (λ x. x) (λ k. go k (c.turned s) refl) so.state;
      }
    where
      cells' : Cells
      cells' = entered_cells r cells s a b code

      act : Acts cells.n r (cells_view cells) (enter' s a b code) (cells_view cells')
      act = enter_acts r cells so.shape s a b code lt yes'

      go : During r c cells out → (t : Bool) → c.turned s ≡ t → During r (with_event c t (enter s a b code)) cells' out
      go k true e =
          record {
            base = k.base;
            colouring = k.colouring;
            split = split_later _ _ _ _ _ _ _ _ _ _ k.split (enter' s a b code) (cells_view cells') (slips_of cells.late) c.new act e tt (λ _ _ q. q) (λ _ _. refl);
            balance = k.balance;
            tree = k.tree;
            given = k.given;
          }
      go k false e =
          record {
            base = k.base;
            colouring = k.colouring;
            split = split_sooner _ _ _ _ _ _ _ _ _ _ k.split (enter' s a b code) (cells_view cells') c.new (start_numbered cells.n) act e tt (λ _ _ q. q) k.split.slips;
            balance = k.balance;
            tree = k.tree;
            given = k.given;
          }
