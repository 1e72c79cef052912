-- close: where it is granted every station has turned and no old slip is under way, and it keeps the invariant.
use Rattle.std.proofs.Common.{◌≡◌, ℕ, ◌+◌, ◌<◌, Bool, true, false, cond, not, List, [], ◌∷◌, pos, sym, ap, ◌∙◌, arith}
use Rattle.std.proofs.lemmas.Bool.{not-false}
use Rattle.std.specs.List.{AllByRecursion}
use Rattle.sections.specs.Rule.{Rule}
use Rattle.house_rules.specs.declared.colour.Colour.{Colour}
use Rattle.house_rules.specs.declared.phase.Phase.{Phase}
use Rattle.house_rules.specs.declared.phase.Phase.TheVariants.{Closed}
use Rattle.house_rules.specs.declared.slip.ColouredSlip.{ColouredSlip}
use Rattle.house_rules.specs.Theorem.Cut.{Cut}
use Rattle.house_rules.specs.State.House.{Cells, station_at}
use Rattle.house_rules.proofs.Invariant.Colours.{shade}
use Rattle.house_rules.proofs.Invariant.Sound.{During, Sound, all_turned}
use Rattle.house_rules.proofs.Lists.Totals.{sum_z, sum_n, sum_z_same, count, count_both, count_zero}

pub all_new : (base : Colour) (new : ℕ → ℕ → Bool) (xs : List ColouredSlip) → AllByRecursion (λ (x : ColouredSlip). x.colour ≡ shade base (new x.slip.sender x.slip.number)) xs → AllByRecursion (λ (x : ColouredSlip). not (new x.slip.sender x.slip.number) ≡ false) xs → AllByRecursion (λ (x : ColouredSlip). x.colour ≡ shade base true) xs
all_new base new [] h k = tt
all_new base new (x ∷ xs) h k =
    let e : new x.slip.sender x.slip.number ≡ true = not-false (new x.slip.sender x.slip.number) k.0 in
    (h.0 ∙ ap (shade base) e, all_new base new xs h.1 k.1)

module _ (r : Rule) (c : Cut) (p : Phase) (cells : Cells) (out : ℕ) (so : Sound r c p cells out) (k : During r c cells out) (root : (station_at cells 0).gathered ≡ true) where
  pub owed : out ≡ (count (λ a b. not (c.new a b)) cells.tray + sum_n (λ s. (station_at cells s).unreported) cells.n)
  owed = let a = k.balance.asked in rw root at a

  pub every : (s : ℕ) → s < cells.n → c.turned s ≡ true
  every = all_turned cells.n (λ s. (station_at cells s).gathered) c.turned k.tree root

  module _ (none_out : out ≡ 0) where
    pub no_olds : count (λ a b. not (c.new a b)) cells.tray ≡ 0
    no_olds = let o = owed in omega arith

    pub none_old : AllByRecursion (λ (x : ColouredSlip). not (c.new x.slip.sender x.slip.number) ≡ false) cells.tray
    none_old = count_zero (λ a b. not (c.new a b)) cells.tray no_olds

    pub close_sound : Sound r c Closed cells out
    close_sound =
        record {
          shape = so.shape;
          common = so.common;
          state =
              record {
                base = shade k.base true;
                coloured = λ s l. k.colouring.coloured s l ∙ ap (shade k.base) (every s l);
                slips = all_new k.base c.new cells.tray k.colouring.slips none_old;
                running =
                    let g : sum_z (λ s. cond (c.turned s) (station_at cells s).running (pos 0)) cells.n ≡ sum_z (λ s. (station_at cells s).running) cells.n = sum_z_same _ _ cells.n (λ s l. rw (every s l)) in
                    let b = count_both c.new cells.tray in
                    let o = no_olds in
                    sym g ∙ k.balance.running ∙ ap pos (omega arith);
              };
        }
