-- open: where it is granted it keeps the invariant.
use Rattle.std.proofs.Common.{◌≡◌, ℕ, zero, suc, ◌<◌, false, List, [], ◌∷◌, map, get_or, pos, Some, None, Option, sym, refl, ap, ◌∙◌, subst, arith}
use mathlib.Core.Path.{fun_ext}
use Rattle.std.proofs.lemmas.List.{length-map}
use Rattle.std.specs.List.{AllByRecursion}
use Rattle.sections.specs.Rule.{Rule}
use Rattle.house_rules.specs.declared.phase.Phase.{Phase}
use Rattle.house_rules.specs.declared.phase.Phase.TheVariants.{Ready, Counting}
use Rattle.house_rules.specs.declared.slip.ColouredSlip.{ColouredSlip}
use Rattle.house_rules.specs.declared.slip.Slip.{Slip}
use Rattle.house_rules.specs.declared.station.Station.{Station}
use Rattle.house_rules.specs.Theorem.Cut.{Cut, with_open}
use Rattle.house_rules.specs.State.Names.{find, slips_of}
use Rattle.house_rules.specs.Calls.Open.{cleared_station, cleared, opened_cells}
use Rattle.house_rules.specs.State.House.{Cells, fresh, station_at}
use Rattle.house_rules.proofs.Invariant.Cells.{cells_view}
use Rattle.house_rules.proofs.Invariant.Names.{Naming}
use Rattle.house_rules.proofs.Invariant.PlainSteps.{same_view}
use Rattle.house_rules.proofs.Lists.Slips.{or_else}
use Rattle.house_rules.proofs.Invariant.Sound.{Common, Between, During, ByPhase, Sound}
use Rattle.house_rules.proofs.Lists.Totals.{sum_z, sum_n_none, sum_z_none, count_none}
use Rattle.house_rules.proofs.Calls.Turn.{turn_sound}

pub mapped : (l : List Station) (s : ℕ) → get_or (map cleared_station l) s fresh ≡ cleared_station (get_or l s fresh)
mapped [] s = refl
mapped (x ∷ xs) zero = refl
mapped (x ∷ xs) (suc s) = mapped xs s

pub naming_none : (n : ℕ) (p : ℕ → ℕ) (t l : List Slip) → Naming n p t l → Naming n p t []
naming_none n p t l k = record { apart = k.apart; apart_late = tt; given = k.given; given_late = λ a b x e. no' a b x e; out = λ a b x e. no' a b x e; meant = k.meant }
  where
    no' : {P : Type 0} (a b : ℕ) (x : Slip) → find a b [] ≡ Some x → P
    no' a b x e = let z : ◌≡◌ {A = ℕ} 0 1 = cc in absurd (omega arith)

abbrev pub clear_cut : Cut → Cut
clear_cut c = record { all = c.all; before = c.all; after = []; turned = λ t. false; new = λ a b. false; posted = c.posted; receiver = c.receiver }

pub or_else_none : {X : Type 0} (o : Option X) → or_else o None ≡ o
or_else_none None = refl
or_else_none (Some x) = refl

module _ (r : Rule) (c : Cut) (p : Phase) (cells : Cells) (out : ℕ) (so : Sound r c p cells out) where
  pub clear_sound : Between cells.n (λ s. (station_at cells s).colour) (λ s. (station_at cells s).running) cells.tray → Sound r (clear_cut c) Counting (cleared cells) out
  clear_sound k =
      record {
        shape = record { some' = so.shape.some'; few = so.shape.few; sheets = so.shape.sheets; recorded = so.shape.recorded; stations = length-map cells.stations cleared_station ∙ so.shape.stations };
        common =
            subst (λ v. Common cells.n r c.all c.posted c.receiver v (slips_of cells.tray) []) (sym view)
            (record { naming = naming_none cells.n _ _ _ so.common.naming; sent_is = so.common.sent_is; goes_is = so.common.goes_is; ds = so.common.ds; is_all = so.common.is_all; run = so.common.run });
        state =
            record {
              base = k.base;
              colouring = record { marked = λ s l. ap (λ t. t.turned) (mapped cells.stations s); coloured = λ s l. ap (λ t. t.colour) (mapped cells.stations s) ∙ k.coloured s l; slips = k.slips; old_late = λ a b x e. refl };
              split =
                  record {
                    x = cells_view cells;
                    dpre = so.common.ds;
                    dpost = [];
                    is_pre = so.common.is_all;
                    is_post = refl;
                    before = so.common.run;
                    rest = sym view;
                    who = tt;
                    made = tt;
                    sheets = λ s l. refl;
                    slips = λ a b. sym (or_else_none (find a b (slips_of cells.tray)));
                  };
              balance =
                  record {
                    frozen = ap (λ f. sum_z f cells.n) (fun_ext (λ s. ap (λ t. t.running) (mapped cells.stations s))) ∙ k.running ∙ ap pos (omega arith);
                    running = sum_z_none (λ s. pos 0) cells.n (λ j l. refl) ∙ ap pos (sym (count_none (λ a b. false) cells.tray (falses cells.tray)));
                    asked = rw (ap (λ t. t.gathered) (mapped cells.stations 0)) (sum_n_none _ cells.n (λ j l. ap (λ t. t.unreported) (mapped cells.stations j)));
                  };
              tree = λ s l g. let e = ap (λ t. t.gathered) (mapped cells.stations s) in let z : ◌≡◌ {A = ℕ} 0 1 = cc in absurd (omega arith);
              given = λ a b e. let z : ◌≡◌ {A = ℕ} 0 1 = cc in absurd (omega arith);
            };
      }
    where
      view : cells_view (cleared cells) ≡ cells_view cells
      view = same_view (cells_view (cleared cells)) (cells_view cells) refl (fun_ext (λ s. ap (λ t. t.posted) (mapped cells.stations s))) refl

      falses : (xs : List ColouredSlip) → AllByRecursion (λ (x : ColouredSlip). false ≡ false) xs
      falses [] = tt
      falses (x ∷ xs) = (refl, falses xs)

  pub open_sound : (s : ℕ) → s < cells.n → p ≡ Ready → Sound r (with_open c s) Counting (opened_cells cells s) out
  open_sound s lt ph = turn_sound r (clear_cut c) Counting (cleared cells) out (clear_sound (subst (λ q. ByPhase q (Between cells.n (λ s. (station_at cells s).colour) (λ s. (station_at cells s).running) cells.tray) (During r c cells out)) ph so.state)) refl s lt refl
