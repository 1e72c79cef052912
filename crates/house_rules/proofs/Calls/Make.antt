-- make: a made house has the invariant.
use Rattle.std.proofs.Common.{◌≡◌, ℕ, ◌≤◌, [], Some, sym, refl, ap, ◌∙◌, arith}
use mathlib.Core.Path.{fun_ext}
use Rattle.std.proofs.lemmas.List.{length-replicate}
use Rattle.sections.specs.Rule.{Rule, blank_sheet}
use Rattle.house_rules.specs.declared.colour.Colour.TheVariants.{White}
use Rattle.house_rules.specs.declared.phase.Phase.TheVariants.{Ready}
use Rattle.house_rules.specs.declared.slip.Slip.{Slip}
use Rattle.house_rules.specs.Theorem.Cut.{no_cut}
use Rattle.house_rules.specs.Calls.Make.{Handed, made_cells}
use Rattle.house_rules.specs.State.Names.{find}
use Rattle.house_rules.specs.State.House.{fresh}
use Rattle.house_rules.proofs.Invariant.Cells.{cells_view}
use Rattle.house_rules.proofs.Invariant.PlainSteps.{same_view}
use Rattle.house_rules.proofs.Invariant.Sound.{start_view, Sound}
use Rattle.house_rules.proofs.Lists.Sums.{get_or-same}
use Rattle.house_rules.proofs.Lists.Totals.{sum_z_none}

pub made_sound : (r : Rule) (handed : Handed) (out : ℕ) → 1 ≤ handed.n → handed.n ≤ 64 → Sound r no_cut Ready (made_cells handed) out
made_sound r handed out some' few =
    record {
      shape = record { some' = some'; few = few; sheets = length-replicate handed.n blank_sheet; recorded = length-replicate handed.n blank_sheet; stations = length-replicate handed.n fresh };
      common =
          record {
            naming = record { apart = tt; apart_late = tt; given = λ a b x e. none' a b x e; given_late = λ a b x e. none' a b x e; out = λ a b x e. none' a b x e; meant = λ a b x e. none' a b x e };
            sent_is = λ s. ap (λ k. k.posted) (sym (get_or-same handed.n fresh s));
            goes_is = λ a b x e. none' a b x e;
            ds = [];
            is_all = refl;
            run = same_view (start_view handed.n) (cells_view (made_cells handed)) refl (fun_ext (λ s. get_or-same handed.n 0 s ∙ ap (λ k. k.posted) (sym (get_or-same handed.n fresh s)))) refl;
          };
      state =
          record {
            base = White;
            coloured = λ s l. ap (λ k. k.colour) (get_or-same handed.n fresh s);
            slips = tt;
            running = sum_z_none _ handed.n (λ s l. ap (λ k. k.running) (get_or-same handed.n fresh s));
          };
    }
  where
    none' : {P : Type 0} (a b : ℕ) (x : Slip) → find a b [] ≡ Some x → P
    none' a b x e = let z : ◌≡◌ {A = ℕ} 0 1 = cc in absurd (omega arith)
