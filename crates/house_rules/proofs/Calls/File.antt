-- file: where it is granted it keeps the invariant.
use Rattle.std.proofs.Common.{◌≡◌, ℕ, subst}
use Rattle.sections.specs.Rule.{Rule}
use Rattle.house_rules.specs.declared.phase.Phase.{Phase}
use Rattle.house_rules.specs.declared.phase.Phase.TheVariants.{Ready, Closed}
use Rattle.house_rules.specs.Theorem.Cut.{Cut}
use Rattle.house_rules.specs.State.House.{Cells, station_at}
use Rattle.house_rules.proofs.Invariant.Sound.{Between, During, ByPhase, Sound}

module _ (r : Rule) (c : Cut) (p : Phase) (cells : Cells) (out : ℕ) (so : Sound r c p cells out) where
  pub file_sound : p ≡ Closed → Sound r c Ready cells out
  file_sound ph = record { shape = so.shape; common = so.common; state = subst (λ q. ByPhase q (Between cells.n (λ s. (station_at cells s).colour) (λ s. (station_at cells s).running) cells.tray) (During r c cells out)) ph so.state }
