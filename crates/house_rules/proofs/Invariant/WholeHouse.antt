-- The invariant of a whole house: that of its cells, room in tray and late list, and its method in step with the count.
use Rattle.std.proofs.Common.{◌≡◌, ℕ, suc, ◌<◌, ◌≤◌, Bool, true, false, cond, ◌&&◌, List, [], ◌∷◌, length, get_or, set, sym, ap, ◌∙◌, arith}
use Rattle.sections.specs.Rule.{Rule}
use Rattle.methods.specs.Model.{Model}
use Rattle.house_rules.specs.declared.phase.Phase.{Phase}
use Rattle.house_rules.specs.declared.slip.ColouredSlip.{ColouredSlip}
use Rattle.house_rules.specs.declared.station.Station.{Station}
use Rattle.house_rules.specs.Theorem.Cut.{Cut}
use Rattle.house_rules.specs.State.Names.{named, without_coloured}
use Rattle.house_rules.specs.State.House.{Cells, HouseState, fresh, station_at, is_counting}
use Rattle.house_rules.proofs.Invariant.Cells.{field_kept}
use Rattle.house_rules.proofs.Invariant.Sound.{Sound}

-- tray and late list are within their cells
pub record Room (cells : Cells) : Type 0 where
  pub tray_cells_lem : cells.tray_cells ≤ 4096
  pub late_cells_lem : cells.late_cells ≤ 4096
  pub tray : length cells.tray ≤ cells.tray_cells
  pub late : length cells.late ≤ cells.late_cells

-- the method has begun for the open count
abbrev pub begun? : Phase → Cells → Bool
begun? p cells = is_counting p && (station_at cells 0).gathered

-- the method is in a state of its kind; it is idle unless it has begun, and then it counts the stations of the house
pub record Served (m : Model) (p : Phase) (cells : Cells) (q : m.State) : Type 0 where
  pub valid : m.Valid q
  pub idle : begun? p cells ≡ false → m.rules.outstanding q ≡ 0
  pub counted : begun? p cells ≡ true → m.rules.stations q ≡ cells.n

pub record Holds (m : Model) (rule : Rule) (c : Cut) (x : HouseState m.State) : Type 0 where
  pub sound : Sound rule c x.phase x.cells (m.rules.outstanding x.method)
  pub room : Room x.cells
  pub served : Served m x.phase x.cells x.method

-- the method serves on where its begin is not concerned
pub served_on : (m : Model) (p p' : Phase) (h h' : Cells) (q : m.State) → begun? p' h' ≡ begun? p h → h'.n ≡ h.n → Served m p h q → Served m p' h' q
served_on m p p' h h' q e n s = record { valid = s.valid; idle = λ i. s.idle (sym e ∙ i); counted = λ i. s.counted (sym e ∙ i) ∙ sym n }

pub length-less : (a b : ℕ) (xs : List ColouredSlip) → length (without_coloured a b xs) ≤ length xs
length-less a b [] = omega arith
length-less a b (x ∷ xs) = let ih = length-less a b xs in go (named a b x.slip) ih
  where
    go : (t : Bool) → length (without_coloured a b xs) ≤ length xs → length (cond t xs (x ∷ without_coloured a b xs)) ≤ suc (length xs)
    go true ih = omega arith
    go false ih = omega arith

-- the mark of the root stays where one station changes and keeps its own
pub root_kept : (cells : Cells) (s : ℕ) (st : Station) → s < length cells.stations → st.gathered ≡ (station_at cells s).gathered → (get_or (set cells.stations s st) 0 fresh).gathered ≡ (station_at cells 0).gathered
root_kept cells s st l e = ap (λ f. f 0) (field_kept (λ t. t.gathered) cells.stations s st l e)
