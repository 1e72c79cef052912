-- The state of a house as plain values.
use Rattle.std.specs.Prelude.{ℕ, Bool, true, false, List, [], ℤ, pos, slice_index_or}
use Rattle.house_rules.specs.declared.colour.Colour.TheVariants.{White}
use Rattle.house_rules.specs.declared.phase.Phase.{Phase}
use Rattle.house_rules.specs.declared.phase.Phase.TheVariants.{Ready, Counting, Closed}
use Rattle.house_rules.specs.declared.slip.ColouredSlip.{ColouredSlip}
use Rattle.house_rules.specs.declared.station.Station.{Station}

-- what the cells of a house hold
pub record Cells : Type 0 where
  pub n : ℕ  -- the stations are 0 to n - 1
  pub tray_cells : ℕ  -- room for slips under way
  pub late_cells : ℕ  -- room for late slips
  pub sheets : List (List ℤ)  -- the figures of each station's sheet
  pub recorded : List (List ℤ)  -- the record: a copy of each station's sheet, made at its turn
  pub stations : List Station
  pub tray : List ColouredSlip  -- the slips under way, in order of posting
  pub late : List ColouredSlip  -- the late slips of the count, in order of arrival
  pub messages : ℕ  -- control messages since the count was opened

-- a house: its phase, its cells and the state of its counting method
pub record HouseState (Q : Type 0) : Type 0 where
  pub phase : Phase
  pub cells : Cells
  pub method : Q

-- a station that has done nothing yet
abbrev pub fresh : Station
fresh = record { colour = White; posted = 0; running = pos 0; frozen = pos 0; unreported = 0; turned = false; gathered = false }

-- station s, and its sheet
abbrev pub station_at : Cells → (s : ℕ) → Station
station_at cells s = slice_index_or cells.stations s fresh

abbrev pub sheet_at : Cells → (s : ℕ) → List ℤ
sheet_at cells s = slice_index_or cells.sheets s []

abbrev pub is_ready : Phase → Bool
is_ready Ready = true
is_ready Counting = false
is_ready Closed = false

abbrev pub is_counting : Phase → Bool
is_counting Ready = false
is_counting Counting = true
is_counting Closed = false

abbrev pub is_closed : Phase → Bool
is_closed Ready = false
is_closed Counting = false
is_closed Closed = true
