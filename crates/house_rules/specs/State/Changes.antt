-- The cells of a house with one part changed.
use Rattle.std.specs.Prelude.{ℕ, ◌+◌, List, ℤ, slice_set}
use Rattle.house_rules.specs.declared.phase.Phase.{Phase}
use Rattle.house_rules.specs.declared.slip.ColouredSlip.{ColouredSlip}
use Rattle.house_rules.specs.declared.station.Station.{Station}
use Rattle.house_rules.specs.State.House.{Cells, HouseState}

abbrev pub with_sheet : Cells → (s : ℕ) → List ℤ → Cells
with_sheet cells s f = record { n = cells.n; tray_cells = cells.tray_cells; late_cells = cells.late_cells; sheets = slice_set cells.sheets s f; recorded = cells.recorded; stations = cells.stations; tray = cells.tray; late = cells.late; messages = cells.messages }

abbrev pub with_record : Cells → (s : ℕ) → List ℤ → Cells
with_record cells s f = record { n = cells.n; tray_cells = cells.tray_cells; late_cells = cells.late_cells; sheets = cells.sheets; recorded = slice_set cells.recorded s f; stations = cells.stations; tray = cells.tray; late = cells.late; messages = cells.messages }

abbrev pub with_stations : Cells → List Station → Cells
with_stations cells ts = record { n = cells.n; tray_cells = cells.tray_cells; late_cells = cells.late_cells; sheets = cells.sheets; recorded = cells.recorded; stations = ts; tray = cells.tray; late = cells.late; messages = cells.messages }

abbrev pub with_station : Cells → (s : ℕ) → Station → Cells
with_station cells s t = with_stations cells (slice_set cells.stations s t)

abbrev pub with_tray : Cells → List ColouredSlip → Cells
with_tray cells xs = record { n = cells.n; tray_cells = cells.tray_cells; late_cells = cells.late_cells; sheets = cells.sheets; recorded = cells.recorded; stations = cells.stations; tray = xs; late = cells.late; messages = cells.messages }

abbrev pub with_late : Cells → List ColouredSlip → Cells
with_late cells xs = record { n = cells.n; tray_cells = cells.tray_cells; late_cells = cells.late_cells; sheets = cells.sheets; recorded = cells.recorded; stations = cells.stations; tray = cells.tray; late = xs; messages = cells.messages }

abbrev pub with_messages : Cells → ℕ → Cells
with_messages cells k = record { n = cells.n; tray_cells = cells.tray_cells; late_cells = cells.late_cells; sheets = cells.sheets; recorded = cells.recorded; stations = cells.stations; tray = cells.tray; late = cells.late; messages = k }

-- so many control messages more
abbrev pub more_messages : Cells → ℕ → Cells
more_messages cells k = with_messages cells (cells.messages + k)

-- a house with other cells, and in another phase
abbrev pub with_cells : {Q : Type 0} → HouseState Q → Cells → HouseState Q
with_cells x cells = record { phase = x.phase; cells = cells; method = x.method }

abbrev pub in_phase : {Q : Type 0} → HouseState Q → Phase → HouseState Q
in_phase x p = record { phase = p; cells = x.cells; method = x.method }
