-- open: a count begins.
use Rattle.std.specs.Prelude.{ℕ, false, List, [], ◌∷◌, map, nat_lt}
use Rattle.common.specs.Questions.{Question, Code, ask, number}
use Rattle.house_rules.specs.declared.phase.Phase.{Phase}
use Rattle.house_rules.specs.declared.station.Station.{Station}
use Rattle.house_rules.specs.State.House.{Cells, is_ready}
use Rattle.house_rules.specs.State.Changes.{with_stations, with_late, with_messages}
use Rattle.house_rules.specs.Calls.Turn.{turns}

-- a station; the house is ready
abbrev pub open_questions : Phase → Cells → (s : ℕ) → List (Question Code)
open_questions p cells s = ask (nat_lt s cells.n) (number 4) ∷ ask (is_ready p) (number 12) ∷ []

-- marks and unreported numbers, late list and messages are cleared
abbrev pub cleared_station : Station → Station
cleared_station t = record { colour = t.colour; posted = t.posted; running = t.running; frozen = t.frozen; unreported = 0; turned = false; gathered = false }

abbrev pub cleared : Cells → Cells
cleared cells = with_messages (with_late (with_stations cells (map cleared_station cells.stations)) []) 0

-- then the station turns
abbrev pub opened_cells : Cells → (s : ℕ) → Cells
opened_cells cells s = turns (cleared cells) s
