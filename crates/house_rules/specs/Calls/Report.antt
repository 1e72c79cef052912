-- report: a station tells of one late slip, and the counting method hears of an arrival.
use Rattle.std.specs.Prelude.{ℕ, ◌-◌, List, [], ◌∷◌, nat_lt}
use Rattle.common.specs.Questions.{Question, Code, ask, number}
use Rattle.methods.specs.Model.{Model, arrival_questions}
use Rattle.house_rules.specs.declared.phase.Phase.{Phase}
use Rattle.house_rules.specs.declared.station.Station.{Station}
use Rattle.house_rules.specs.State.House.{Cells, HouseState, station_at, is_counting}
use Rattle.house_rules.specs.State.Changes.{with_station, more_messages}

-- a station; a count is open; the root has gathered; the station has something to report
abbrev pub report_questions : Phase → Cells → (s : ℕ) → List (Question Code)
report_questions p cells s =
    ask (nat_lt s cells.n) (number 4)
    ∷ ask (is_counting p) (number 13)
    ∷ ask (station_at cells 0).gathered (number 18)
    ∷ ask (nat_lt 0 (station_at cells s).unreported) (number 19)
    ∷ []

abbrev pub reported_station : Station → Station
reported_station t = record { colour = t.colour; posted = t.posted; running = t.running; frozen = t.frozen; unreported = t.unreported - 1; turned = t.turned; gathered = t.gathered }

abbrev pub reported_cells : Cells → (s : ℕ) → Cells
reported_cells cells s = with_station cells s (reported_station (station_at cells s))

-- the method is asked too
abbrev pub arrived_questions : (m : Model) → HouseState m.State → (s : ℕ) → List (Question Code)
arrived_questions m x s = arrival_questions (m.rules.stations x.method) (m.rules.outstanding x.method) s

-- what the method sends is counted
abbrev pub after_report : (m : Model) → HouseState m.State → (s : ℕ) → HouseState m.State
after_report m x s =
    record { phase = x.phase; cells = more_messages (reported_cells x.cells s) (m.rules.arrived_sent x.method s); method = m.rules.arrived x.method s }
