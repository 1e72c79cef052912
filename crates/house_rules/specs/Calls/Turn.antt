-- turn: a station's part of the count.
use Rattle.std.specs.Prelude.{ℕ, true, not, List, [], ◌∷◌, pos, nat_lt}
use Rattle.common.specs.Questions.{Question, Code, ask, number}
use Rattle.house_rules.specs.declared.phase.Phase.{Phase}
use Rattle.house_rules.specs.declared.station.Station.{Station}
use Rattle.house_rules.specs.State.House.{Cells, station_at, sheet_at, is_counting}
use Rattle.house_rules.specs.State.Changes.{with_record, with_station}
use Rattle.house_rules.specs.State.Colours.{other}

-- a station; a count is open; the station has not turned
abbrev pub turn_questions : Phase → Cells → (s : ℕ) → List (Question Code)
turn_questions p cells s = ask (nat_lt s cells.n) (number 4) ∷ ask (is_counting p) (number 13) ∷ ask (not (station_at cells s).turned) (number 14) ∷ []

-- the running deficit is frozen and restarts at 0, the colour changes, the station is marked
abbrev pub turned_station : Station → Station
turned_station t = record { colour = other t.colour; posted = t.posted; running = pos 0; frozen = t.running; unreported = t.unreported; turned = true; gathered = t.gathered }

-- and its sheet is copied to the record
abbrev pub turns : Cells → (s : ℕ) → Cells
turns cells s = with_station (with_record cells s (sheet_at cells s)) s (turned_station (station_at cells s))
