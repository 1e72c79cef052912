-- take: a slip under way arrives at its receiver.
use Rattle.std.specs.Prelude.{ℕ, ◌+◌, Bool, false, cond, not, ◌&&◌, List, [], ◌∷◌, ◌++◌, length, ℤ, pos, ◌-ℤ◌, Some, None, Option, nat_lt}
use Rattle.sections.specs.Rule.{Rule, credited}
use Rattle.sections.specs.Codes.{section_code}
use Rattle.common.specs.Questions.{Question, Code, ask, number, told_as}
use Rattle.house_rules.specs.declared.phase.Phase.{Phase}
use Rattle.house_rules.specs.declared.slip.ColouredSlip.{ColouredSlip}
use Rattle.house_rules.specs.declared.station.Station.{Station}
use Rattle.house_rules.specs.State.House.{Cells, station_at, sheet_at, is_counting}
use Rattle.house_rules.specs.State.Changes.{with_sheet, with_station, with_tray, with_late}
use Rattle.house_rules.specs.State.Names.{find_coloured, without_coloured}
use Rattle.house_rules.specs.State.Colours.{differ}
use Rattle.house_rules.specs.Calls.Questions.{is_deficit}
use Rattle.house_rules.specs.Calls.Turn.{turns}

-- the slip's colour is not its receiver's
abbrev pub other_colour : Cells → ColouredSlip → Bool
other_colour cells x = differ x.colour (station_at cells x.slip.receiver).colour

-- while a count is open: the slip is late if its receiver has turned, else the receiver turns first
abbrev pub is_late : Phase → Cells → ColouredSlip → Bool
is_late p cells x = is_counting p && ((station_at cells x.slip.receiver).turned && other_colour cells x)

abbrev pub turns_receiver : Phase → Cells → ColouredSlip → Bool
turns_receiver p cells x = is_counting p && (not (station_at cells x.slip.receiver).turned && other_colour cells x)

-- the receiver's deficit afterwards, where the slip is not late; a turn restarts it at 0
abbrev pub running_after : Phase → Cells → ColouredSlip → ℤ
running_after p cells x = cond (turns_receiver p cells x) (pos 0) (station_at cells x.slip.receiver).running -ℤ pos 1

-- a slip under way; if late a free late cell, else the deficit; the section
abbrev pub take_questions : Rule → Phase → Cells → Option ColouredSlip → List (Question Code)
take_questions rule p cells None = ask false (number 10) ∷ []
take_questions rule p cells (Some x) =
    cond (is_late p cells x) (ask (nat_lt (length cells.late) cells.late_cells) (number 11)) (ask (is_deficit (running_after p cells x)) (number 8))
    ∷ told_as section_code (rule.credit (sheet_at cells x.slip.receiver) x.slip.line x.slip.amount)

-- the running deficit falls by one
abbrev pub took_station : Station → Station
took_station t = record { colour = t.colour; posted = t.posted; running = t.running -ℤ pos 1; frozen = t.frozen; unreported = t.unreported; turned = t.turned; gathered = t.gathered }

-- for a late slip the deficit stays, and there is one more to report
abbrev pub late_station : Station → Station
late_station t = record { colour = t.colour; posted = t.posted; running = t.running; frozen = t.frozen; unreported = t.unreported + 1; turned = t.turned; gathered = t.gathered }

-- the slip leaves the tray and its receiver is credited
abbrev pub lands : Cells → ColouredSlip → Station → Cells
lands cells x t =
    with_tray (with_station (with_sheet cells x.slip.receiver (credited (sheet_at cells x.slip.receiver) x.slip.line x.slip.amount)) x.slip.receiver t)
    (without_coloured x.slip.sender x.slip.number cells.tray)

abbrev pub arrives : Cells → ColouredSlip → Cells
arrives cells x = lands cells x (took_station (station_at cells x.slip.receiver))

-- a late slip joins the late list
abbrev pub arrives_late : Cells → ColouredSlip → Cells
arrives_late cells x = with_late (lands cells x (late_station (station_at cells x.slip.receiver))) (cells.late ++ (x ∷ []))

abbrev pub arrived : Phase → Cells → ColouredSlip → Cells
arrived p cells x = cond (is_late p cells x) (arrives_late cells x) (arrives (cond (turns_receiver p cells x) (turns cells x.slip.receiver) cells) x)

abbrev pub taken_cells : Phase → Cells → Option ColouredSlip → Cells
taken_cells p cells None = cells
taken_cells p cells (Some x) = arrived p cells x

-- the slip of that name among those under way
abbrev pub under_way : Cells → (sender number : ℕ) → Option ColouredSlip
under_way cells a b = find_coloured a b cells.tray
