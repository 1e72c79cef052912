-- Houses of three stations over the box, given directly: most of them come about by no short history, some by none.
use Rattle.std.specs.Prelude.{ℕ, Bool, true, false, List, ℤ, pos, slice_set}
use Rattle.sections.specs.Rule.{blank_sheet}
use Rattle.methods.specs.Box.{BoxState, box_rules}
use Rattle.house_rules.specs.declared.colour.Colour.{Colour}
use Rattle.house_rules.specs.declared.colour.Colour.TheVariants.{White, Red}
use Rattle.house_rules.specs.declared.phase.Phase.TheVariants.{Counting, Closed}
use Rattle.house_rules.specs.declared.slip.ColouredSlip.{ColouredSlip}
use Rattle.house_rules.specs.declared.station.Station.{Station}
use Rattle.house_rules.specs.State.House.{HouseState}
use Rattle.house_rules.specs.State.Changes.{with_sheet, with_station, with_tray, with_late, with_messages, with_cells, in_phase}
use Rattle.house_rules.specs.Calls.Make.{Handed, made_house}

abbrev pub BoxHouse : Type 0
BoxHouse = HouseState BoxState

-- n stations, with as many sheets, as many sheets in the record, two cells for the tray and three for the late list
abbrev pub handed_for : (n : ℕ) → Handed
handed_for n = record { n = n; sheets = n; recorded = n; tray_cells = 2; late_cells = 3 }

-- a house in which nothing has been called: white stations, blank sheets, ready
abbrev pub house_of : (n : ℕ) → BoxHouse
house_of n = made_house (handed_for n) box_rules.fresh

abbrev pub three : BoxHouse
three = house_of 3

-- the same house in another phase
abbrev pub counting : BoxHouse → BoxHouse
counting x = in_phase x Counting

abbrev pub closed : BoxHouse → BoxHouse
closed x = in_phase x Closed

-- with another station s
abbrev pub given_station : (s : ℕ) → Station → BoxHouse → BoxHouse
given_station s t x = with_cells x (with_station x.cells s t)

-- with one figure on the sheet of station s
abbrev pub given_figure : (s line : ℕ) → ℤ → BoxHouse → BoxHouse
given_figure s line figure x = with_cells x (with_sheet x.cells s (slice_set blank_sheet line figure))

-- with other slips under way, or late
abbrev pub given_tray : List ColouredSlip → BoxHouse → BoxHouse
given_tray slips x = with_cells x (with_tray x.cells slips)

abbrev pub given_late : List ColouredSlip → BoxHouse → BoxHouse
given_late slips x = with_cells x (with_late x.cells slips)

-- with so many control messages since the open
abbrev pub given_messages : ℕ → BoxHouse → BoxHouse
given_messages k x = with_cells x (with_messages x.cells k)

-- with a method that counts so many stations and waits for so many arrivals
abbrev pub box : (stations outstanding : ℕ) → BoxState
box stations outstanding = record { stations = stations; outstanding = outstanding }

abbrev pub given_method : BoxState → BoxHouse → BoxHouse
given_method q x = record { phase = x.phase; cells = x.cells; method = q }

-- a white station with so many posts, or with that running deficit
abbrev pub with_posts : ℕ → Station
with_posts k = record { colour = White; posted = k; running = pos 0; frozen = pos 0; unreported = 0; turned = false; gathered = false }

abbrev pub with_deficit : ℤ → Station
with_deficit z = record { colour = White; posted = 0; running = z; frozen = pos 0; unreported = 0; turned = false; gathered = false }

-- a station that has turned red in the count, with that running deficit
abbrev pub red_with_deficit : ℤ → Station
red_with_deficit z = record { colour = Red; posted = 0; running = z; frozen = pos 0; unreported = 0; turned = true; gathered = false }

abbrev pub red : Station
red = red_with_deficit (pos 0)

-- one that has turned with that deficit, gathered or not
abbrev pub frozen_at : ℤ → (gathered : Bool) → Station
frozen_at z gathered = record { colour = Red; posted = 0; running = pos 0; frozen = z; unreported = 0; turned = true; gathered = gathered }

-- one that has gathered, and has so many late slips to report
abbrev pub reporting : ℕ → Station
reporting k = record { colour = Red; posted = 0; running = pos 0; frozen = pos 0; unreported = k; turned = true; gathered = true }

abbrev pub red_and_gathered : Station
red_and_gathered = reporting 0

-- marked as gathered, but not as turned
abbrev pub white_but_gathered : Station
white_but_gathered = record { colour = White; posted = 0; running = pos 0; frozen = pos 0; unreported = 0; turned = false; gathered = true }

-- a slip to station 1
abbrev pub slip : (sender number line : ℕ) → ℤ → Colour → ColouredSlip
slip sender number line amount colour = record { slip = record { sender = sender; number = number; receiver = 1; line = line; amount = amount }; colour = colour }

-- 2 half points of line 0 from station 0, on a white slip and on a red one
abbrev pub white_slip : (number : ℕ) → ColouredSlip
white_slip number = slip 0 number 0 (pos 2) White

abbrev pub red_slip : (number : ℕ) → ColouredSlip
red_slip number = slip 0 number 0 (pos 2) Red

-- a white station with both
abbrev pub posts_and_deficit : ℕ → ℤ → Station
posts_and_deficit k z = record { colour = White; posted = k; running = z; frozen = pos 0; unreported = 0; turned = false; gathered = false }
