-- post: an amount leaves a station's sheet, and a slip is under way.
use Rattle.std.specs.Prelude.{ℕ, ◌+◌, ◌&&◌, List, [], ◌∷◌, ◌++◌, length, ℤ, pos, ◌+ℤ◌, nat_lt}
use Rattle.common.specs.Limits.{line_count, most_posts}
use Rattle.sections.specs.Rule.{Rule, debited}
use Rattle.sections.specs.Codes.{section_code}
use Rattle.common.specs.Questions.{Question, Code, ask, number, told_as}
use Rattle.house_rules.specs.declared.slip.Slip.{Slip}
use Rattle.house_rules.specs.declared.station.Station.{Station}
use Rattle.house_rules.specs.State.House.{Cells, station_at, sheet_at}
use Rattle.house_rules.specs.State.Changes.{with_sheet, with_station, with_tray}
use Rattle.house_rules.specs.Calls.Questions.{is_deficit}

-- both stations; the line; fewer than 1,000,000 posts; the deficit afterwards; a free tray cell; the section
abbrev pub post_questions : Rule → Cells → (s to line : ℕ) (amount : ℤ) → List (Question Code)
post_questions rule cells s to line amount =
    ask (nat_lt s cells.n && nat_lt to cells.n) (number 4)
    ∷ ask (nat_lt line line_count) (number 5)
    ∷ ask (nat_lt (station_at cells s).posted most_posts) (number 7)
    ∷ ask (is_deficit ((station_at cells s).running +ℤ pos 1)) (number 8)
    ∷ ask (nat_lt (length cells.tray) cells.tray_cells) (number 9)
    ∷ told_as section_code (rule.debit (sheet_at cells s) line amount)

-- posted number and running deficit rise by one
abbrev pub posted_station : Station → Station
posted_station t = record { colour = t.colour; posted = t.posted + 1; running = t.running +ℤ pos 1; frozen = t.frozen; unreported = t.unreported; turned = t.turned; gathered = t.gathered }

-- the slip has its sender's new posted number
abbrev pub posted_slip : Cells → (s to line : ℕ) (amount : ℤ) → Slip
posted_slip cells s to line amount = record { sender = s; number = (station_at cells s).posted + 1; receiver = to; line = line; amount = amount }

-- and its sender's colour
abbrev pub posted_cells : Cells → (s to line : ℕ) (amount : ℤ) → Cells
posted_cells cells s to line amount =
    with_tray (with_station (with_sheet cells s (debited (sheet_at cells s) line amount)) s (posted_station (station_at cells s)))
    (cells.tray ++ (record { slip = posted_slip cells s to line amount; colour = (station_at cells s).colour } ∷ []))
