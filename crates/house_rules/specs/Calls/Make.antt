-- make: what it asks, and the house that it gives.
use Rattle.common.specs.Limits.{most_stations, most_cells}
use Rattle.common.specs.Ranges.{within}
use Rattle.std.specs.Prelude.{ℕ, ◌&&◌, List, [], ◌∷◌, replicate, ◌==◌}
use Rattle.sections.specs.Rule.{blank_sheet}
use Rattle.common.specs.Questions.{Question, Code, ask, number}
use Rattle.house_rules.specs.declared.phase.Phase.TheVariants.{Ready}
use Rattle.house_rules.specs.State.House.{Cells, HouseState, fresh}

-- what is handed to make beside the method: the number of stations, and how long sheets, record, tray and late list are
pub record Handed : Type 0 where
  pub n : ℕ
  pub sheets : ℕ
  pub recorded : ℕ
  pub tray_cells : ℕ
  pub late_cells : ℕ

-- stations 1 to 64; sheets and record each n long; tray and late list 1 to 4,096 cells each; nothing outstanding
abbrev pub make_questions : Handed → (outstanding : ℕ) → List (Question Code)
make_questions handed outstanding =
    ask (within 1 most_stations handed.n) (number 1)
    ∷ ask (handed.sheets == handed.n && handed.recorded == handed.n) (number 2)
    ∷ ask (within 1 most_cells handed.tray_cells && within 1 most_cells handed.late_cells) (number 3)
    ∷ ask (outstanding == 0) (number 24)
    ∷ []

-- sheets and record blank, stations fresh, tray and late list empty
abbrev pub made_cells : Handed → Cells
made_cells handed =
    record { n = handed.n; tray_cells = handed.tray_cells; late_cells = handed.late_cells; sheets = replicate handed.n blank_sheet; recorded = replicate handed.n blank_sheet; stations = replicate handed.n fresh; tray = []; late = []; messages = 0 }

-- the house is ready; its method is as it was handed in, and may have served before
abbrev pub made_house : {Q : Type 0} → Handed → Q → HouseState Q
made_house handed q = record { phase = Ready; cells = made_cells handed; method = q }
