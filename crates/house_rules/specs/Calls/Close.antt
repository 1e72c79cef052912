-- close: the count is complete.
use Rattle.std.specs.Prelude.{ℕ, List, [], ◌∷◌, ◌==◌}
use Rattle.common.specs.Questions.{Question, Code, ask, number}
use Rattle.house_rules.specs.declared.phase.Phase.{Phase}
use Rattle.house_rules.specs.State.House.{Cells, station_at, is_counting}

-- a count is open; the root has gathered; the method says that nothing is outstanding
abbrev pub close_questions : Phase → Cells → (outstanding : ℕ) → List (Question Code)
close_questions p cells outstanding =
    ask (is_counting p) (number 13)
    ∷ ask (station_at cells 0).gathered (number 18)
    ∷ ask (outstanding == 0) (number 20)
    ∷ []
