-- gather: frozen deficits are summed up the tree of stations; at the root the counting method begins.
use Rattle.std.specs.Prelude.{ℕ, zero, suc, ◌+◌, ◌*◌, Bool, true, cond, not, ◌&&◌, ◌||◌, List, [], ◌∷◌, length, ℤ, pos, ◌+ℤ◌, ◌==◌, nat_le, nat_lt, slice_index_or, unsigned_abs}
use Rattle.common.specs.Questions.{Question, Code, ask, number}
use Rattle.methods.specs.Model.{Model, begin_questions}
use Rattle.house_rules.specs.declared.phase.Phase.{Phase}
use Rattle.house_rules.specs.declared.station.Station.{Station}
use Rattle.house_rules.specs.State.House.{Cells, HouseState, fresh, station_at, is_counting}
use Rattle.house_rules.specs.State.Changes.{with_station, more_messages, with_cells}

-- station i has gathered, or there is none
abbrev pub gathered_below : Cells → (i : ℕ) → Bool
gathered_below cells i = nat_le cells.n i || (station_at cells i).gathered

-- a station; a count is open; it has turned; it has not gathered; its children 2s + 1 and 2s + 2 have
abbrev pub gather_questions : Phase → Cells → (s : ℕ) → List (Question Code)
gather_questions p cells s =
    ask (nat_lt s cells.n) (number 4)
    ∷ ask (is_counting p) (number 13)
    ∷ ask (station_at cells s).turned (number 15)
    ∷ ask (not (station_at cells s).gathered) (number 16)
    ∷ ask (gathered_below cells (2 * s + 1) && gathered_below cells (2 * s + 2)) (number 17)
    ∷ []

-- the frozen deficits of station i and of all below it, so many levels deep
unfoldable pub sums : (levels : ℕ) → List Station → (i : ℕ) → ℤ
sums zero ts i = pos 0
sums (suc k) ts i = cond (nat_lt i (length ts)) ((slice_index_or ts i fresh).frozen +ℤ (sums k ts (2 * i + 1) +ℤ sums k ts (2 * i + 2))) (pos 0)

-- a house of at most 64 stations is at most seven levels deep
abbrev pub sum_at : Cells → (s : ℕ) → ℤ
sum_at cells s = sums 7 cells.stations s

abbrev pub gathered_station : Station → Station
gathered_station t = record { colour = t.colour; posted = t.posted; running = t.running; frozen = t.frozen; unreported = t.unreported; turned = t.turned; gathered = true }

abbrev pub gathered_cells : Cells → (s : ℕ) → Cells
gathered_cells cells s = with_station cells s (gathered_station (station_at cells s))

-- at the root the method is asked too
abbrev pub root_questions : (m : Model) → HouseState m.State → (s : ℕ) → List (Question Code)
root_questions m x s = cond (s == 0) (begin_questions (m.rules.outstanding x.method) x.cells.n (sum_at x.cells s)) []

-- it begins with all stations and the sum, and what it sends is counted
abbrev pub root_gathers : (m : Model) → HouseState m.State → (s : ℕ) → HouseState m.State
root_gathers m x s =
    record {
      phase = x.phase;
      cells = more_messages (gathered_cells x.cells s) (m.rules.begin_sent x.method x.cells.n (unsigned_abs (sum_at x.cells s)));
      method = m.rules.begun x.method x.cells.n (unsigned_abs (sum_at x.cells s));
    }

abbrev pub after_gather : (m : Model) → HouseState m.State → (s : ℕ) → HouseState m.State
after_gather m x s = cond (s == 0) (root_gathers m x s) (with_cells x (gathered_cells x.cells s))
