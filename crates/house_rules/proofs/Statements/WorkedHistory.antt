-- WorkedHistory: computed by the definitions.
use Rattle.std.proofs.Common.{refl}
use Rattle.std.specs.Fmt.{digits}
use Rattle.methods.specs.Deal.{dealt}
use Rattle.methods.specs.Climb.{climb}
use Rattle.methods.specs.Swap.{turned_yellow}
use Rattle.methods.specs.Arrival.{arrival}
use Rattle.house_rules.specs.Calls.Gather.{sums}
use Rattle.common.specs.TextLines.{score_lines}
use Rattle.house_rules.specs.Calls.CountText.{sheet_lines, record_lines, slip_lines}
use Rattle.house_rules.specs.Theorem.WorkedHistory.{WorkedHistory}

pub worked_history : WorkedHistory
unfolding digits dealt climb turned_yellow arrival sums sheet_lines record_lines slip_lines score_lines
worked_history = record { made = refl; answered = refl; recorded = refl; late = refl; before = refl; after = refl; phase = refl; answered_second = refl; recorded_second = refl; late_second = refl; before_second = refl; after_second = refl; phase_second = refl }
