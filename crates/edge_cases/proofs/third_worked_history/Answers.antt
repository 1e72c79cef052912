use Rattle.std.proofs.Common.{refl}
use Rattle.std.specs.Fmt.{digits}
use Rattle.methods.specs.Deal.{dealt}
use Rattle.methods.specs.Climb.{climb}
use Rattle.methods.specs.Swap.{turned_yellow}
use Rattle.methods.specs.Arrival.{arrival}
use Rattle.house_rules.specs.Calls.Gather.{sums}
use Rattle.common.specs.TextLines.{score_lines}
use Rattle.house_rules.specs.Calls.CountText.{sheet_lines, record_lines, slip_lines}
use Rattle.edge_cases.proofs.third_worked_history.Goals as goal

pub returns : goal.returns
unfolding digits dealt climb turned_yellow arrival sums sheet_lines record_lines slip_lines score_lines
returns c = record { made = refl; answered = refl; recorded = refl; late = refl; sheets = refl; running = refl; frozen = refl; under_way = refl; before = refl; after = refl; phase = refl }
