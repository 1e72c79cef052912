use Rattle.house_rules.proofs.Statements.WorkedHistory.{worked_history}
use Rattle.house_rules.proofs.theorems.worked_history.Goals as goal

pub returns : goal.returns
returns c = worked_history
