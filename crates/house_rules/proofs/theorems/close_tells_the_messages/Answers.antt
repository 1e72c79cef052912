use Rattle.house_rules.proofs.Statements.CloseTellsTheMessages.{close_tells_the_messages}
use Rattle.house_rules.proofs.theorems.close_tells_the_messages.Goals as goal

pub returns : goal.returns
returns g c = close_tells_the_messages g.M.Method.model
