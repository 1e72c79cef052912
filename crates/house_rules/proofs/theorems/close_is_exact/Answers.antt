use Rattle.house_rules.proofs.Statements.CloseIsExact.{close_is_exact}
use Rattle.house_rules.proofs.theorems.close_is_exact.Goals as goal

pub returns : goal.returns
returns g c = close_is_exact g.M.Method.model g.met.M.Method.lawful
