use Rattle.house_rules.proofs.Statements.HouseIsItsPlainRun.{house_is_its_plain_run}
use Rattle.house_rules.proofs.theorems.house_is_its_plain_run.Goals as goal

pub returns : goal.returns
returns g c = house_is_its_plain_run g.M.Method.model g.met.M.Method.lawful
