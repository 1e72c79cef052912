use Rattle.house_rules.proofs.Statements.CountsStay.{counts_stay}
use Rattle.house_rules.proofs.theorems.counts_stay.Goals as goal

pub returns : goal.returns
returns g c = counts_stay g.M.Method.model
