use Rattle.house_rules.proofs.Statements.CountsAreConsistent.{counts_are_consistent}
use Rattle.house_rules.proofs.theorems.counts_are_consistent.Goals as goal

pub returns : goal.returns
returns g c = counts_are_consistent g.M.Method.model g.met.M.Method.lawful
