use Rattle.house_rules.proofs.Statements.MethodIsToldTheTruth.{method_is_told_the_truth}
use Rattle.house_rules.proofs.theorems.method_is_told_the_truth.Goals as goal

pub returns : goal.returns
returns g c = method_is_told_the_truth g.M.Method.model
