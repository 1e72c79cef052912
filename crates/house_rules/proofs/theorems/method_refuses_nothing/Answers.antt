use Rattle.house_rules.proofs.Statements.MethodRefusesNothing.{method_refuses_nothing}
use Rattle.house_rules.proofs.theorems.method_refuses_nothing.Goals as goal

pub returns : goal.returns
returns g c = method_refuses_nothing g.M.Method.model g.met.M.Method.lawful
