use Rattle.house_rules.proofs.Statements.MethodsAgree.{methods_agree}
use Rattle.house_rules.proofs.theorems.methods_agree.Goals as goal

pub returns : goal.returns
returns g c = methods_agree g.M.Method.model g.K.Method.model g.met.M.Method.lawful g.met.K.Method.lawful
