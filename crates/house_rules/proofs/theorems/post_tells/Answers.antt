use Rattle.house_rules.proofs.Statements.PostTells.{post_tells}
use Rattle.house_rules.proofs.theorems.post_tells.Goals as goal

pub returns : goal.returns
returns g c = post_tells g.M.Method.model g.met.M.Method.lawful
