use Rattle.house_rules.proofs.Statements.ScoresAreGains.{scores_are_gains}
use Rattle.house_rules.proofs.theorems.scores_are_gains.Goals as goal

pub returns : goal.returns
returns g c = scores_are_gains g.M.Method.model g.met.M.Method.lawful
