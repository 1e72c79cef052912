use Rattle.house_rules.proofs.Statements.MessagesAreFew.{messages_are_few}
use Rattle.house_rules.proofs.theorems.messages_are_few.Goals as goal

pub returns : goal.returns
returns g c = messages_are_few g.M.Method.model g.met.M.Method.lawful
