use Rattle.house_rules.proofs.Statements.TheTextSaysEverything.{the_text_says_everything}
use Rattle.house_rules.proofs.theorems.text_says_everything.Goals as goal

pub returns : goal.returns
returns c = the_text_says_everything
