use Rattle.std.proofs.Common.{ltb, ◌∙◌, arith}
use Rattle.std.proofs.lemmas.Bool.{cond-false, cond-true, le-ltb, lt-ltb}
use Rattle.methods.specs.Tokens.{tokens_at}
use Rattle.methods.specs.Arrival.{arrival}
use Rattle.methods.proofs.round.Round.arrive.Goals as goal

pub returns-then-tokens_of-gt0 : goal.returns-then-tokens_of-gt0
unfolding arrival
returns-then-tokens_of-gt0 c =
    let some = tokens_at c.args.self.now.tokens.items c.args.i in
    cond-true (ltb 0 some) _ _ (lt-ltb 0 some (omega arith)) ∙ c.pay_own.ensures

pub returns-else-tokens_of-gt0 : goal.returns-else-tokens_of-gt0
unfolding arrival
returns-else-tokens_of-gt0 c =
    let some = tokens_at c.args.self.now.tokens.items c.args.i in
    cond-false (ltb 0 some) _ _ (le-ltb 0 some (omega arith)) ∙ c.pay_by_split.ensures
