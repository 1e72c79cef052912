use Rattle.std.proofs.Common.{refl, arith}
use Rattle.methods.specs.Yellow.{turned_left, turned_right}
use Rattle.methods.proofs.round.Round.+offer_swap_turned_yellow.Goals as goal

pub turned_yellow-returns-then-left-clause-turns : goal.turned_yellow-returns-then-left-clause-turns
turned_yellow-returns-then-left-clause-turns t c =
    let r = c.args.self.now in
    λ k l. turned_left k r.limit r.tokens.items c.args.i _ (omega arith) l c.offer_swap-left.ensures.offers c.if-left.true

pub turned_yellow-returns-clause-turns : goal.turned_yellow-returns-clause-turns
turned_yellow-returns-clause-turns t c =
    let r = c.args.self.now in
    let left = c.offer_swap-left.ensures in
    let right = c.offer_swap-right.ensures in
    λ k l. turned_right k r.limit r.tokens.items c.offer_swap-left.new.self.tokens.items c.args.i _ _ (omega arith) l left.offers refl c.if-left.false (rw left.same_limit at right.offers)
