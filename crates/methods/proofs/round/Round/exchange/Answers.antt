use Rattle.std.proofs.Common.{◌≢◌, sum, ap, arith}
use Rattle.methods.specs.Yellow.{exchange_total}
use Rattle.methods.proofs.Written.{written_exchange}
use Rattle.methods.proofs.round.Round.exchange.Goals as goal

pub invariant_of-self-clause-few : goal.invariant_of-self-clause-few
invariant_of-self-clause-few c =
    let v = c.args.self.now.tokens in
    let ne : c.args.i ≢ c.args.child = omega arith in
    let e = written_exchange v c.deref_mut.result.now c.swap.new.self c.args.i c.args.child c.deref_mut.ensures.value c.swap.ensures.after c.swap.ensures.len (omega arith) (omega arith) in
    omega (arith, ap sum e, exchange_total v.items c.args.i c.args.child (omega arith) (omega arith) ne)
