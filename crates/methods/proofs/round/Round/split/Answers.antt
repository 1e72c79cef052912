use Rattle.std.proofs.Common.{◌≢◌, sum, ap, arith}
use Rattle.methods.specs.Arriving.{split_total}
use Rattle.methods.proofs.Written.{written_split}
use Rattle.methods.proofs.round.Round.split.Goals as goal

pub invariant_of-self-clause-few : goal.invariant_of-self-clause-few
invariant_of-self-clause-few c =
    let v = c.args.self.now.tokens in
    let ne : c.args.giver ≢ c.args.asker = omega arith in
    let e = written_split v c.as_mut_slice-tokens.result.now c.args.giver c.args.asker c.shares-asked.result c.as_mut_slice-tokens.ensures.value c.shares-asked.ensures in
    omega (arith, ap sum e, split_total v.items c.args.giver c.args.asker (omega arith) (omega arith) ne (omega arith))
