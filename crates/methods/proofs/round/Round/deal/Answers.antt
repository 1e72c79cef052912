use Rattle.std.proofs.Common.{◌≡◌, length, sum, ap, ◌∙◌, arith}
use Rattle.methods.specs.Dealing.{dealt_long, dealt_total}
use Rattle.methods.proofs.Written.{written_deal}
use Rattle.methods.proofs.round.Round.deal.Goals as goal

pub invariant_of-self : goal.invariant_of-self
invariant_of-self c =
    let n = c.args.n in
    let total = c.args.total in
    let e = written_deal c.resize.new.tokens c.as_mut_slice.result.now c.deal-self.new.tokens n total c.as_mut_slice.ensures.value c.resize.ensures c.deal-self.ensures.deals in
    record { small = omega (arith, ap length e, dealt_long n total); few = omega (arith, ap sum e, dealt_total n total (omega arith)) }

pub returns : goal.returns
returns c =
    let e = written_deal c.resize.new.tokens c.as_mut_slice.result.now c.deal-self.new.tokens c.args.n c.args.total c.as_mut_slice.ensures.value c.resize.ensures c.deal-self.ensures.deals in
    let stations : length c.as_mut_slice.result.now ≡ c.args.n = ap length c.as_mut_slice.ensures.value ∙ c.resize.ensures in
    cc
