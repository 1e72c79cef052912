use Rattle.std.proofs.Common.{sym, subst}
use Rattle.methods.specs.Tree.{Sound}
use Rattle.methods.specs.TreeLawful.{round_sound}
use Rattle.methods.proofs.tree.TokenTreeMethod.begin.Goals as goal

pub invariant_of-self : goal.invariant_of-self
invariant_of-self c =
    let s = subst Sound (sym c.deal.ensures) (round_sound c.args.n c.in_ok-w.w c.in_ok-w.ensures.some c.in_ok-w.ensures.small c.in_ok-w.ensures.few) in
    record { rooted = s.rooted }
