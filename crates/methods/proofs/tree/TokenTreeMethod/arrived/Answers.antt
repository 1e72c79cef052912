use Rattle.std.proofs.Common.{ap, subst, arith}
use Rattle.methods.specs.Held.{held}
use Rattle.methods.specs.Tree.{Sound}
use Rattle.methods.specs.TreeLawful.{arrival_sound}
use Rattle.methods.proofs.tree.TokenTreeMethod.arrived.Goals as goal

pub invariant_of-self : goal.invariant_of-self
invariant_of-self c =
    let t = c.args.self.now in
    let sound : Sound (held t.round) = record { small = omega arith; few = omega arith; rooted = t.rooted } in
    let s = subst Sound (ap (λ o. o.after) c.arrive.ensures) (arrival_sound (held t.round) c.args.station sound (omega (arith, c.in_ok-ask_arrival.ensures.1.0)) (omega (arith, c.in_ok-ask_arrival.ensures.1.1))) in
    record { rooted = s.rooted }
