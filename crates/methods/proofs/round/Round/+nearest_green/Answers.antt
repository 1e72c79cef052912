use Rattle.std.proofs.Common.{sym, arith}
use Rattle.methods.specs.Climbing.{climb_found, climb_further}
use Rattle.methods.proofs.round.Round.+nearest_green.Goals as goal

pub returns-then-is_green-clause-climbs : goal.returns-then-is_green-clause-climbs
returns-then-is_green-clause-climbs t c =
    λ k l. climb_found k c.args.self.now.limit c.args.self.now.tokens.items c.args.i (omega arith) (sym c.if-is_green.ensures)

pub returns-clause-climbs : goal.returns-clause-climbs
returns-clause-climbs t c =
    λ k l. climb_further k c.args.self.now.limit c.args.self.now.tokens.items c.args.i (record { station = c.nearest_green-further.result.station; edges = c.nearest_green-further.result.edges }) (omega arith) l (sym c.if-is_green.ensures) c.nearest_green-further.ensures.climbs
