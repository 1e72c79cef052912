use Rattle.std.proofs.Common.{◌+◌, ◌-◌, ◌*◌, length}
use Rattle.methods.proofs.round.Round.+offer_swap_turned_yellow.Given as goal

abbrev pub decreases-offer_swap : goal.decreases-offer_swap
decreases-offer_swap l = 2 * (length l.self.now.tokens.items - l.i)

abbrev pub decreases-turned_yellow : goal.decreases-turned_yellow
decreases-turned_yellow l = 2 * (length l.self.now.tokens.items - l.i) + 1
