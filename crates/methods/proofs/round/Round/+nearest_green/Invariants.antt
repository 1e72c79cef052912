use Rattle.methods.proofs.round.Round.+nearest_green.Given as goal

abbrev pub decreases-nearest_green : goal.decreases-nearest_green
decreases-nearest_green l = l.i
