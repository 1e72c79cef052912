use Rattle.std.proofs.Common.{◌≡◌, true, arith, w16, w64, to_z, of_z, rules}
use Rattle.common.specs.Limits.{largest_figure}
use Rattle.std.proofs.lemmas.Int.{ints}
use Rattle.sections.specs.Pairs.{is_figure}
use Rattle.sections.proofs.Ranges.{figure_low, figure_high, within_set}
use Rattle.sections.proofs.figures.Figures.put.Goals as goal

pub invariant_of-self-clause-range : goal.invariant_of-self-clause-range
invariant_of-self-clause-range c =
    let yes? : is_figure c.args.figure ≡ true = search rules in
    let low = figure_low c.args.figure yes? in
    let high = figure_high c.args.figure yes? in
    let stored : to_z w16 (of_z w16 (to_z w64 (of_z w64 c.args.figure))) ≡ c.args.figure = omega (arith, ints) in
    rw stored (within_set largest_figure c.args.self.now.values c.number-2.result c.args.figure low high c.args.self.now.range)
