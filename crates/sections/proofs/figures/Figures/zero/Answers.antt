use Rattle.std.proofs.Common.{arith}
use Rattle.common.specs.Limits.{line_count, largest_figure}
use Rattle.std.proofs.lemmas.Int.{ints}
use Rattle.sections.proofs.Ranges.{within_same}
use Rattle.sections.proofs.figures.Figures.zero.Goals as goal

pub invariant_of-result-clause-range : goal.invariant_of-result-clause-range
invariant_of-result-clause-range c = within_same largest_figure line_count _ (omega (arith, ints)) (omega (arith, ints))
