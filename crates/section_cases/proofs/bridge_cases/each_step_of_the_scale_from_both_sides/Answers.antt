use Rattle.std.proofs.Common.{arith}
use Rattle.std.proofs.lemmas.Int.{ints}
use Rattle.section_cases.proofs.bridge_cases.each_step_of_the_scale_from_both_sides.Goals as goal

pub overflow_sub-more : goal.overflow_sub-more
overflow_sub-more g c = omega (arith, ints)

pub overflow_sub-past : goal.overflow_sub-past
overflow_sub-past g c = omega (arith, ints)

pub overflow_sub-more-in-loop-imps : goal.overflow_sub-more-in-loop-imps
overflow_sub-more-in-loop-imps g c = omega (arith, ints)
