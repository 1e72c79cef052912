use Rattle.std.proofs.Common.{◌≡◌, ◌*◌, ◌<◌, take, pos, neg_ℤ, ◌≤ℤ◌}
use Rattle.common.specs.Limits.{line_count}
use Rattle.sections.specs.Sums.{line_sum}
use Rattle.sections.proofs.sums.line_sum.Given as goal

abbrev pub invariant-loop-s : goal.invariant-loop-s
invariant-loop-s g l =
    (l.line < line_count)
    × (l.sum ≡ line_sum g.S.Section.figures l.line (take l.s-index l.sheets))
    × (neg_ℤ (pos (20000 * l.s-index)) ≤ℤ l.sum)
    × (l.sum ≤ℤ pos (20000 * l.s-index))
