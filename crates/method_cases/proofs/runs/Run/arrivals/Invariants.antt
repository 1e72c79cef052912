use Rattle.std.proofs.Common.{◌*◌, ◌<◌, ◌≤◌}
use Rattle.method_cases.proofs.runs.Run.arrivals.Given as goal

abbrev pub invariant-loop-k : goal.invariant-loop-k
invariant-loop-k g l = (l.all.sum ≤ 4294967295 * l.k) × (l.all.check < 1000003)
