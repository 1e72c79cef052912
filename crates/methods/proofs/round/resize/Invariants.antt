use Rattle.std.proofs.Common.{◌≡◌, ◌≤◌, length}
use Rattle.methods.proofs.round.resize.Given as goal

abbrev pub invariant-loop : goal.invariant-loop
invariant-loop l = (length l.tokens.items ≡ l.counter) × (l.counter ≤ l.n)
