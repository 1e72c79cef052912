use Rattle.std.proofs.Common.{◌≡◌, ◌+ℤ◌, w64, to_z, of_z, arith}
use Rattle.std.proofs.lemmas.Int.{ints}
use Rattle.sections.specs.Rule.{figure_at}
use Rattle.sections.proofs.figures.Figures.add.Goals as goal

pub returns : goal.returns
returns c =
    let sum : to_z w64 (of_z w64 (to_z w64 (of_z w64 c.from.result) +ℤ to_z w64 (of_z w64 c.from-2.result))) ≡ figure_at c.args.self.now.values c.args.line.number +ℤ c.args.by = omega (arith, ints) in
    simp sum at c.put.ensures
