use Rattle.std.proofs.Common.{◌≡◌, nat_lt, [], ◌∷◌, pos, ◌+ℤ◌, ◌-ℤ◌, w32, to_z, of_z, arith, rules}
use Rattle.std.proofs.lemmas.Int.{ints}
use Rattle.common.proofs.AllYes.{all_yes_lem}
use Rattle.common.specs.Limits.{line_count}
use Rattle.common.specs.Questions.{ask}
use Rattle.sections.specs.Rule.{figure_at}
use Rattle.sections.proofs.sheet.SheetSection.debit.Goals as goal

pub returns : goal.returns
returns g c =
    let figures = c.args.self.now.figures in
    let figure = figure_at figures.values c.in_ok-at.at.number in
    let amount = to_z w32 (of_z w32 c.args.amount) in
    let asked = all_yes_lem (ask (nat_lt c.args.line line_count) (9, c.args.line) ∷ ask (g.K.Scoring.is_amount amount) (3, c.args.line) ∷ []) c.in_ok-at.ensures.0 in
    let is_small = g.met.K.Scoring.small amount asked.1.0 in
    let opposite : figure +ℤ to_z w32 (of_z w32 (pos 0 -ℤ amount)) ≡ figure -ℤ c.args.amount = omega (arith, ints) in
    search (rules, opposite, g.met.K.Scoring.plays.debit figures.values c.args.line c.args.amount figures.range)
