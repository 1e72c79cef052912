use Rattle.std.proofs.Common.{◌≡◌, get_or, sym, ap, ◌∙◌, arith}
use Rattle.std.proofs.lemmas.Int.{ints}
use Rattle.common.proofs.Sums.{sum_more}
use Rattle.sections.specs.Rule.{figure_at}
use Rattle.sections.proofs.sums.line_sum.Goals as goal

pub loop-s-preserved : goal.loop-s-preserved
loop-s-preserved g c =
    let w = g.met.S.Section.bounded c.s-item.result c.args.line in
    let m = sum_more (λ s. figure_at (g.S.Section.figures s) c.args.line) c.args.sheets.now c.loop-s.s-index c.s-item.result (omega arith) in
    let f = c.in_ok-figure.ensures in
    let k : figure_at (g.S.Section.figures (get_or c.args.sheets.now c.loop-s.s-index c.s-item.result)) c.args.line ≡ c.in_ok-figure.field-0 =
    ap (λ s. figure_at (g.S.Section.figures s) c.args.line) (sym c.s-item.is) ∙ sym f.1 in
    (omega arith, omega (arith, ints), omega (arith, ints), omega (arith, ints))
