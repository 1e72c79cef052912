use Rattle.std.proofs.Common.{◌≡◌, string_bytes}
use Rattle.common.specs.TextLines.{score_lines}
use Rattle.sections.specs.Rule.{figure_at}
use Rattle.script.proofs.texts.scores_text.Given as goal

abbrev pub invariant-loop-line : goal.invariant-loop-line
invariant-loop-line g l = string_bytes l.text ≡ score_lines l.line-counter 0 (figure_at (g.S.Section.figures l.sheet))
