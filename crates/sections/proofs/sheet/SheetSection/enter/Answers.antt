use Rattle.std.proofs.Common.{◌≡◌, w32, SFits}
use Rattle.std.proofs.lemmas.Int.{to_z-of_z}
use Rattle.common.proofs.SameRefusals.{did_as}
use Rattle.sections.specs.Codes.{cause_and_line}
use Rattle.sections.specs.Pairs.{pair_entry, pair_gains}
use Rattle.sections.specs.Rule.{entered}
use Rattle.sections.specs.declared.figures.Figures.{Figures}
use Rattle.sections.specs.declared.sheet.Sheet.{Sheet}
use Rattle.sections.proofs.sheet.SheetSection.enter.Goals as goal

pub returns : goal.returns
returns g c =
    let a = c.args.a in
    let b = c.args.b in
    let r = c.args.r in
    let fr : SFits w32 c.args.r = c.ranges.r in
    let before = c.args.self.now.figures in
    let after = c.enter.new.self in
    let read = simp to_z-of_z at c.gains.ensures in
    let did = rw read at c.enter.ensures in
    did_as {V = Figures} {W = Sheet g.row.K.Denot} (λ figures. record { figures = figures; scoring = c.args.self.now.scoring })
    (pair_entry before.values a b (g.K.Scoring.gains r)) (g.K.Scoring.rule.entry before.values a b r) cause_and_line
    (λ _. after.values ≡ entered before.values (pair_gains a b (g.K.Scoring.gains r))) (λ _. after.values ≡ entered before.values (g.K.Scoring.rule.gain a b r))
    before after c.enter.result
    (g.met.K.Scoring.plays.entry before.values a b r before.range) (λ _ same. rw (g.met.K.Scoring.plays.gain a b r) same) did
