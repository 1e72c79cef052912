use Rattle.std.proofs.Common.{w32, SFits, rules}
use Rattle.std.proofs.lemmas.Int.{to_z-of_z}
use Rattle.sections.proofs.Gains.{second_kept, pair_of_adds}
use Rattle.sections.proofs.Entries.{pair_entry-second}
use Rattle.sections.proofs.figures.Figures.add_pair.Goals as goal

pub returns-in_err-add-2 : goal.returns-in_err-add-2
returns-in_err-add-2 c =
    let fx : SFits w32 c.args.x = c.ranges.x in
    let fy : SFits w32 c.args.y = c.ranges.y in
    let first = simp (to_z-of_z, c.first.ensures) at c.in_ok-add.ensures in
    let second = simp (to_z-of_z, c.second.ensures) at c.in_err-add-2.ensures in
    let kept = second_kept _ _ _ _ _ c.args.pair.apart first.1 in
    rw (pair_entry-second _ _ _ _ _ c.args.pair.apart first.0) (search (rules, rw kept at second))

pub returns : goal.returns
returns c =
    let fx : SFits w32 c.args.x = c.ranges.x in
    let fy : SFits w32 c.args.y = c.ranges.y in
    let first = simp (to_z-of_z, c.first.ensures) at c.in_ok-add.ensures in
    let second = simp (to_z-of_z, c.second.ensures) at c.in_ok-add-2.ensures in
    let kept = second_kept _ _ _ _ _ c.args.pair.apart first.1 in
    (rw (pair_entry-second _ _ _ _ _ c.args.pair.apart first.0) (rw kept at second.0), pair_of_adds _ _ _ _ _ _ _ c.args.pair.apart c.args.self.now.size first.1 second.1)
