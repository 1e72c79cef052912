use Rattle.std.proofs.Common.{w32, SFits, arith, rules, nat_abs, ◌≡◌, pos, ◌-ℤ◌, neg_ℤ, to_z, of_z}
use Rattle.std.proofs.lemmas.Int.{ints, to_z-of_z}
use Rattle.sections.proofs.ImpScale.{both_imps-scale, scale_few, signed, signed_few}
use Rattle.sections.proofs.imps.both_imps.Goals as goal
use Rattle.sections.proofs.imps.both_imps.Goals.{then-r-lt0, else-r-lt0}

pub returns-in_err-won : goal.returns-in_err-won
returns-in_err-won c =
    let fr : SFits w32 c.args.r = c.ranges.r in
    let size = simp (c.unsigned_abs.ensures.value, to_z-of_z) at c.in_err-won.ensures in
    rw both_imps-scale (search (rules, size))

pub returns : goal.returns
returns c =
    let fr : SFits w32 c.args.r = c.ranges.r in
    let size = simp (c.unsigned_abs.ensures.value, to_z-of_z) at c.in_ok-won.ensures in
    let few = scale_few (nat_abs c.args.r) c.in_ok-won.won size in
    let gained : c.if-r-lt0.gained ≡ signed c.args.r c.in_ok-won.won =
    elim c.if-r-lt0.branch [
      | then-r-lt0 w ↦ let below = simp to_z-of_z at w.if-r-lt0.true in rw below (omega (arith, ints))
      | else-r-lt0 w ↦ let above = simp to_z-of_z at w.if-r-lt0.false in rw above (omega (arith, ints))
    ] in
    let gained_few = signed_few c.args.r c.in_ok-won.won few.0 few.1 in
    let lost : to_z w32 (of_z w32 (pos 0 -ℤ c.if-r-lt0.gained)) ≡ neg_ℤ c.if-r-lt0.gained = rw gained (omega (arith, ints)) in
    rw (both_imps-scale, c.if-r-lt0.gained-is, lost, gained) (search (rules, size))
