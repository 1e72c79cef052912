-- ScoresAreGains: in every count that is closed, each line's score is what the entries before the turns gave it.
use Rattle.std.proofs.Common.{◌≡◌, subst}
use Rattle.std.proofs.lemmas.Bool.{eqb-true}
use Rattle.methods.specs.Model.{Model}
use Rattle.common.specs.Sums.{sum_of}
use Rattle.house_rules.specs.Calls.CountText.{score}
use Rattle.house_rules.specs.Theorem.Cut.{cut_of}
use Rattle.house_rules.specs.State.Names.{slips_of}
use Rattle.house_rules.specs.Theorem.Histories.{granted_calls}
use Rattle.house_rules.specs.State.House.{HouseState}
use Rattle.house_rules.specs.Theorem.Statements.{gain_of, ScoresAreGains}
use Rattle.house_rules.proofs.Statements.CloseIsACut.{scored}
use Rattle.methods.specs.Model as models
use Rattle.house_rules.proofs.Statements.CountsAreConsistent.{holds, closed, yes, during}

pub scores_are_gains : (m : Model) → models.Lawful m → ScoresAreGains m
scores_are_gains m ml rule x y answer answered history line short =
    let c = cut_of (granted_calls m rule x history) in
    let k = holds m ml rule x y answer history answered in
    let d = during m ml rule x y answer history answered in
    let q = yes m ml rule x y answer history answered in
    subst (λ (z : HouseState m.State). score z.cells.recorded (slips_of z.cells.late) line ≡ sum_of (gain_of rule line) c.before) (closed m ml rule x y answer history answered).1
    (scored rule c x.phase x.cells (m.rules.outstanding x.method) k.sound d q.1.0 (eqb-true (m.rules.outstanding x.method) 0 q.1.1.0) line short)
