use Rattle.house_rules.proofs.Statements.WhatGatherTells.{what_gather_tells}
use Rattle.house_rules.proofs.theorems.gather_tells.Goals as goal

pub returns : goal.returns
returns g c = what_gather_tells g.M.Method.model g.met.M.Method.lawful
