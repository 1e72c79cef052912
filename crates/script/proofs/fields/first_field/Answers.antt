use Rattle.std.proofs.Common.{◌≡◌, ltb, cond, length, Some, None, arith, rules, tests}
use Rattle.std.proofs.lemmas.Bool.Decides.{nat_tests}
use Rattle.std.proofs.lemmas.List.{take_all, take_rest}
use Rattle.std.proofs.lemmas.Iterator.{YieldsList-from_slice}
use Rattle.std.proofs.lemmas.Iterator.Search.{position_from_yields_List}
use Rattle.std.specs.List.{position_or_len}
use Rattle.script.specs.Fields.{is_tab}
use Rattle.script.proofs.fields.first_field.Goals.{After-position}
use Rattle.script.proofs.fields.first_field.Goals as goal

found : (c : After-position) → c.position.result ≡ cond (ltb (position_or_len is_tab c.args.line.now) (length c.args.line.now)) (Some (position_or_len is_tab c.args.line.now)) None
found c = position_from_yields_List is_tab _ _ c.position.result c.position.ensures.ran (YieldsList-from_slice _ c.iter.ensures.rest) (λ x b q k. search (rules, tests))

pub returns-in-Some : goal.returns-in-Some
returns-in-Some c = grind (arith, nat_tests, take_rest, found (goal.at.returns-in-Some c).After-position)

pub returns-in-None : goal.returns-in-None
returns-in-None c = grind (arith, nat_tests, take_all, found (goal.at.returns-in-None c).After-position)
