-- What a house says to a call: the answer, or the whole refusal.
use Rattle.std.specs.Prelude.{◌≡◌, ℕ, List}
use Rattle.sections.specs.Rule.{Rule}
use Rattle.sections.specs.Chess.{chess}
use Rattle.methods.specs.Box.{box_model}
use Rattle.house_rules.specs.Calls.EveryCall.{Call, Answer}
use Rattle.house_rules.specs.Theorem.Histories.{step, Response, refused_with, granted, response_of, responses}
use Rattle.edge_cases.specs.Houses.{BoxHouse}

abbrev pub Says : Rule → BoxHouse → Call → Response → Type 0
Says rule x call response = response_of (step box_model rule x call) ≡ response

-- over a section: granted with that answer, or refused by it (number 6) for that cause at that line
abbrev pub GrantsBy : Rule → BoxHouse → Call → Answer → Type 0
GrantsBy rule x call answer = Says rule x call (granted answer)

abbrev pub RefusesBy : Rule → BoxHouse → Call → (cause line : ℕ) → Type 0
RefusesBy rule x call cause line = Says rule x call (refused_with (6, cause, line))

-- over chess: granted with that answer, or refused with that number and neither cause nor line
abbrev pub Grants : BoxHouse → Call → Answer → Type 0
Grants x call answer = GrantsBy chess x call answer

abbrev pub Refuses : BoxHouse → Call → (number : ℕ) → Type 0
Refuses x call number = Says chess x call (refused_with (number, 0, 0))

-- over chess: what is said to one call after another
abbrev pub SaysInTurn : BoxHouse → List Call → List Response → Type 0
SaysInTurn x calls said = responses box_model chess x calls ≡ said
