-- What a round of the tree holds.
use Rattle.methods.specs.Tokens.{TreeState}
use Rattle.methods.specs.declared.round.Round.{Round}

-- the limit of the round, and the tokens of each station
abbrev pub held : Round → TreeState
held r = record { limit = r.limit; tokens = r.tokens.items }
