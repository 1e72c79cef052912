-- What a tally means.
use Rattle.sections.specs.Sheet.{figures_of}
use Rattle.script.specs.Rounds.{TallyState, waiting, playing}
use Rattle.script.specs.declared.tally.Tally.{Tally}
use Rattle.script.specs.declared.tally.Tally.TheVariants.{Waiting, Chess, Bridge}
use Rattle.script.specs.declared.words.Kind.{Kind}

abbrev pub tally_state : Tally → TallyState
tally_state Waiting = waiting
tally_state (Chess s) = playing Kind.Chess (figures_of s)
tally_state (Bridge s) = playing Kind.Bridge (figures_of s)
