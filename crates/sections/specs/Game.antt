-- The results of a game of chess, and their numbers.
use Rattle.std.specs.Prelude.{◌≡◌, false, ℤ, pos, Ok, Result, IfOk, IfErr}
use Rattle.sections.specs.Chess.{is_result}
use Rattle.sections.specs.declared.game.Game.{Game}
use Rattle.sections.specs.declared.game.Game.TheVariants.{SecondWon, Drawn, FirstWon, NobodyScored}
use Rattle.sections.specs.declared.fault.Cause.{Cause}
use Rattle.sections.specs.declared.fault.Cause.TheVariants.{BadResult}

abbrev pub number_of : Game → ℤ
number_of SecondWon = pos 0
number_of Drawn = pos 1
number_of FirstWon = pos 2
number_of NobodyScored = pos 3

-- a number is read as the result that has it, so that the number of a result gives that result back,
-- and is refused where no result has it
pub record ReadsGame (number : ℤ) (r : Result Game Cause) : Type 0 where
  pub has_number : IfOk r (λ game. number_of game ≡ number)
  pub gives_back : (game : Game) → number_of game ≡ number → r ≡ Ok game
  pub refused : IfErr r (λ e. (e ≡ BadResult) × (is_result number ≡ false))
