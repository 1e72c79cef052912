-- A chess result as a script writes it: w, d, l or n.
use Rattle.std.specs.Prelude.{ℕ, cond, List, [], ◌∷◌, ℤ, pos, Some, None, Option, ◌==◌}

-- the code of a letter: w a win of the first line, d a draw, l a loss, n nobody scored (bytes 119, 100, 108, 110)
abbrev pub letter_code : ℕ → Option ℤ
letter_code c = cond (c == 119) (Some (pos 2)) (cond (c == 100) (Some (pos 1)) (cond (c == 108) (Some (pos 0)) (cond (c == 110) (Some (pos 3)) None)))

-- a field of just one letter
abbrev pub chess_result : List ℕ → Option ℤ
chess_result [] = None
chess_result (c ∷ []) = letter_code c
chess_result (c ∷ d ∷ cs) = None
