-- A line that is being read: its bytes so far, or None once it has more than 80.
use Rattle.std.specs.Prelude.{ℕ, Bool, true, cond, List, [], ◌∷◌, ◌++◌, length, Some, None, Option, ◌==◌, nat_lt}

-- how many bytes of a line are kept
abbrev pub longest_line : ℕ
longest_line = 80

abbrev pub added : Option (List ℕ) → ℕ → Option (List ℕ)
added None b = None
added (Some bs) b = cond (nat_lt (length bs) longest_line) (Some (bs ++ b ∷ [])) None

-- what a byte of the input makes of it: a line end (byte 10) begins the next line
abbrev pub fed : Option (List ℕ) → ℕ → Option (List ℕ)
fed line b = cond (b == 10) (Some []) (added line b)

abbrev pub begun : Option (List ℕ) → Bool
begun None = true
begun (Some bs) = nat_lt 0 (length bs)
