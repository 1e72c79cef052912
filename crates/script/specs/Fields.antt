-- The fields of a line, parted by tabs (byte 9).
use Rattle.std.specs.Prelude.{ℕ, Bool, cond, List, length, Some, None, Option, ◌==◌, nat_lt}
use Rattle.std.specs.List.{before_first, after_first, position_or_len}

abbrev pub is_tab : ℕ → Bool
is_tab c = c == 9

-- the bytes before the first tab
abbrev pub field : List ℕ → List ℕ
field line = before_first is_tab line

-- what follows the first tab, where the line has one: the bytes before it are then fewer than the line's
abbrev pub rest : List ℕ → Option (List ℕ)
rest line = cond (nat_lt (position_or_len is_tab line) (length line)) (Some (after_first is_tab line)) None
