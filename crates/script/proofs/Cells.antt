-- The cells of a line that is being read.
use Rattle.std.proofs.Common.{◌≡◌, ℕ, ◌+◌, ◌-◌, List, drop, replicate, set, arith}
use Rattle.std.proofs.lemmas.List.{drop-drop, drop-replicate, drop-set-lt}
use Rattle.script.specs.Pending.{longest_line}

-- a cell more is in use, and the others are 0 as they were
pub one_cell_less : (cells : List ℕ) (len byte : ℕ) → drop len cells ≡ replicate (longest_line - len) 0 → drop (len + 1) (set cells len byte) ≡ replicate (longest_line - (len + 1)) 0
one_cell_less cells len byte h =
    let e : longest_line - len - 1 ≡ longest_line - (len + 1) = omega arith in
    rw (drop-set-lt (len + 1) cells len byte (omega arith), ← drop-drop 1 len cells, h, drop-replicate, e)
