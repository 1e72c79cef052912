-- What several calls ask of a deficit.
use Rattle.std.specs.Prelude.{Bool, ℤ}
use Rattle.common.specs.Limits.{largest_deficit}
use Rattle.common.specs.Ranges.{up_to}

-- a deficit from -30,000 to 30,000
abbrev pub is_deficit : ℤ → Bool
is_deficit z = up_to largest_deficit z
