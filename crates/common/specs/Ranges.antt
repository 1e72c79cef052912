-- Ranges of numbers, both ends included.
use Rattle.std.specs.Prelude.{ℕ, Bool, ◌&&◌, ℤ, neg_ℤ, int_le, nat_le}

abbrev pub within : (low high : ℕ) → ℕ → Bool
within low high n = nat_le low n && nat_le n high

abbrev pub between : (low high : ℤ) → ℤ → Bool
between low high z = int_le low z && int_le z high

-- from -limit to limit
abbrev pub up_to : (limit : ℤ) → ℤ → Bool
up_to limit z = between (neg_ℤ limit) limit z
