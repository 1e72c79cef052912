-- The events of a house: the calls that change sheets and slips.
use Rattle.std.specs.Prelude.{ℕ, ℤ}

pub data Event : Type 0 where
  enter : (station a b : ℕ) (r : ℤ) → Event
  post : (station to line : ℕ) (amount : ℤ) → Event
  take : (sender number : ℕ) → Event
