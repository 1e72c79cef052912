-- Numbers as a script writes them.
use Rattle.std.specs.Prelude.{◌≡◌, ℕ, ◌+◌, ◌-◌, ◌*◌, ◌^◌, ◌<◌, cond, ◌&&◌, List, [], ◌∷◌, length, drop, ℤ, pos, neg_ℤ, Some, None, decimal, Option, ◌==◌, nat_le, slice_index, unsigned_abs}
use Rattle.std.specs.Fmt.{signed_decimal}
use Rattle.std.specs.Str.{all_ascii_digits}

-- the number that digits write after n
abbrev pub read_on : ℕ → List ℕ → ℕ
read_on n [] = n
read_on n (c ∷ cs) = read_on (n * 10 + (c - 48)) cs

-- at most that many digits, read after n
abbrev pub digits_after : ℕ → (room : ℕ) → List ℕ → Option ℕ
digits_after n room bs = cond (all_ascii_digits bs && nat_le (length bs) room) (Some (read_on n bs)) None

-- one to nine digits
abbrev pub natural : List ℕ → Option ℕ
natural bs = cond (nat_le 1 (length bs)) (digits_after 0 9 bs) None

abbrev pub positive : Option ℕ → Option ℤ
positive None = None
positive (Some n) = Some (pos n)

abbrev pub negative : Option ℕ → Option ℤ
negative None = None
negative (Some n) = Some (neg_ℤ (pos n))

-- an optional minus (byte 45) and then one to nine digits
abbrev pub number : List ℕ → Option ℤ
number bs = cond (slice_index bs 0 == 45) (negative (natural (drop 1 bs))) (positive (natural bs))

-- what is written of a number of at most nine digits is read as that number
pub record ReadsBack : Type 0 where
  pub natural_back : (n : ℕ) → n < 10 ^ 9 → natural (decimal n) ≡ Some n
  pub number_back : (z : ℤ) → unsigned_abs z < 10 ^ 9 → number (signed_decimal z) ≡ Some z
