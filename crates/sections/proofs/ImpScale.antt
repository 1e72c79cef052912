-- The IMPs of a difference with its sign, by the scale of its size.
use Rattle.std.proofs.Common.{◌≡◌, ℕ, ◌%◌, ◌≤◌, Bool, true, false, cond, ◌&&◌, eqb, leb, List, [], ◌∷◌, length, ℤ, pos, negsuc, neg_ℤ, nat_abs, ◌≤ℤ◌, Some, None, Option, refl, arith}
use lib.Signed.{lt_z}
use Rattle.std.specs.Option.{option_map}
use Rattle.std.proofs.lemmas.Int.{ints}
use Rattle.std.proofs.lemmas.Bool.Decides.{nat_tests}
use Rattle.sections.specs.Bridge.{largest_difference, is_difference, both_imps, scale, passed, limits}

passed_few : (ls : List ℕ) (size : ℕ) → passed ls size ≤ length ls
passed_few [] size = omega arith
passed_few (l ∷ ls) size = let h = passed_few ls size in grind (arith, nat_tests)

-- a difference is one by its size
size_of : (r : ℤ) → is_difference r ≡ (leb (nat_abs r) largest_difference && eqb (nat_abs r % 10) 0)
size_of (pos n) = grind (arith, nat_tests)
size_of (negsuc n) = grind (arith, nat_tests)

-- the IMPs of a difference, by those of its size
abbrev pub signed : (r won : ℤ) → ℤ
signed r won = cond (lt_z r (pos 0)) (neg_ℤ won) won

pub both_imps-scale : (r : ℤ) → both_imps r ≡ option_map (λ won. (signed r won, neg_ℤ (signed r won))) (scale (nat_abs r))
both_imps-scale r = go (leb (nat_abs r) largest_difference && eqb (nat_abs r % 10) 0) refl
  where
    go : (t : Bool) → (leb (nat_abs r) largest_difference && eqb (nat_abs r % 10) 0) ≡ t → both_imps r ≡ option_map (λ won. (signed r won, neg_ℤ (signed r won))) (scale (nat_abs r))
    go true p = rw (size_of r, p)
    go false p = rw (size_of r, p)

-- the scale ends at 24
pub scale_few : (size : ℕ) (won : ℤ) → ◌≡◌ {A = Option ℤ} (Some won) (scale size) → (pos 0 ≤ℤ won) × (won ≤ℤ pos 24)
scale_few size won e = go (leb size largest_difference && eqb (size % 10) 0) refl e
  where
    bounds : (n : ℕ) → n ≤ 24 → won ≡ pos n → (pos 0 ≤ℤ won) × (won ≤ℤ pos 24)
    bounds n few is = (omega (arith, ints), omega (arith, ints))

    go : (t : Bool) → (leb size largest_difference && eqb (size % 10) 0) ≡ t → ◌≡◌ {A = Option ℤ} (Some won) (cond t (Some (pos (passed limits size))) None) → (pos 0 ≤ℤ won) × (won ≤ℤ pos 24)
    go true p q = bounds (passed limits size) (passed_few limits size) cc
    go false p q = absurd cc

pub signed_few : (r won : ℤ) → pos 0 ≤ℤ won → won ≤ℤ pos 24 → (neg_ℤ (pos 24) ≤ℤ signed r won) × (signed r won ≤ℤ pos 24)
signed_few r won low high = go (lt_z r (pos 0))
  where
    go : (t : Bool) → (neg_ℤ (pos 24) ≤ℤ cond t (neg_ℤ won) won) × (cond t (neg_ℤ won) won ≤ℤ pos 24)
    go true = (omega (arith, ints), omega (arith, ints))
    go false = (omega (arith, ints), omega (arith, ints))
