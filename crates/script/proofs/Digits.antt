-- Digits of a field, from the first on.
use Rattle.std.proofs.Common.{◌≡◌, ℕ, zero, suc, ◌+◌, ◌-◌, ◌*◌, ◌^◌, ◌<◌, ◌≤◌, true, false, leb, List, [], ◌∷◌, length, get_or, take, drop, Some, None, sym, ap, ◌∙◌, mul-le-mul_right, mul_assoc, le-mul_of_pos_right, arith, length-drop}
use native.Mathlib.Nat.{pow-succ', one-le-pow}
use Rattle.std.proofs.lemmas.Bool.Decides.{nat_tests}
use Rattle.std.proofs.lemmas.List.{take_all}
use Rattle.script.specs.Numbers.{digits_after}

-- there is room for one digit more
pub room_step : (n d room : ℕ) → d < 10 → 0 < room → (n + 1) * 10 ^ room ≤ 10 ^ 9 → (n * 10 + d + 1) * 10 ^ (room - 1) ≤ 10 ^ 9
room_step n d zero h some fits = absurd (omega arith)
room_step n d (suc k) h some fits =
    let e : suc k - 1 ≡ k = omega arith in
    let m : (n * 10 + d + 1) * 10 ^ k ≤ ((n + 1) * 10) * 10 ^ k = mul-le-mul_right (10 ^ k) (omega arith) in
    let p : ((n + 1) * 10) * 10 ^ k ≡ (n + 1) * 10 ^ suc k = mul_assoc (n + 1) 10 (10 ^ k) ∙ ap (λ z. (n + 1) * z) (sym (pow-succ' 10 k)) in
    rw e (omega (arith, m, p))

-- a number with room for a digit more is short by one
pub digit_fits : (n room : ℕ) → 0 < room → (n + 1) * 10 ^ room ≤ 10 ^ 9 → n < 10 ^ 8
digit_fits n zero some fits = absurd (omega arith)
digit_fits n (suc k) some fits =
    let p : n + 1 ≤ (n + 1) * 10 ^ k = le-mul_of_pos_right (n + 1) (one-le-pow k 10 (omega arith)) in
    let q : (n + 1) * 10 ^ suc k ≡ ((n + 1) * 10 ^ k) * 10 = rw (pow-succ' 10 k) (omega arith) in
    omega (arith, p, q)

-- a number with room is short
pub room_bound : (n room : ℕ) → (n + 1) * 10 ^ room ≤ 10 ^ 9 → n < 10 ^ 9
room_bound n room fits =
    let p : n + 1 ≤ (n + 1) * 10 ^ room = le-mul_of_pos_right (n + 1) (one-le-pow room 10 (omega arith)) in
    omega (arith, p)

pub digits_empty : (n room : ℕ) (s : List ℕ) → length s < 1 → digits_after n room s ≡ Some n
digits_empty n room [] h = grind (arith, nat_tests)
digits_empty n room (c ∷ cs) h = absurd (omega arith)

pub digits_more : (n room : ℕ) (s : List ℕ) → 1 ≤ length s → 48 ≤ get_or s 0 0 → get_or s 0 0 < 58 → 0 < room → digits_after n room s ≡ digits_after (n * 10 + (get_or s 0 0 - 48)) (room - 1) (drop 1 s)
digits_more n room [] h low high some = absurd (omega arith)
digits_more n room (c ∷ cs) h low high some =
    let p : leb 48 c ≡ true = grind (arith, nat_tests) in
    let q : leb c 57 ≡ true = grind (arith, nat_tests) in
    let l : leb (suc (length cs)) room ≡ leb (length cs) (room - 1) = grind (arith, nat_tests) in
    rw (p, q, l)

-- the first byte is no digit
pub digits_low : (n room : ℕ) (s : List ℕ) → 1 ≤ length s → get_or s 0 0 < 48 → digits_after n room s ≡ None
digits_low n room [] h low = absurd (omega arith)
digits_low n room (c ∷ cs) h low = let p : leb 48 c ≡ false = grind (arith, nat_tests) in rw p

pub digits_high : (n room : ℕ) (s : List ℕ) → 1 ≤ length s → 58 ≤ get_or s 0 0 → digits_after n room s ≡ None
digits_high n room [] h high = absurd (omega arith)
digits_high n room (c ∷ cs) h high =
    let p : leb 48 c ≡ true = grind (arith, nat_tests) in
    let q : leb c 57 ≡ false = grind (arith, nat_tests) in
    rw (p, q)

-- what `rest` of a pattern `[c, rest @ ..]` is
pub rest_is : (s : List ℕ) → take (length s - 1) (drop 1 s) ≡ drop 1 s
rest_is s = take_all _ _ (simp length-drop (omega arith))

-- what `digits` is proved by, whatever comes next
pub ruleset digit_steps = (digit_fits, room_step, room_bound, digits_empty, digits_more, digits_low, digits_high, rest_is)
