-- The deal: it hands out all tokens, and the root's share is the round's limit.
use Rattle.std.specs.Prelude.{◌≡◌, ℕ, zero, suc, ◌+◌, ◌-◌, ◌*◌, ◌/◌, ◌%◌, ◌<◌, ◌≤◌, min, map, length, sum, nat_lt}
use Rattle.std.proofs.Common.{ap, sym, ◌∙◌, subst, mod-lt, div-add-mod', mul_comm, add-mul, one-mul, suc-mul, le-div_iff_mul-le, add-one, arith}
use Rattle.std.proofs.Math.Nat.{div-eq_of_lt-le}
use Rattle.std.specs.List.{range_with_len}
use Rattle.std.proofs.lemmas.List.FromFn.{length-map-range_with_len, get_or-map-range_with_len, sum_by-map-range_with_len_more}
use Rattle.std.proofs.lemmas.Bool.{cond_both, ltb-true, ltb-false}
use Rattle.methods.specs.Tokens.{tokens_at}
use Rattle.methods.specs.Deal.{dealt, dealt_to, round_limit}

pub dealt_long : (n total : ℕ) → length (dealt n total) ≡ n
unfolding dealt
dealt_long n total = length-map-range_with_len (dealt_to n total) 0 n

-- what the first k stations are dealt
dealt_part : (n total k : ℕ) → sum (map (dealt_to n total) (range_with_len 0 k)) ≡ k * (total / n) + min k (total % n)
dealt_part n total zero = omega arith
dealt_part n total (suc k) =
    let ih = dealt_part n total k in
    let more : sum (map (dealt_to n total) (range_with_len 0 (suc k))) ≡ sum (map (dealt_to n total) (range_with_len 0 k)) + dealt_to n total k = subst (λ (m : ℕ). sum (map (dealt_to n total) (range_with_len 0 m)) ≡ sum (map (dealt_to n total) (range_with_len 0 k)) + dealt_to n total k) (add-one k) (sum_by-map-range_with_len_more (λ x. x) (dealt_to n total) 0 k k (omega arith)) in
    let times : suc k * (total / n) ≡ k * (total / n) + total / n = suc-mul k (total / n) in
    let share : dealt_to n total k + min k (total % n) ≡ total / n + min (suc k) (total % n) =
    cond_both (nat_lt k (total % n)) (total / n + 1) (total / n) (λ x. x + min k (total % n) ≡ total / n + min (suc k) (total % n)) (λ e. omega (arith, ltb-true k (total % n) e)) (λ e. omega (arith, ltb-false k (total % n) e)) in
    more ∙ omega (arith, ih, times, share)

pub dealt_total : (n total : ℕ) → 0 < n → sum (dealt n total) ≡ total
unfolding dealt
dealt_total n total p =
    let all = dealt_part n total n in
    let rest = mod-lt total p in
    let whole = div-add-mod' total n in
    let turn = mul_comm n (total / n) in
    omega (arith, all, rest, whole, turn)

-- the number that total / n is rounded up to
rounded : (n total q : ℕ) → 0 < n → q * n ≤ total + (n - 1) → total ≤ q * n → round_limit n total ≡ q
rounded n total q p low high =
    let next : (q + 1) * n ≡ q * n + n = add-mul q 1 n ∙ ap (λ x. q * n + x) (one-mul n) in
    div-eq_of_lt-le n low (omega arith)

-- the root's share
pub dealt_root : (n total : ℕ) → 0 < n → tokens_at (dealt n total) 0 ≡ round_limit n total
unfolding dealt
dealt_root n total p = get_or-map-range_with_len (dealt_to n total) 0 n 0 0 0 p (omega arith) ∙
    cond_both
    (nat_lt 0 (total % n))
    (total / n + 1)
    (total / n)
    (λ x. x ≡ round_limit n total)
    (λ e. let next : (total / n + 1) * n ≡ total / n * n + n = add-mul (total / n) 1 n ∙ ap (λ x. total / n * n + x) (one-mul n) in
    sym (rounded n total (total / n + 1) p (omega (arith, ltb-true 0 (total % n) e, div-add-mod' total n)) (omega (arith, mod-lt total p, div-add-mod' total n))))
    (λ e. sym (rounded n total (total / n) p (omega (arith, div-add-mod' total n)) (omega (arith, ltb-false 0 (total % n) e, div-add-mod' total n))))

-- so it is green, if there was anything to deal
pub dealt_green : (n total : ℕ) → 0 < n → 0 < total → round_limit n total < 2 * tokens_at (dealt n total) 0
dealt_green n total p some =
    let root = dealt_root n total p in
    let one : 1 * n ≤ total + (n - 1) = rw one-mul (omega arith) in
    let up : 1 ≤ round_limit n total = (le-div_iff_mul-le p).1 one in
    omega (arith, root, up)

-- no station is dealt more than the root
pub dealt_within : (n total i : ℕ) → i < n → tokens_at (dealt n total) i ≤ round_limit n total
unfolding dealt
dealt_within n total i p =
    let here = get_or-map-range_with_len (dealt_to n total) 0 n i i 0 p (omega arith) in
    let root : dealt_to n total 0 ≡ round_limit n total = sym (get_or-map-range_with_len (dealt_to n total) 0 n 0 0 0 (omega arith) (omega arith)) ∙ dealt_root n total (omega arith) in
    let less : dealt_to n total i ≤ dealt_to n total 0 =
    cond_both (nat_lt i (total % n)) (total / n + 1) (total / n) (λ x. x ≤ dealt_to n total 0)
    (λ e. cond_both (nat_lt 0 (total % n)) (total / n + 1) (total / n) (λ x. total / n + 1 ≤ x) (λ _. omega arith) (λ f. absurd (omega (arith, ltb-true i (total % n) e, ltb-false 0 (total % n) f))))
    (λ _. cond_both (nat_lt 0 (total % n)) (total / n + 1) (total / n) (λ x. total / n ≤ x) (λ _. omega arith) (λ _. omega arith)) in
    omega (arith, here, root, less)
