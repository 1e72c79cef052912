-- Offers down the tree: what one station's two offers come to, and what all of them keep.
use Rattle.std.specs.Prelude.{◌≡◌, ℕ, zero, suc, ◌+◌, ◌*◌, ◌<◌, ◌≤◌, Bool, true, false, cond, ◌≢◌, List, length, sum, nat_lt, slice_set, refl}
use Rattle.std.proofs.Common.{ap, sym, ◌∙◌, subst, arith, length-set, get_or-set_same, get_or-set_other}
use Rattle.std.proofs.lemmas.List.Sums.{sum_by-set}
use Rattle.std.proofs.lemmas.Bool.{cond-true, cond-false, cond_both, le-ltb, ltb-true, true≢false}
use Rattle.methods.specs.Tokens.{green, tokens_at}
use Rattle.methods.specs.Swap.{Offers, exchange, gave, no_child, not_green, offered, or_else, turned_yellow}

-- where no green child exchanged, the tokens are as they were
pub offered_kept : (yellow : List ℕ → ℕ → Offers) (limit : ℕ) (ts : List ℕ) (i c : ℕ) → (offered yellow limit ts i c).exchanged ≡ false → (offered yellow limit ts i c).tokens ≡ ts
offered_kept yellow limit ts i c =
    let P : Offers → Type 0 = λ o. o.exchanged ≡ false → o.tokens ≡ ts in
    cond_both
    (nat_lt c (length ts))
    _
    _
    P
    (λ _. cond_both (green limit (tokens_at ts c)) _ _ P (λ _ e. absurd (true≢false e)) (λ _ _. refl))
    (λ _ _. refl)

-- the left child exchanged
pub turned_left : (k limit : ℕ) (ts : List ℕ) (i : ℕ) (o : Offers) → i < length ts → length ts ≤ i + k → ((j : ℕ) → length ts ≤ (2 * i + 1) + j → offered (turned_yellow j limit) limit ts i (2 * i + 1) ≡ o) → o.exchanged ≡ true → turned_yellow k limit ts i ≡ o
unfolding turned_yellow
turned_left zero limit ts i o p l f e = absurd (omega arith)
turned_left (suc k) limit ts i o p l f e =
    let right = offered (turned_yellow k limit) limit ts i (2 * i + 2) in
    ap (λ x. or_else x right) (f k (omega arith)) ∙ cond-true o.exchanged _ _ e

-- it did not, and the right child was asked
pub turned_right : (k limit : ℕ) (ts ts' : List ℕ) (i : ℕ) (o o' : Offers) → i < length ts → length ts ≤ i + k → ((j : ℕ) → length ts ≤ (2 * i + 1) + j → offered (turned_yellow j limit) limit ts i (2 * i + 1) ≡ o) → o.tokens ≡ ts' → o.exchanged ≡ false → ((j : ℕ) → length ts' ≤ (2 * i + 2) + j → offered (turned_yellow j limit) limit ts' i (2 * i + 2) ≡ o') → turned_yellow k limit ts i ≡ record { tokens = o'.tokens; exchanged = o'.exchanged; sent = o.sent + o'.sent }
unfolding turned_yellow
turned_right zero limit ts ts' i o o' p l f s e f' = absurd (omega arith)
turned_right (suc k) limit ts ts' i o o' p l f s e f' =
    let left = f k (omega arith) in
    let kept : o.tokens ≡ ts = sym (ap (λ x. x.tokens) left) ∙ offered_kept (turned_yellow k limit) limit ts i (2 * i + 1) (ap (λ x. x.exchanged) left ∙ e) in
    let same : ts' ≡ ts = sym s ∙ kept in
    let right : offered (turned_yellow k limit) limit ts i (2 * i + 2) ≡ o' = subst (λ (x : List ℕ). offered (turned_yellow k limit) limit x i (2 * i + 2) ≡ o') same (f' k (let z : length ts' ≡ length ts = ap length same in omega arith)) in
    ap (λ x. or_else x (offered (turned_yellow k limit) limit ts i (2 * i + 2))) left ∙ cond-false o.exchanged _ _ e ∙ ap (λ x. record { tokens = x.tokens; exchanged = x.exchanged; sent = o.sent + x.sent }) right

-- ## What offers keep

-- the sum of all tokens, the number of stations and the tokens of every earlier station are kept;
-- a station that exchanged is green again; nothing else moved
pub record Kept (limit : ℕ) (ts : List ℕ) (i : ℕ) (o : Offers) : Type 0 where
  pub total : sum o.tokens ≡ sum ts
  pub long : length o.tokens ≡ length ts
  pub above : (j : ℕ) → j < i → tokens_at o.tokens j ≡ tokens_at ts j
  pub again : o.exchanged ≡ true → green limit (tokens_at o.tokens i) ≡ true
  pub still : o.exchanged ≡ false → o.tokens ≡ ts

exchange_i : (ts : List ℕ) (i c : ℕ) → i < length ts → c < length ts → i < c → tokens_at (exchange ts i c) i ≡ tokens_at ts c
exchange_i ts i c p q l =
    let ne : i ≢ c = omega arith in
    get_or-set_other (slice_set ts i (tokens_at ts c)) c i (tokens_at ts i) 0 ne ∙ get_or-set_same ts i (tokens_at ts c) 0 p

exchange_above : (ts : List ℕ) (i c j : ℕ) → i < c → j < i → tokens_at (exchange ts i c) j ≡ tokens_at ts j
exchange_above ts i c j l m =
    let ne : j ≢ c = omega arith in
    let ne' : j ≢ i = omega arith in
    get_or-set_other (slice_set ts i (tokens_at ts c)) c j (tokens_at ts i) 0 ne ∙ get_or-set_other ts i j (tokens_at ts c) 0 ne'

exchange_long : (ts : List ℕ) (i c : ℕ) → length (exchange ts i c) ≡ length ts
exchange_long ts i c = simp length-set

pub exchange_total : (ts : List ℕ) (i c : ℕ) → i < length ts → c < length ts → i ≢ c → sum (exchange ts i c) ≡ sum ts
exchange_total ts i c p q ne =
    let one = sum_by-set (λ x. x) ts i (tokens_at ts c) 0 p in
    let long : c < length (slice_set ts i (tokens_at ts c)) = simp length-set q in
    let two = sum_by-set (λ x. x) (slice_set ts i (tokens_at ts c)) c (tokens_at ts i) 0 long in
    let ne' : c ≢ i = λ e. ne (sym e) in
    let other = get_or-set_other ts i c (tokens_at ts c) 0 ne' in
    omega (arith, one, two, other)

-- one offer keeps all that, if what follows at the child does
offered_keeps : (yellow : List ℕ → ℕ → Offers) (limit : ℕ) (ts : List ℕ) (i c : ℕ) → i < length ts → i < c → ((us : List ℕ) → c < length us → Kept limit us c (yellow us c)) → Kept limit ts i (offered yellow limit ts i c)
offered_keeps yellow limit ts i c p l ih =
    cond_both
    (nat_lt c (length ts))
    _
    _
    (Kept limit ts i)
    (λ has. cond_both
    (green limit (tokens_at ts c))
    _
    _
    (Kept limit ts i)
    (λ g. let q = ltb-true c (length ts) has in
    let long = exchange_long ts i c in
    let k = ih (exchange ts i c) (omega arith) in
    record {
      total = k.total ∙ exchange_total ts i c p q (omega arith);
      long = k.long ∙ long;
      above = λ j m. k.above j (omega arith) ∙ exchange_above ts i c j l m;
      again = λ _. subst (λ (r : ℕ). green limit r ≡ true) (sym (k.above i l ∙ exchange_i ts i c p q l)) g;
      still = λ e. absurd (true≢false e);
    })
    (λ _. record { total = refl; long = refl; above = λ j m. refl; again = λ e. absurd (true≢false (sym e)); still = λ _. refl }))
    (λ _. record { total = refl; long = refl; above = λ j m. refl; again = λ e. absurd (true≢false (sym e)); still = λ _. refl })

pub turned_keeps : (k limit : ℕ) (ts : List ℕ) (i : ℕ) → i < length ts → Kept limit ts i (turned_yellow k limit ts i)
unfolding turned_yellow
turned_keeps zero limit ts i p =
    record { total = refl; long = refl; above = λ j m. refl; again = λ e. absurd (true≢false (sym e)); still = λ _. refl }
turned_keeps (suc k) limit ts i p =
    let left = offered_keeps (turned_yellow k limit) limit ts i (2 * i + 1) p (omega arith) (λ us q. turned_keeps k limit us (2 * i + 1) q) in
    let right = offered_keeps (turned_yellow k limit) limit ts i (2 * i + 2) p (omega arith) (λ us q. turned_keeps k limit us (2 * i + 2) q) in
    cond_both
    (offered (turned_yellow k limit) limit ts i (2 * i + 1)).exchanged
    _
    _
    (Kept limit ts i)
    (λ _. left)
    (λ _. record { total = right.total; long = right.long; above = right.above; again = right.again; still = right.still })

-- ## How many messages

-- four for each level at most, and two of an offer alone
offered_few : (yellow : List ℕ → ℕ → Offers) (limit : ℕ) (ts : List ℕ) (i c b : ℕ) → ((us : List ℕ) → (yellow us c).sent ≤ b) → ((offered yellow limit ts i c).sent ≤ 2 + b) × ((offered yellow limit ts i c).exchanged ≡ false → (offered yellow limit ts i c).sent ≤ 2)
offered_few yellow limit ts i c b ih =
    let P : Offers → Type 0 = λ o. (o.sent ≤ 2 + b) × (o.exchanged ≡ false → o.sent ≤ 2) in
    cond_both
    (nat_lt c (length ts))
    _
    _
    P
    (λ _. cond_both
    (green limit (tokens_at ts c))
    _
    _
    P
    (λ _. (omega (arith, ih (exchange ts i c)), λ e. absurd (true≢false e)))
    (λ _. (omega arith, λ _. omega arith)))
    (λ _. (omega arith, λ _. omega arith))

pub turned_few : (k limit : ℕ) (ts : List ℕ) (i : ℕ) → (turned_yellow k limit ts i).sent ≤ 4 * k
unfolding turned_yellow
turned_few zero limit ts i = omega arith
turned_few (suc k) limit ts i =
    let left = offered_few (turned_yellow k limit) limit ts i (2 * i + 1) (4 * k) (λ us. turned_few k limit us (2 * i + 1)) in
    let right = offered_few (turned_yellow k limit) limit ts i (2 * i + 2) (4 * k) (λ us. turned_few k limit us (2 * i + 2)) in
    let P : Offers → Type 0 = λ o. o.sent ≤ 4 * suc k in
    cond_both
    (offered (turned_yellow k limit) limit ts i (2 * i + 1)).exchanged
    _
    _
    P
    (λ _. omega (arith, left.0))
    (λ e. omega (arith, left.1 e, right.0))

-- ## The bound on depth

offered_same : (yellow yellow' : List ℕ → ℕ → Offers) (limit : ℕ) (ts : List ℕ) (i c : ℕ) → (c < length ts → yellow (exchange ts i c) c ≡ yellow' (exchange ts i c) c) → offered yellow limit ts i c ≡ offered yellow' limit ts i c
offered_same yellow yellow' limit ts i c same =
    let P : Bool → Type 0 = λ b. b ≡ nat_lt c (length ts) → cond b (cond (green limit (tokens_at ts c)) (gave (yellow (exchange ts i c) c)) (not_green ts)) (no_child ts) ≡ cond b (cond (green limit (tokens_at ts c)) (gave (yellow' (exchange ts i c) c)) (not_green ts)) (no_child ts) in
    let all : (b : Bool) → P b = λ b. elim b as P [ true ↦ λ e. ap (λ o. cond (green limit (tokens_at ts c)) (gave o) (not_green ts)) (same (ltb-true c (length ts) (sym e))) | false ↦ λ _. refl ] in
    all (nat_lt c (length ts)) refl

-- a station beyond the last has no children
offered_past : (yellow : List ℕ → ℕ → Offers) (limit : ℕ) (ts : List ℕ) (i c : ℕ) → length ts ≤ c → offered yellow limit ts i c ≡ no_child ts
offered_past yellow limit ts i c p = cond-false (nat_lt c (length ts)) _ _ (le-ltb c (length ts) p)

turned_past : (k limit : ℕ) (ts : List ℕ) (i : ℕ) → length ts ≤ i → turned_yellow k limit ts i ≡ no_child ts
unfolding turned_yellow
turned_past zero limit ts i p = refl
turned_past (suc k) limit ts i p =
    ap (λ o. or_else o (offered (turned_yellow k limit) limit ts i (2 * i + 2))) (offered_past (turned_yellow k limit) limit ts i (2 * i + 1) (omega arith)) ∙ ap (or_else (no_child ts)) (offered_past (turned_yellow k limit) limit ts i (2 * i + 2) (omega arith))

pub turned_reach : (k j limit : ℕ) (ts : List ℕ) (i : ℕ) → length ts ≤ i + k → length ts ≤ i + j → turned_yellow k limit ts i ≡ turned_yellow j limit ts i
unfolding turned_yellow
turned_reach zero zero limit ts i p q = refl
turned_reach zero (suc j) limit ts i p q = sym (turned_past (suc j) limit ts i (omega arith))
turned_reach (suc k) zero limit ts i p q = turned_past (suc k) limit ts i (omega arith)
turned_reach (suc k) (suc j) limit ts i p q =
    let at : (c : ℕ) → i < c → offered (turned_yellow k limit) limit ts i c ≡ offered (turned_yellow j limit) limit ts i c = λ c l.
    offered_same (turned_yellow k limit) (turned_yellow j limit) limit ts i c (λ m. let e = exchange_long ts i c in turned_reach k j limit (exchange ts i c) c (omega arith) (omega arith)) in
    ap (λ o. or_else o (offered (turned_yellow k limit) limit ts i (2 * i + 2))) (at (2 * i + 1) (omega arith)) ∙ ap (or_else (offered (turned_yellow j limit) limit ts i (2 * i + 1))) (at (2 * i + 2) (omega arith))
