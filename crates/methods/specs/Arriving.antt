-- An arrival lowers the sum of tokens by one, leaves the root green while a token is left, and sends few messages.
use Rattle.std.specs.Prelude.{◌≡◌, ℕ, ◌+◌, ◌-◌, ◌*◌, ◌/◌, ◌<◌, ◌≤◌, true, not, ◌&&◌, ◌≢◌, List, length, sum, nat_lt, slice_set}
use Rattle.common.specs.Limits.{most_messages, most_stations}
use Rattle.std.proofs.Common.{ap, sym, ◌∙◌, subst, ⊎_elim, arith, length-set, get_or-set_same, get_or-set_other}
use Rattle.std.proofs.lemmas.List.Sums.{sum_by-set}
use Rattle.std.proofs.lemmas.Bool.{and_cases, both_ways, cases_eq, cond_both, lt-ltb, ltb-false, ltb-true, not-false}
use Rattle.methods.specs.Tokens.{green, tokens_at}
use Rattle.methods.specs.Climb.{Ancestor, climb}
use Rattle.methods.specs.Split.{after_split, paid, shares}
use Rattle.methods.specs.Arrival.{Outcome, arrival, pays_by_split, pays_own}
use Rattle.methods.specs.Climbing.{Found, climb_finds}
use Rattle.methods.specs.Settling.{settled_keeps}

-- ## Payment and split

pub paid_total : (ts : List ℕ) (i : ℕ) → i < length ts → 0 < tokens_at ts i → sum (paid ts i) + 1 ≡ sum ts
paid_total ts i p some = let one = sum_by-set (λ x. x) ts i (tokens_at ts i - 1) 0 p in omega (arith, one)

pub paid_long : (ts : List ℕ) (i : ℕ) → length (paid ts i) ≡ length ts
paid_long ts i = length-set ts i (tokens_at ts i - 1)

paid_other : (ts : List ℕ) (i j : ℕ) → j ≢ i → tokens_at (paid ts i) j ≡ tokens_at ts j
paid_other ts i j ne = get_or-set_other ts i j (tokens_at ts i - 1) 0 ne

pub split_long : (ts : List ℕ) (giver asker : ℕ) → length (after_split ts giver asker) ≡ length ts
split_long ts giver asker = simp length-set

split_other : (ts : List ℕ) (giver asker j : ℕ) → j ≢ giver → j ≢ asker → tokens_at (after_split ts giver asker) j ≡ tokens_at ts j
split_other ts giver asker j ng na =
    get_or-set_other (slice_set ts giver (shares (tokens_at ts giver)).1) asker j (shares (tokens_at ts giver)).0 0 na ∙ get_or-set_other ts giver j (shares (tokens_at ts giver)).1 0 ng

split_asker : (ts : List ℕ) (giver asker : ℕ) → asker < length ts → tokens_at (after_split ts giver asker) asker ≡ (tokens_at ts giver + 1) / 2
split_asker ts giver asker p =
    get_or-set_same (slice_set ts giver (shares (tokens_at ts giver)).1) asker (shares (tokens_at ts giver)).0 0 (simp length-set p)

pub split_total : (ts : List ℕ) (giver asker : ℕ) → giver < length ts → asker < length ts → giver ≢ asker → tokens_at ts asker ≡ 0 → sum (after_split ts giver asker) ≡ sum ts
split_total ts giver asker p q ne none =
    let r = tokens_at ts giver in
    let kept = r - (r + 1) / 2 in
    let one = sum_by-set (λ x. x) ts giver kept 0 p in
    let long : asker < length (slice_set ts giver kept) = simp length-set q in
    let two = sum_by-set (λ x. x) (slice_set ts giver kept) asker ((r + 1) / 2) 0 long in
    let ne' : asker ≢ giver = λ e. ne (sym e) in
    let other = get_or-set_other ts giver asker kept 0 ne' in
    omega (arith, one, two, other)

-- ## Arrival

pub record Arrives (ts : List ℕ) (o : Outcome) : Type 0 where
  pub total : sum o.after.tokens + 1 ≡ sum ts
  pub long : length o.after.tokens ≡ length ts
  pub rooted : 0 < sum o.after.tokens → o.after.limit < 2 * tokens_at o.after.tokens 0
  pub few : o.sent ≤ most_messages

pays_own_lem : (limit : ℕ) (ts : List ℕ) (i : ℕ) → length ts ≤ most_stations → i < length ts → limit < 2 * tokens_at ts 0 → 0 < tokens_at ts i → Arrives ts (pays_own limit ts i)
pays_own_lem limit ts i small p root some =
    let one = paid_total ts i p some in
    let long = paid_long ts i in
    let kept : 0 < i → limit < 2 * tokens_at (paid ts i) 0 = λ q. let ne : 0 ≢ i = omega arith in let same = paid_other ts i 0 ne in omega (arith, same) in
    cond_both
    (green limit (tokens_at ts i) && not (green limit (tokens_at (paid ts i) i)))
    _
    _
    (Arrives ts)
    (λ _. let s = settled_keeps limit (paid ts i) i (omega arith) in
    record {
      total = omega (arith, s.total);
      long = s.long ∙ long;
      rooted = λ left. s.rooted (omega (arith, s.total)) kept;
      few = omega (arith, s.few);
    })
    (λ e. record {
      total = one;
      long = long;
      rooted = λ left.
          ⊎_elim
          (λ z. let P : ℕ → Type 0 = λ x. green limit (tokens_at ts x) ≡ true in
          let was : green limit (tokens_at ts i) ≡ true = subst P (sym z) (lt-ltb limit (2 * tokens_at ts 0) root) in
          let Q : ℕ → Type 0 = λ x. green limit (tokens_at (paid ts i) x) ≡ true in
          ⊎_elim
          (λ n. absurd (both_ways (green limit (tokens_at ts i)) n was))
          (λ n. ltb-true limit (2 * tokens_at (paid ts i) 0) (subst Q z (not-false (green limit (tokens_at (paid ts i) i)) n)))
          (and_cases (green limit (tokens_at ts i)) (not (green limit (tokens_at (paid ts i) i))) e))
          (λ z. kept (omega arith))
          (cases_eq i 0);
      few = omega arith;
    })

pays_by_split_lem : (limit : ℕ) (ts : List ℕ) (i : ℕ) (a : Ancestor) → length ts ≤ most_stations → i < length ts → limit < 2 * tokens_at ts 0 → tokens_at ts i ≡ 0 → 0 < i → Found limit ts i (length ts) a → Arrives ts (pays_by_split limit ts i a)
pays_by_split_lem limit ts i a small p root none up f =
    let g = a.station in
    let above = f.above in
    let rich = ltb-true limit (2 * tokens_at ts g) f.is_green in
    let ne : g ≢ i = omega arith in
    let same = split_total ts g i (omega arith) p ne none in
    let long = split_long ts g i in
    let share = split_asker ts g i p in
    let one = paid_total (after_split ts g i) i (omega arith) (omega (arith, share, rich)) in
    let long' = paid_long (after_split ts g i) i in
    let s = settled_keeps limit (paid (after_split ts g i) i) g (omega arith) in
    let kept : 0 < g → limit < 2 * tokens_at (paid (after_split ts g i) i) 0 = λ q.
    let ni : 0 ≢ i = omega arith in
    let ng : 0 ≢ g = omega arith in
    let b = paid_other (after_split ts g i) i 0 ni in
    let d = split_other ts g i 0 ng ni in
    omega (arith, b, d) in
    let near = f.few in
    record {
      total = omega (arith, s.total);
      long = s.long ∙ long' ∙ long;
      rooted = λ left. s.rooted (omega (arith, s.total)) kept;
      few = omega (arith, s.few);
    }

pub arrival_keeps : (limit : ℕ) (ts : List ℕ) (i : ℕ) → length ts ≤ most_stations → i < length ts → limit < 2 * tokens_at ts 0 → Arrives ts (arrival limit ts i)
unfolding arrival
arrival_keeps limit ts i small p root =
    cond_both
    (nat_lt 0 (tokens_at ts i))
    _
    _
    (Arrives ts)
    (λ e. pays_own_lem limit ts i small p root (ltb-true 0 (tokens_at ts i) e))
    (λ e. let none = ltb-false 0 (tokens_at ts i) e in
    let up : 0 < i =
    ⊎_elim
    (λ z. let same : tokens_at ts i ≡ tokens_at ts 0 = ap (tokens_at ts) z in absurd (omega (arith, same)))
    (λ z. omega arith)
    (cases_eq i 0) in
    pays_by_split_lem limit ts i (climb (length ts) limit ts i) small p root (omega arith) up (climb_finds (length ts) limit ts i up (omega arith) (lt-ltb limit (2 * tokens_at ts 0) root)))
