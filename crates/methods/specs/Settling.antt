-- What follows when a station went from green to yellow keeps the sum of tokens, and leaves the root green.
use Rattle.std.specs.Prelude.{◌≡◌, ℕ, ◌+◌, ◌-◌, ◌*◌, ◌<◌, ◌≤◌, true, false, not, ◌&&◌, List, length, sum, ◌==◌}
use Rattle.std.proofs.Common.{◌∙◌, subst, ⊎_elim, arith}
use Rattle.std.proofs.lemmas.Bool.{and_cases, cases_eq, cond_both, eqb-false, ltb-true, not-false}
use Rattle.methods.specs.Tokens.{green, tokens_at}
use Rattle.methods.specs.Swap.{Offers, turned_yellow}
use Rattle.methods.specs.Arrival.{Outcome, reset, settled}
use Rattle.methods.specs.Dealing.{dealt_green, dealt_long, dealt_total}
use Rattle.methods.specs.Yellow.{Kept, turned_few, turned_keeps}

-- a reset keeps the sum and the number of stations, makes the root green if there is a token, and costs at most three messages a station
pub record Resets (ts : List ℕ) (o : Outcome) : Type 0 where
  pub total : sum o.after.tokens ≡ sum ts
  pub long : length o.after.tokens ≡ length ts
  pub rooted : 0 < sum ts → o.after.limit < 2 * tokens_at o.after.tokens 0
  pub few : o.sent ≤ 3 * (length ts - 1)

pub reset_keeps : (ts : List ℕ) → 0 < length ts → Resets ts (reset ts)
reset_keeps ts p =
    record {
      total = dealt_total (length ts) (sum ts) p;
      long = dealt_long (length ts) (sum ts);
      rooted = λ some. dealt_green (length ts) (sum ts) p some;
      few = cond_both (sum ts == 0) _ _ (λ x. x ≤ 3 * (length ts - 1)) (λ _. omega arith) (λ _. omega arith);
    }

pub record Settles (limit : ℕ) (ts : List ℕ) (i : ℕ) (o : Outcome) : Type 0 where
  pub total : sum o.after.tokens ≡ sum ts
  pub long : length o.after.tokens ≡ length ts
  pub rooted : 0 < sum ts → (0 < i → limit < 2 * tokens_at ts 0) → o.after.limit < 2 * tokens_at o.after.tokens 0
  pub few : o.sent ≤ 4 * length ts + 3 * (length ts - 1)

-- the root is green after offers that leave it alone, or in which it exchanged
root_after : (limit : ℕ) (ts : List ℕ) (i : ℕ) (o : Offers) → Kept limit ts i o → (i == 0 && not o.exchanged) ≡ false → (0 < i → limit < 2 * tokens_at ts 0) → limit < 2 * tokens_at o.tokens 0
root_after limit ts i o k e root =
    let below : 0 < i → limit < 2 * tokens_at o.tokens 0 = λ p. let a = k.above 0 p in let b = root p in omega (arith, a, b) in
    ⊎_elim
    (λ z.
    ⊎_elim
    (λ n. absurd (eqb-false i 0 n z))
    (λ n. let g = k.again (not-false o.exchanged n) in let P : ℕ → Type 0 = λ x. green limit (tokens_at o.tokens x) ≡ true in ltb-true limit _ (subst P z g))
    (and_cases (i == 0) (not o.exchanged) e))
    (λ z. below (omega arith))
    (cases_eq i 0)

pub settled_keeps : (limit : ℕ) (ts : List ℕ) (i : ℕ) → i < length ts → Settles limit ts i (settled limit ts i)
settled_keeps limit ts i p =
    let o = turned_yellow (length ts) limit ts i in
    let k = turned_keeps (length ts) limit ts i p in
    let few = turned_few (length ts) limit ts i in
    cond_both
    (i == 0 && not o.exchanged)
    _
    _
    (Settles limit ts i)
    (λ _. let r = reset_keeps o.tokens (omega (arith, k.long)) in
    record {
      total = r.total ∙ k.total;
      long = r.long ∙ k.long;
      rooted = λ some _. r.rooted (omega (arith, k.total));
      few = omega (arith, r.few, k.long);
    })
    (λ e. record { total = k.total; long = k.long; rooted = λ some root. root_after limit ts i o k e root; few = omega arith })
