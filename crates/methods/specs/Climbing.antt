-- The climb: what one step of it gives, and that it finds a green ancestor of the asker.
use Rattle.std.specs.Prelude.{◌≡◌, ℕ, zero, suc, ◌+◌, ◌<◌, ◌≤◌, true, false, List, refl}
use Rattle.std.proofs.Common.{ap, sym, ◌∙◌, subst, ⊎_elim, add-one, arith}
use Rattle.std.proofs.lemmas.Bool.{cond-true, cond-false, cond_both, both_ways, cases_eq}
use Rattle.methods.specs.Tokens.{green, tokens_at}
use Rattle.methods.specs.Climb.{Ancestor, climb, further, parent}
use Rattle.methods.specs.TreeLaws.{NearestGreen, ancestor}

-- the parent is green
pub climb_found : (k limit : ℕ) (ts : List ℕ) (i : ℕ) → 0 < k → green limit (tokens_at ts (parent i)) ≡ true → climb k limit ts i ≡ record { station = parent i; edges = 1 }
unfolding climb
climb_found zero limit ts i p g = absurd (omega arith)
climb_found (suc k) limit ts i p g = cond-true (green limit (tokens_at ts (parent i))) _ _ g

-- it is not, and the climb goes on from there
pub climb_further : (k limit : ℕ) (ts : List ℕ) (i : ℕ) (a : Ancestor) → 0 < i → i ≤ k → green limit (tokens_at ts (parent i)) ≡ false → ((j : ℕ) → parent i ≤ j → climb j limit ts (parent i) ≡ a) → climb k limit ts i ≡ further a
unfolding climb
climb_further zero limit ts i a p l g f = absurd (omega arith)
climb_further (suc k) limit ts i a p l g f =
    cond-false (green limit (tokens_at ts (parent i))) _ _ g ∙ ap further (f k (omega arith))

-- a climb never ends below where it began
pub climb_le : (k limit : ℕ) (ts : List ℕ) (i : ℕ) → (climb k limit ts i).station ≤ i
unfolding climb
climb_le zero limit ts i = omega arith
climb_le (suc k) limit ts i =
    let P : Ancestor → Type 0 = λ a. a.station ≤ i in
    cond_both
    (green limit (tokens_at ts (parent i)))
    (record { station = parent i; edges = 1 })
    (further (climb k limit ts (parent i)))
    P
    (λ _. omega arith)
    (λ _. omega (arith, climb_le k limit ts (parent i)))

-- what a climb finds
pub record Found (limit : ℕ) (ts : List ℕ) (i k : ℕ) (a : Ancestor) : Type 0 where
  pub above : a.station < i
  pub is_green : green limit (tokens_at ts a.station) ≡ true
  pub few : a.edges ≤ k

pub climb_finds : (k limit : ℕ) (ts : List ℕ) (i : ℕ) → 0 < i → i ≤ k → green limit (tokens_at ts 0) ≡ true → Found limit ts i k (climb k limit ts i)
unfolding climb
climb_finds zero limit ts i p l g = absurd (omega arith)
climb_finds (suc k) limit ts i p l g =
    cond_both
    (green limit (tokens_at ts (parent i)))
    (record { station = parent i; edges = 1 })
    (further (climb k limit ts (parent i)))
    (Found limit ts i (suc k))
    (λ e. record { above = omega arith; is_green = e; few = omega arith })
    (λ e.
    ⊎_elim
    (λ z. let P : ℕ → Type 0 = λ x. green limit (tokens_at ts x) ≡ false in absurd (both_ways _ (subst P z e) g))
    (λ z. let f = climb_finds k limit ts (parent i) (omega arith) (omega arith) g in record { above = omega arith; is_green = f.is_green; few = omega arith })
    (cases_eq (parent i) 0))

-- one edge further from a station whose parent is not green
between : (limit : ℕ) (ts : List ℕ) (i : ℕ) (b : ℕ) → green limit (tokens_at ts (parent i)) ≡ false → ((e : ℕ) → 0 < e → e < b → green limit (tokens_at ts (ancestor e (parent i))) ≡ false) → (e : ℕ) → 0 < e → e < b + 1 → green limit (tokens_at ts (ancestor e i)) ≡ false
between limit ts i b pale f zero p l = absurd (omega arith)
between limit ts i b pale f (suc zero) p l = pale
between limit ts i b pale f (suc (suc e)) p l = f (suc e) (omega arith) (omega arith)

further_nearest : (limit : ℕ) (ts : List ℕ) (i : ℕ) (a : Ancestor) → green limit (tokens_at ts (parent i)) ≡ false → NearestGreen limit ts (parent i) a → NearestGreen limit ts i (further a)
further_nearest limit ts i a pale n =
    record {
      up = omega arith;
      there = n.there ∙ ap (λ e. ancestor e i) (sym (add-one a.edges));
      is_green = n.is_green;
      nearest = between limit ts i a.edges pale n.nearest;
    }

-- it is the nearest green ancestor
pub climb_nearest : (k limit : ℕ) (ts : List ℕ) (i : ℕ) → 0 < i → i ≤ k → green limit (tokens_at ts 0) ≡ true → NearestGreen limit ts i (climb k limit ts i)
unfolding climb
climb_nearest zero limit ts i p l g = absurd (omega arith)
climb_nearest (suc k) limit ts i p l g =
    cond_both
    (green limit (tokens_at ts (parent i)))
    (record { station = parent i; edges = 1 })
    (further (climb k limit ts (parent i)))
    (NearestGreen limit ts i)
    (λ e. record { up = omega arith; there = refl; is_green = e; nearest = λ x a b. absurd (omega arith) })
    (λ pale.
    ⊎_elim
    (λ z. let P : ℕ → Type 0 = λ x. green limit (tokens_at ts x) ≡ false in absurd (both_ways _ (subst P z pale) g))
    (λ z. further_nearest limit ts i (climb k limit ts (parent i)) pale (climb_nearest k limit ts (parent i) (omega arith) (omega arith) g))
    (cases_eq (parent i) 0))
