-- No question is answered no exactly where all are answered yes.
use Rattle.std.proofs.Common.{◌≡◌, ℕ, Bool, true, false, cond, List, [], ◌∷◌, ◌++◌, Some, None, refl, arith}
use Rattle.std.specs.Option.{option_map}
use Rattle.common.specs.Questions.{Question, told_as, first_no, all_yes}

abbrev pub AllYes : {C : Type 0} → List (Question C) → Type 0
AllYes [] = Unit {0}
AllYes (q ∷ qs) = (q.yes? ≡ true) × AllYes qs

pub all_yes_lem : {C : Type 0} (qs : List (Question C)) → first_no qs ≡ None → AllYes qs
all_yes_lem [] e = tt
all_yes_lem (q ∷ qs) e = go q.yes? refl (all_yes_lem qs)
  where
    go : (b : Bool) → q.yes? ≡ b → (first_no qs ≡ None → AllYes qs) → (q.yes? ≡ true) × AllYes qs
    go true t ih = (t, ih (cc))
    go false t ih = let z : ◌≡◌ {A = ℕ} 0 1 = cc in absurd (omega arith)

pub no_first : {C : Type 0} (qs : List (Question C)) → AllYes qs → first_no qs ≡ None
no_first [] y = refl
no_first (q ∷ qs) y = rw y.0 (no_first qs y.1)

pub yes_parts : {C : Type 0} (qs rs : List (Question C)) → AllYes (qs ++ rs) → AllYes qs × AllYes rs
yes_parts [] rs y = (tt, y)
yes_parts (q ∷ qs) rs y = let p = yes_parts qs rs y.1 in ((y.0, p.0), p.1)

-- the test says so too
pub all_tested : {C : Type 0} (qs : List (Question C)) → AllYes qs → all_yes qs ≡ true
all_tested [] y = refl
all_tested (q ∷ qs) y = rw y.0 (all_tested qs y.1)

-- where the second questions are answered yes as soon as the first are, the first alone decide
pub first_decide : {C : Type 0} (qs rs : List (Question C)) → (AllYes qs → AllYes rs) → first_no (qs ++ rs) ≡ first_no qs
first_decide [] rs h = no_first rs (h tt)
first_decide (q ∷ qs) rs h = go q.yes? refl (λ t. first_decide qs rs (λ y. h (t, y)))
  where
    go : (b : Bool) → q.yes? ≡ b → (q.yes? ≡ true → first_no (qs ++ rs) ≡ first_no qs) → cond q.yes? (first_no (qs ++ rs)) (Some q.told) ≡ cond q.yes? (first_no qs) (Some q.told)
    go true t ih = rw t (ih t)
    go false t ih = rw t

-- questions told in another way are answered as they were
pub told_tested : {C D : Type 0} (f : C → D) (qs : List (Question C)) → AllYes (told_as f qs) → all_yes qs ≡ true
told_tested f [] y = refl
told_tested f (q ∷ qs) y = rw y.0 (told_tested f qs y.1)

pub first_told : {C D : Type 0} (f : C → D) (qs : List (Question C)) → first_no (told_as f qs) ≡ option_map f (first_no qs)
first_told f [] = refl
first_told f (q ∷ qs) = go q.yes? (first_told f qs)
  where
    go : (b : Bool) → first_no (told_as f qs) ≡ option_map f (first_no qs) → cond b (first_no (told_as f qs)) (Some (f q.told)) ≡ option_map f (cond b (first_no qs) (Some q.told))
    go true ih = ih
    go false ih = refl
