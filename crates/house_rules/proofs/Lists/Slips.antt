-- Slips by name: what is found, what is left, and lists with the same slips; for every call's proof.
use Rattle.std.proofs.Common.{◌≡◌, ℕ, Bool, true, false, cond, eqb, List, [], ◌∷◌, ◌++◌, Some, None, Option, sym, refl, ◌∙◌, subst, arith}
use Rattle.std.proofs.lemmas.List.Sorted.{IsPermutation-refl, IsPermutation-cons, IsPermutation-trans, IsPermutation-swap}
use Rattle.std.proofs.lemmas.Bool.{eqb-true, and_parts, eq-eqb, and_from}
use Rattle.std.proofs.lemmas.Bool.Decides.{nat_tests}
use Rattle.std.specs.List.{AllByRecursion}
use Rattle.std.specs.List.Sorted.{IsPermutation}
use Rattle.house_rules.specs.declared.slip.Slip.{Slip}
use Rattle.house_rules.specs.State.Names.{same_name, named, find, without, first_where}

pub same_name_refl : (a b : ℕ) → same_name a b a b ≡ true
same_name_refl a b = and_from _ _ (eq-eqb a a refl) (eq-eqb b b refl)

pub same_name_true : (a b x y : ℕ) → same_name a b x y ≡ true → (x ≡ a) × (y ≡ b)
same_name_true a b x y e = let p = and_parts (eqb x a) (eqb y b) e in (eqb-true x a p.0, eqb-true y b p.1)

abbrev pub or_else : {X : Type 0} → Option X → Option X → Option X
or_else None o = o
or_else (Some x) o = Some x

pub find_append : (a b : ℕ) (xs ys : List Slip) → find a b (xs ++ ys) ≡ or_else (find a b xs) (find a b ys)
find_append a b [] ys = refl
find_append a b (x ∷ xs) ys = let ih = find_append a b xs ys in grind arith

pub find_named : (a b : ℕ) (xs : List Slip) (n : Slip) → find a b xs ≡ Some n → (n.sender ≡ a) × (n.number ≡ b)
find_named a b [] n e = grind arith
find_named a b (x ∷ xs) n e = let ih = find_named a b xs n in grind (arith, nat_tests)

pub first_all : {X : Type 0} (P : X → Type 0) (p : X → Bool) (xs : List X) (x : X) → AllByRecursion P xs → first_where p xs ≡ Some x → P x
first_all P p [] x h e = let z : ◌≡◌ {A = ℕ} 0 1 = cc in absurd (omega arith)
first_all P p (y ∷ ys) x h e = go (p y) refl (first_all P p ys x h.1)
  where
    go : (t : Bool) → p y ≡ t → (first_where p ys ≡ Some x → P x) → P x
    go true t ih = let s : y ≡ x = cc in subst P s h.0
    go false t ih = ih (cc)

pub without_none : (a b : ℕ) (xs : List Slip) → find a b xs ≡ None → without a b xs ≡ xs
without_none a b [] e = refl
without_none a b (x ∷ xs) e = let ih = without_none a b xs in grind arith

-- no two slips have one name
abbrev pub Distinct : List Slip → Type 0
Distinct [] = Unit {0}
Distinct (x ∷ xs) = (find x.sender x.number xs ≡ None) × Distinct xs

pub find_without : (a b x y : ℕ) (xs : List Slip) → Distinct xs → find x y (without a b xs) ≡ cond (same_name a b x y) None (find x y xs)
find_without a b x y [] d = grind arith
find_without a b x y (n ∷ xs) d = go (named a b n) refl (same_name a b x y) refl (find_without a b x y xs d.1)
  where
    go : (t : Bool) → named a b n ≡ t → (u : Bool) → same_name a b x y ≡ u → find x y (without a b xs) ≡ cond (same_name a b x y) None (find x y xs) → find x y (cond (named a b n) xs (n ∷ without a b xs)) ≡ cond (same_name a b x y) None (find x y (n ∷ xs))
    go true t true u ih =
        let p = same_name_true a b n.sender n.number t in
        let q = same_name_true a b x y u in
        rw (t, u) (subst (λ k. find x k xs ≡ None) (sym q.1) (subst (λ k. find k b xs ≡ None) (sym q.0) (subst (λ k. find k b xs ≡ None) p.0 (subst (λ k. find n.sender k xs ≡ None) p.1 d.0))))
    go true t false u ih = grind (arith, nat_tests)
    go false t true u ih = grind (arith, nat_tests)
    go false t false u ih = grind (arith, nat_tests)

pub none_without : (a b x y : ℕ) (xs : List Slip) → find x y xs ≡ None → find x y (without a b xs) ≡ None
none_without a b x y [] e = refl
none_without a b x y (n ∷ xs) e = let ih = none_without a b x y xs in grind (arith, nat_tests)

pub distinct_without : (a b : ℕ) (xs : List Slip) → Distinct xs → Distinct (without a b xs)
distinct_without a b [] d = tt
distinct_without a b (x ∷ xs) d = go (named a b x) refl (distinct_without a b xs d.1)
  where
    go : (t : Bool) → named a b x ≡ t → Distinct (without a b xs) → Distinct (cond (named a b x) xs (x ∷ without a b xs))
    go true t ih = rw t d.1
    go false t ih = rw t (none_without a b x.sender x.number xs d.0, ih)

pub distinct_push : (xs : List Slip) (y : Slip) → Distinct xs → find y.sender y.number xs ≡ None → Distinct (xs ++ y ∷ [])
distinct_push [] y d e = (refl, tt)
distinct_push (x ∷ xs) y d e =
    let f = find_append x.sender x.number xs (y ∷ []) in
    let g = d.0 in
    let k : find y.sender y.number xs ≡ None = grind (arith, nat_tests) in
    (grind (arith, nat_tests), distinct_push xs y d.1 k)

pub shuffled_out : (a b : ℕ) (ys : List Slip) (x : Slip) → find a b ys ≡ Some x → IsPermutation (x ∷ without a b ys) ys
shuffled_out a b [] x e = let z : ◌≡◌ {A = ℕ} 0 1 = cc in absurd (omega arith)
shuffled_out a b (y ∷ ys) x e = go (named a b y) refl (shuffled_out a b ys x)
  where
    go : (t : Bool) → named a b y ≡ t → (find a b ys ≡ Some x → IsPermutation (x ∷ without a b ys) ys) → IsPermutation (x ∷ cond (named a b y) ys (y ∷ without a b ys)) (y ∷ ys)
    go true t ih = let s : y ≡ x = cc in rw (t, s) (IsPermutation-refl _)
    go false t ih =
        rw t (IsPermutation-trans _ _ _ (IsPermutation-swap (x ∷ y ∷ without a b ys) (y ∷ x ∷ without a b ys) 0 1 (omega arith) (omega arith) refl) (IsPermutation-cons y _ _ (ih (cc))))

pub shuffled_from_find : (xs ys : List Slip) → Distinct xs → Distinct ys → ((a b : ℕ) → find a b xs ≡ find a b ys) → IsPermutation xs ys
shuffled_from_find [] [] d e h = IsPermutation-refl []
shuffled_from_find [] (y ∷ ys) d e h =
    let f = h y.sender y.number in
    let s = same_name_refl y.sender y.number in
    let z : ◌≡◌ {A = ℕ} 0 1 = grind arith in absurd (omega arith)
shuffled_from_find (x ∷ xs) ys d e h =
    let a = x.sender in
    let b = x.number in
    let s = same_name_refl a b in
    let f : find a b ys ≡ Some x = sym (h a b) ∙ simp s in
    IsPermutation-trans _ _ _
    (IsPermutation-cons x _ _ (shuffled_from_find xs (without a b ys) d.1 (distinct_without a b ys e) (λ p q. rest p q (h p q))))
    (shuffled_out a b ys x f)
  where
    rest : (p q : ℕ) → find p q (x ∷ xs) ≡ find p q ys → find p q xs ≡ find p q (without x.sender x.number ys)
    rest p q k =
        let w = find_without x.sender x.number p q ys e in
        go (same_name x.sender x.number p q) refl w
      where
        go : (t : Bool) → same_name x.sender x.number p q ≡ t → find p q (without x.sender x.number ys) ≡ cond (same_name x.sender x.number p q) None (find p q ys) → find p q xs ≡ find p q (without x.sender x.number ys)
        go true t w =
            let n = same_name_true x.sender x.number p q t in
            rw (w, t) (subst (λ k. find p k xs ≡ None) (sym n.1) (subst (λ k. find k x.number xs ≡ None) (sym n.0) d.0))
        go false t w = rw (w, t) (let m : named p q x ≡ false = grind (arith, nat_tests) in cc)
