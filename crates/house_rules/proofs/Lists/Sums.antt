-- Sums over lists of sheets and of slips; for ScoresAreGains.
use Rattle.std.proofs.Common.{◌≡◌, ℕ, zero, suc, ◌<◌, Bool, true, false, cond, eqb, List, [], ◌∷◌, length, get_or, set, replicate, ℤ, pos, ◌+ℤ◌, Some, refl, ap, ◌∙◌, arith}
use Rattle.std.proofs.lemmas.List.{length-set, get_or-set_same, get_or-set_other}
use Rattle.std.proofs.lemmas.Int.{ints}
use Rattle.std.proofs.lemmas.List.Sorted.{IsPermutation-keeps}
use Rattle.std.proofs.lemmas.Bool.{eqb-true, eqb-false}
use Rattle.std.specs.List.{swap}
use Rattle.std.specs.List.Sorted.{IsPermutation}
use Rattle.sections.specs.Rule.{blank_sheet}
use Rattle.house_rules.specs.declared.slip.Slip.{Slip}
use Rattle.common.specs.Sums.{sum_of}
use Rattle.sections.specs.Sums.{line_sum}
use Rattle.house_rules.specs.State.Names.{named, find, without}

pub sum_set : {X : Type 0} (f : X → ℤ) (xs : List X) (i : ℕ) (y d : X) → i < length xs → sum_of f (set xs i y) +ℤ f (get_or xs i d) ≡ sum_of f xs +ℤ f y
sum_set f [] i y d l = absurd (omega arith)
sum_set f (x ∷ xs) zero y d l = omega (arith, ints)
sum_set f (x ∷ xs) (suc i) y d l = let ih = sum_set f xs i y d (omega arith) in omega (arith, ints)

pub sum_without : (f : Slip → ℤ) (a b : ℕ) (x : Slip) (xs : List Slip) → find a b xs ≡ Some x → sum_of f (without a b xs) +ℤ f x ≡ sum_of f xs
sum_without f a b x [] e = let z : ◌≡◌ {A = ℕ} 0 1 = cc in absurd (omega arith)
sum_without f a b x (y ∷ ys) e = go (named a b y) refl (sum_without f a b x ys)
  where
    go : (t : Bool) → named a b y ≡ t → (find a b ys ≡ Some x → sum_of f (without a b ys) +ℤ f x ≡ sum_of f ys) → sum_of f (cond (named a b y) ys (y ∷ without a b ys)) +ℤ f x ≡ f y +ℤ sum_of f ys
    go true t ih =
        let s : y ≡ x = cc in
        let v : f y ≡ f x = ap f s in
        rw t (omega (arith, ints))
    go false t ih = let i = ih (cc) in rw t (omega (arith, ints))

pub sum_shuffled : {X : Type 0} (f : X → ℤ) (xs ys : List X) → IsPermutation xs ys → sum_of f ys ≡ sum_of f xs
sum_shuffled {X} f xs ys sh = IsPermutation-keeps xs (λ zs. sum_of f zs ≡ sum_of f xs) refl (λ l i j li lj e. step' l i j li lj ∙ e) ys sh
  where
    step' : (l : List X) (i j : ℕ) → i < length l → j < length l → sum_of f (swap l i j) ≡ sum_of f l
    step' [] i j li lj = refl
    step' (d ∷ l) i j li lj =
        let a = sum_set f (d ∷ l) i (get_or (d ∷ l) j d) d li in
        let lj' : j < length (set (d ∷ l) i (get_or (d ∷ l) j d)) = rw (length-set (d ∷ l) i (get_or (d ∷ l) j d)) lj in
        let b = sum_set f (set (d ∷ l) i (get_or (d ∷ l) j d)) j (get_or (d ∷ l) i d) d lj' in
        let c : get_or (set (d ∷ l) i (get_or (d ∷ l) j d)) j d ≡ get_or (d ∷ l) j d = same_place (eqb j i) refl in
        let c' = ap f c in
        omega (arith, ints)
      where
        same_place : (t : Bool) → eqb j i ≡ t → get_or (set (d ∷ l) i (get_or (d ∷ l) j d)) j d ≡ get_or (d ∷ l) j d
        same_place true t = let q = eqb-true j i t in rw q (get_or-set_same (d ∷ l) i (get_or (d ∷ l) i d) d li)
        same_place false t = get_or-set_other (d ∷ l) i j (get_or (d ∷ l) j d) d (eqb-false j i t)

pub get_or-same : {X : Type 0} (n : ℕ) (x : X) (s : ℕ) → get_or (replicate n x) s x ≡ x
get_or-same zero x s = refl
get_or-same (suc n) x zero = refl
get_or-same (suc n) x (suc s) = get_or-same n x s

pub sum_blank : (n line : ℕ) → line_sum (λ (f : List ℤ). f) line (replicate n blank_sheet) ≡ pos 0
sum_blank zero line = refl
sum_blank (suc n) line = let ih = sum_blank n line in let e = get_or-same 32 (pos 0) line in omega (arith, ints)
