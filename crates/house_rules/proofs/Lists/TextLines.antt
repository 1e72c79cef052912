-- Lines of a text are read back: a line tells its fields, and where it ends.
use Rattle.std.proofs.Common.{◌≡◌, ℕ, zero, suc, ◌^◌, ◌<◌, ◌≤◌, List, [], ◌∷◌, ◌++◌, length, get_or, drop, ℤ, pos, negsuc, nat_abs, decimal, refl, sym, ap, ◌∙◌, append_assoc, arith}
use Rattle.std.specs.Fmt.{signed_decimal}
use Rattle.std.specs.List.{AllByRecursion}
use Rattle.std.proofs.lemmas.Str.Parse.{IsNumeralModel, numerals_by_value, tells_by_index}
use Rattle.std.proofs.lemmas.Fmt.{digits_decimal}
use Rattle.std.specs.Str.Parse.{digits_value}
use Rattle.std.specs.Int.{IsInRange}
use Rattle.common.specs.TextLines.{fields_text}

-- no tab and no line feed
abbrev pub High : List ℕ → Type 0
High f = (i : ℕ) → i < length f → 10 < get_or f i 0

own : IsNumeralModel (λ ds. (i : ℕ) → i < length ds → IsInRange 48 57 (get_or ds i 0)) (digits_value 10)
own = numerals_by_value _ tells_by_index

pub high_decimal : (n : ℕ) → n < 2 ^ 64 → High (decimal n)
high_decimal n h i small = let d = digits_decimal own n h i small in omega arith

pub high_signed : (z : ℤ) → nat_abs z < 2 ^ 63 → High (signed_decimal z)
high_signed (pos n) h i small = high_decimal n (omega arith) i small
high_signed (negsuc n) h zero small = omega arith
high_signed (negsuc n) h (suc i) small = high_decimal (suc n) (omega arith) i (omega arith)

-- a field ends where the first low byte stands
field_back : (f g u v : List ℕ) → High f → High g → get_or u 0 0 ≤ 10 → get_or v 0 0 ≤ 10 → f ++ u ≡ g ++ v → (f ≡ g) × (u ≡ v)
field_back [] [] u v hf hg lu lv e = (refl, e)
field_back [] (y ∷ g) u v hf hg lu lv e = let a : get_or u 0 0 ≡ y = ap (λ l. get_or l 0 0) e in let b : 10 < y = hg 0 (omega arith) in absurd (let z : ⊥ = omega arith in z)
field_back (x ∷ f) [] u v hf hg lu lv e = let a : x ≡ get_or v 0 0 = ap (λ l. get_or l 0 0) e in let b : 10 < x = hf 0 (omega arith) in absurd (let z : ⊥ = omega arith in z)
field_back (x ∷ f) (y ∷ g) u v hf hg lu lv e =
    let a : x ≡ y = ap (λ l. get_or l 0 0) e in
    let more = field_back f g u v (λ i h. hf (suc i) (omega arith)) (λ i h. hg (suc i) (omega arith)) lu lv (ap (drop 1) e) in
    (ap (λ z. z ∷ f) a ∙ ap (λ l. y ∷ l) more.0, more.1)

fields_low : (fs : List (List ℕ)) (r : List ℕ) → get_or (fields_text fs ++ r) 0 0 ≤ 10
fields_low [] r = omega arith
fields_low (f ∷ fs) r = omega arith

pub fields_back : (fs gs : List (List ℕ)) (r t : List ℕ) → AllByRecursion High fs → AllByRecursion High gs → fields_text fs ++ r ≡ fields_text gs ++ t → (fs ≡ gs) × (r ≡ t)
fields_back [] [] r t hf hg e = (refl, ap (drop 1) e)
fields_back [] (g ∷ gs) r t hf hg e = let a : ◌≡◌ {A = ℕ} 10 9 = ap (λ l. get_or l 0 0) e in absurd (let z : ⊥ = omega arith in z)
fields_back (f ∷ fs) [] r t hf hg e = let a : ◌≡◌ {A = ℕ} 9 10 = ap (λ l. get_or l 0 0) e in absurd (let z : ⊥ = omega arith in z)
fields_back (f ∷ fs) (g ∷ gs) r t hf hg e =
    let d : (f ++ fields_text fs) ++ r ≡ (g ++ fields_text gs) ++ t = ap (drop 1) e in
    let one = field_back f g (fields_text fs ++ r) (fields_text gs ++ t) hf.0 hg.0 (fields_low fs r) (fields_low gs t) (sym (append_assoc f (fields_text fs) r) ∙ d ∙ append_assoc g (fields_text gs) t) in
    let more = fields_back fs gs r t hf.1 hg.1 one.1 in
    (ap (λ z. z ∷ fs) one.0 ∙ ap (λ l. g ∷ l) more.0, more.1)
