-- Gains that reach two lines are two changes of figures.
use Rattle.std.proofs.Common.{◌≡◌, ℕ, zero, suc, ◌+◌, ◌<◌, Bool, true, false, eqb, ◌≢◌, List, [], ◌∷◌, length, set, ℤ, pos, ◌+ℤ◌, sym, refl, ap, ◌∙◌, arith}
use Rattle.common.specs.Limits.{line_count}
use Rattle.std.proofs.lemmas.Int.{ints}
use Rattle.std.proofs.lemmas.Bool.Decides.{nat_tests}
use Rattle.std.proofs.lemmas.List.{length-set, get_or-set_same, get_or-set_other, ext_get_or}
use Rattle.sections.specs.Rule.{gained_from, entered, figure_at, good_lines}
use Rattle.sections.specs.Pairs.{pair_gain}

length-gained : (k : ℕ) (gain : ℕ → ℤ) (f : List ℤ) → length (gained_from k gain f) ≡ length f
length-gained k gain [] = refl
length-gained k gain (x ∷ xs) = ap suc (length-gained (k + 1) gain xs)

gained_at : (k : ℕ) (gain : ℕ → ℤ) (f : List ℤ) (i j : ℕ) → i < length f → k + i ≡ j → figure_at (gained_from k gain f) i ≡ figure_at f i +ℤ gain j
gained_at k gain [] i j h e = absurd (omega arith)
gained_at k gain (x ∷ xs) zero j h e = ap (λ l. x +ℤ gain l) (omega arith)
gained_at k gain (x ∷ xs) (suc i) j h e = gained_at (k + 1) gain xs i j (omega arith) (omega arith)

pub length-entered : (f : List ℤ) (gain : ℕ → ℤ) → length (entered f gain) ≡ length f
length-entered f gain = length-gained 0 gain f

pub figure_entered : (f : List ℤ) (gain : ℕ → ℤ) (line : ℕ) → line < length f → figure_at (entered f gain) line ≡ figure_at f line +ℤ gain line
figure_entered f gain line h = gained_at 0 gain f line line h (omega arith)

lines_apart : (a b : ℕ) → good_lines a b ≡ true → (a < line_count) × (b < line_count) × (a ≢ b)
lines_apart a b h = (grind (arith, nat_tests), grind (arith, nat_tests), λ e. grind (arith, nat_tests))

pair_at : (f : List ℤ) (a b : ℕ) (x y : ℤ) (i : ℕ) → (a < line_count) × (b < line_count) × (a ≢ b) → i < length f → length f ≡ line_count → figure_at f i +ℤ pair_gain a b x y i ≡ figure_at (set (set f a (figure_at f a +ℤ x)) b (figure_at f b +ℤ y)) i
pair_at f a b x y i apart h wide = go (eqb i a) refl (eqb i b) refl
  where
    go : (t : Bool) → eqb i a ≡ t → (u : Bool) → eqb i b ≡ u → figure_at f i +ℤ pair_gain a b x y i ≡ figure_at (set (set f a (figure_at f a +ℤ x)) b (figure_at f b +ℤ y)) i
    go true p true q = absurd (apart.2 (grind (arith, nat_tests)))
    go true p false q =
        let e : i ≡ a = grind (arith, nat_tests) in
        let n : a ≢ b = apart.2 in
        let in-a : a < length f = omega arith in
        rw (p, e, get_or-set_other, get_or-set_same)
    go false p true q =
        let e : i ≡ b = grind (arith, nat_tests) in
        let in_b : b < length (set f a (figure_at f a +ℤ x)) = simp length-set (omega arith) in
        rw (p, q, e, get_or-set_same)
    go false p false q =
        let n : i ≢ a = λ e. grind (arith, nat_tests) in
        let m : i ≢ b = λ e. grind (arith, nat_tests) in
        rw (p, q, get_or-set_other, get_or-set_other) (omega (arith, ints))

entered_pair : (f : List ℤ) (a b : ℕ) (x y : ℤ) → good_lines a b ≡ true → length f ≡ line_count → entered f (pair_gain a b x y) ≡ set (set f a (figure_at f a +ℤ x)) b (figure_at f b +ℤ y)
entered_pair f a b x y good wide =
    ext_get_or (pos 0) (entered f (pair_gain a b x y)) (set (set f a (figure_at f a +ℤ x)) b (figure_at f b +ℤ y)) (length-entered f (pair_gain a b x y) ∙ sym (simp length-set)) at
  where
    apart : (a < line_count) × (b < line_count) × (a ≢ b)
    apart = lines_apart a b good

    at : (i : ℕ) → i < length (entered f (pair_gain a b x y)) → figure_at (entered f (pair_gain a b x y)) i ≡ figure_at (set (set f a (figure_at f a +ℤ x)) b (figure_at f b +ℤ y)) i
    at i h =
        let wide' : i < length f = rw length-entered at h in
        figure_entered f (pair_gain a b x y) i wide' ∙ pair_at f a b x y i apart wide' (omega arith)

-- the second of two lines has its old figure after the first has changed
pub second_kept : (f g : List ℤ) (a b : ℕ) (u : ℤ) → good_lines a b ≡ true → g ≡ set f a u → figure_at g b ≡ figure_at f b
second_kept f g a b u good p =
    let n : b ≢ a = λ e. (lines_apart a b good).2 (sym e) in
    rw (p, get_or-set_other)

-- two changes, one after the other, are the gains of a pair
pub pair_of_adds : (f g h : List ℤ) (a b : ℕ) (x y : ℤ) → good_lines a b ≡ true → length f ≡ line_count → g ≡ set f a (figure_at f a +ℤ x) → h ≡ set g b (figure_at g b +ℤ y) → h ≡ entered f (pair_gain a b x y)
pair_of_adds f g h a b x y good wide p q =
    q ∙ (rw (second_kept f g a b (figure_at f a +ℤ x) good p) (ap (λ l. set l b (figure_at f b +ℤ y)) p) ∙ sym (entered_pair f a b x y good wide))
