-- TheTextSaysEverything: the text of a count is the lines of its figures, slips and scores.
use Rattle.std.proofs.Common.{◌≡◌, ℕ, zero, suc, ◌+◌, Bool, true, false, cond, not, eqb, List, [], ◌∷◌, ◌++◌, length, get_or, ℤ, pos, nat_abs, refl, sym, ap, ◌∙◌, arith}
use Rattle.std.specs.Prelude.{codes}
use Rattle.house_rules.proofs.Statements.ReadBack.{read_back, score_tells}
use Rattle.std.specs.List.{filter, flat_map, range_with_len}
use Rattle.common.specs.TextLines.{text_line, score_line, score_lines, unless_zero}
use Rattle.sections.specs.Rule.{figure_at}
use Rattle.house_rules.specs.declared.slip.Slip.{Slip}
use Rattle.house_rules.specs.Calls.CountText.{score, sheet_line, sheet_lines, record_lines, slip_line, slip_lines}
use Rattle.house_rules.specs.Theorem.Text.{sheet_of, sheet_told, EachHasItsLine, TheTextSaysEverything}

-- one line at the front
one_more : (line_of : ℕ → List ℕ) (g : ℕ → ℤ) (n k : ℕ) →
    unless_zero (g k) (line_of k) ++ flat_map line_of (filter (λ l. not (eqb (nat_abs (g l)) 0)) (range_with_len (k + 1) n))
    ≡ flat_map line_of (filter (λ l. not (eqb (nat_abs (g l)) 0)) (range_with_len k (suc n)))
one_more line_of g n k = go (eqb (nat_abs (g k)) 0) refl
  where
    go : (b : Bool) → eqb (nat_abs (g k)) 0 ≡ b →
        cond b [] (line_of k) ++ flat_map line_of (filter (λ l. not (eqb (nat_abs (g l)) 0)) (range_with_len (k + 1) n))
        ≡ flat_map line_of (cond (not b) (k ∷ filter (λ l. not (eqb (nat_abs (g l)) 0)) (range_with_len (k + 1) n)) (filter (λ l. not (eqb (nat_abs (g l)) 0)) (range_with_len (k + 1) n)))
    go true e = refl
    go false e = refl

scores_are : (n k : ℕ) (g : ℕ → ℤ) → score_lines n k g ≡ flat_map (λ l. score_line l (g l)) (filter (λ l. not (eqb (nat_abs (g l)) 0)) (range_with_len k n))
unfolding score_lines
scores_are zero k g = refl
scores_are (suc n) k g = ap (λ t. unless_zero (g k) (score_line k (g k)) ++ t) (scores_are n (k + 1) g) ∙ one_more (λ l. score_line l (g l)) g n k

-- the figures of a sheet, numbered from line k on
sheet_is : (station k : ℕ) (xs : List ℤ) (g : ℕ → ℤ) → ((i : ℕ) → g (k + i) ≡ get_or xs i (pos 0)) →
    sheet_lines station k xs ≡ flat_map (λ l. sheet_line station l (g l)) (filter (λ l. not (eqb (nat_abs (g l)) 0)) (range_with_len k (length xs)))
unfolding sheet_lines
sheet_is station k [] g same = refl
sheet_is station k (x ∷ xs) g same =
    let e : g k ≡ x = ap g (let z : k ≡ k + 0 = omega arith in z) ∙ same 0 in
    let later : (i : ℕ) → g (k + 1 + i) ≡ get_or xs i (pos 0) = λ i. ap g (let z : k + 1 + i ≡ k + suc i = omega arith in z) ∙ same (suc i) in
    ap (λ t. unless_zero x (sheet_line station k x) ++ t) (sheet_is station (k + 1) xs g later)
    ∙ ap (λ y. unless_zero y (sheet_line station k y) ++ flat_map (λ l. sheet_line station l (g l)) (filter (λ l. not (eqb (nat_abs (g l)) 0)) (range_with_len (k + 1) (length xs)))) (sym e)
    ∙ one_more (λ l. sheet_line station l (g l)) g (length xs) k

from_0 : (i : ℕ) → 0 + i ≡ i
from_0 i = omega arith

record_is : (k : ℕ) (fs : List (List ℤ)) (h : ℕ → List ℤ) → ((i : ℕ) → h (k + i) ≡ get_or fs i []) →
    record_lines k fs ≡ flat_map (λ s. sheet_told s (h s)) (range_with_len k (length fs))
unfolding record_lines
record_is k [] h same = refl
record_is k (f ∷ fs) h same =
    let e : h k ≡ f = ap h (let z : k ≡ k + 0 = omega arith in z) ∙ same 0 in
    let later : (i : ℕ) → h (k + 1 + i) ≡ get_or fs i [] = λ i. ap h (let z : k + 1 + i ≡ k + suc i = omega arith in z) ∙ same (suc i) in
    ap (λ t. sheet_lines k 0 f ++ t) (record_is (k + 1) fs h later)
    ∙ ap (λ t. t ++ flat_map (λ s. sheet_told s (h s)) (range_with_len (k + 1) (length fs))) (sheet_is k 0 f (figure_at f) (λ i. ap (figure_at f) (from_0 i)) ∙ ap (λ y. sheet_told k y) (sym e))

slips_are : (late : List Slip) → slip_lines late ≡ flat_map slip_line late
unfolding slip_lines
slips_are [] = refl
slips_are (x ∷ xs) = ap (λ t. slip_line x ++ t) (slips_are xs)

abbrev end : List ℕ
end = text_line (codes "end") []

lines : EachHasItsLine
lines recorded late =
    ap (λ t. t ++ (slip_lines late ++ (score_lines 32 0 (score recorded late) ++ end))) (record_is 0 recorded (sheet_of recorded) (λ i. ap (sheet_of recorded) (from_0 i)))
    ∙ ap (λ t. flat_map (λ s. sheet_told s (sheet_of recorded s)) (range_with_len 0 (length recorded)) ++ (t ++ (score_lines 32 0 (score recorded late) ++ end))) (slips_are late)
    ∙ ap (λ t. flat_map (λ s. sheet_told s (sheet_of recorded s)) (range_with_len 0 (length recorded)) ++ (flat_map slip_line late ++ (t ++ end))) (scores_are 32 0 (score recorded late))

pub the_text_says_everything : TheTextSaysEverything
the_text_says_everything = record { lines = lines; read_back = read_back; scores = score_tells }
