-- The text of a count is read back: its lines tell the record and the late slips.
use Rattle.std.proofs.Common.{◌≡◌, ◌≢◌, ℕ, zero, suc, ◌+◌, ◌^◌, ◌<◌, ◌≤◌, Bool, true, false, cond, eqb, List, [], ◌∷◌, ◌++◌, length, get_or, drop, ℤ, pos, negsuc, nat_abs, refl, sym, ap, ◌∙◌, append_assoc, decimal, arith}
use lib.Signed.{mag}
use Rattle.std.specs.Prelude.{codes}
use Rattle.std.specs.Fmt.{signed_decimal}
use Rattle.std.specs.List.{AllByRecursion}
use Rattle.std.proofs.lemmas.Bool.Decides.{nat_tests}
use Rattle.std.proofs.lemmas.Fmt.{decimal_injective, signed_decimal_injective}
use Rattle.common.specs.TextLines.{text_line, score_line, score_lines}
use Rattle.house_rules.specs.declared.slip.Slip.{Slip}
use Rattle.house_rules.specs.Calls.CountText.{score, sheet_line, sheet_lines, record_lines, slip_line, slip_lines}
use Rattle.house_rules.specs.Theorem.Text.{FigureFits, SheetFits, SlipFits, IsReadBack, ScoreLineTells}
use Rattle.house_rules.proofs.Lists.TextLines.{High, high_decimal, high_signed, fields_back}

small_enough : (x : ℤ) → nat_abs x ≤ 2 ^ 31 → nat_abs x < 2 ^ 63
small_enough x h = omega arith

small_mag : (x : ℤ) → nat_abs x ≤ 2 ^ 31 → mag x < 2 ^ 63
small_mag (pos n) h = omega arith
small_mag (negsuc n) h = omega arith

record SheetTold (s k s' k' : ℕ) (x x' : ℤ) (r r' : List ℕ) : Type 0 where
  station : s ≡ s'
  line : k ≡ k'
  figure : x ≡ x'
  rest : r ≡ r'

sheet_back : (s k s' k' : ℕ) (x x' : ℤ) (r r' : List ℕ) → s < 2 ^ 64 → k < 2 ^ 64 → s' < 2 ^ 64 → k' < 2 ^ 64 → FigureFits x → FigureFits x' →
    sheet_line s k x ++ r ≡ sheet_line s' k' x' ++ r' → SheetTold s k s' k' x x' r r'
sheet_back s k s' k' x x' r r' hs hk hs' hk' hx hx' e =
    let b = fields_back (decimal s ∷ decimal k ∷ signed_decimal x ∷ []) (decimal s' ∷ decimal k' ∷ signed_decimal x' ∷ []) r r'
    (high_decimal s hs, (high_decimal k hk, (high_signed x (small_enough x hx), tt)))
    (high_decimal s' hs', (high_decimal k' hk', (high_signed x' (small_enough x' hx'), tt)))
    (ap (drop 5) e) in
    record {
      station = decimal_injective s s' hs hs' (ap (λ l. get_or l 0 []) b.0);
      line = decimal_injective k k' hk hk' (ap (λ l. get_or l 1 []) b.0);
      figure = signed_decimal_injective x x' (small_mag x hx) (small_mag x' hx') (ap (λ l. get_or l 2 []) b.0);
      rest = b.1;
    }

-- t does not begin with a sheet line of that station and line
abbrev pub NotYet : (s k : ℕ) → List ℕ → Type 0
NotYet s k t = (y : ℤ) (r : List ℕ) → FigureFits y → t ≢ sheet_line s k y ++ r

pub sheet_not_yet : (s k s' k' : ℕ) (xs : List ℤ) (t : List ℕ) → s < 2 ^ 64 → k < 2 ^ 64 → s' < 2 ^ 64 → k' + length xs ≤ 2 ^ 64 → (s ≡ s' → k < k') →
    AllByRecursion FigureFits xs → NotYet s k t → NotYet s k (sheet_lines s' k' xs ++ t)
unfolding sheet_lines
sheet_not_yet s k s' k' [] t hs hk hs' hk' later small none = none
sheet_not_yet s k s' k' (x ∷ xs) t hs hk hs' hk' later small none =
    go (eqb (nat_abs x) 0) (sheet_not_yet s k s' (k' + 1) xs t hs hk hs' (omega arith) (λ e. let z = later e in omega arith) small.1 none)
  where
    go : (b : Bool) → NotYet s k (sheet_lines s' (k' + 1) xs ++ t) → NotYet s k ((cond b [] (sheet_line s' k' x) ++ sheet_lines s' (k' + 1) xs) ++ t)
    go true more = more
    go false more = λ y r hy e.
        let b = sheet_back s' k' s k x y (sheet_lines s' (k' + 1) xs ++ t) r hs' (omega arith) hs hk small.0 hy (sym (append_assoc (sheet_line s' k' x) (sheet_lines s' (k' + 1) xs) t) ∙ e) in
        let z = later (sym b.station) in
        let w = b.line in
        omega arith

zero_at : (n : ℕ) → eqb n 0 ≡ true → n ≡ 0
zero_at n e = grind (arith, nat_tests)

zero_figure : (x : ℤ) → eqb (nat_abs x) 0 ≡ true → x ≡ pos 0
zero_figure (pos n) e = ap pos (zero_at n e)
zero_figure (negsuc n) e = let z = zero_at (suc n) e in absurd (let w : ⊥ = omega arith in w)

pub record Both {X Y : Type 0} (a b : X) (c d : Y) : Type 0 where
  pub first : a ≡ b
  pub second : c ≡ d

sheet_same : (s k : ℕ) (xs ys : List ℤ) (t u : List ℕ) → s < 2 ^ 64 → k + length xs ≤ 2 ^ 63 → length xs ≡ length ys → AllByRecursion FigureFits xs → AllByRecursion FigureFits ys →
    ((j : ℕ) → j < 2 ^ 64 → NotYet s j t) → ((j : ℕ) → j < 2 ^ 64 → NotYet s j u) → sheet_lines s k xs ++ t ≡ sheet_lines s k ys ++ u → Both xs ys t u
unfolding sheet_lines
sheet_same s k [] [] t u hs hk same hx hy nt nu e = record { first = refl; second = e }
sheet_same s k [] (y ∷ ys) t u hs hk same hx hy nt nu e = absurd (let z : ⊥ = omega arith in z)
sheet_same s k (x ∷ xs) [] t u hs hk same hx hy nt nu e = absurd (let z : ⊥ = omega arith in z)
sheet_same s k (x ∷ xs) (y ∷ ys) t u hs hk same hx hy nt nu e =
    go (eqb (nat_abs x) 0) (eqb (nat_abs y) 0) refl refl (λ d. sheet_same s (k + 1) xs ys t u hs (omega arith) (omega arith) hx.1 hy.1 nt nu d) e
  where
    go : (b c : Bool) → eqb (nat_abs x) 0 ≡ b → eqb (nat_abs y) 0 ≡ c → (sheet_lines s (k + 1) xs ++ t ≡ sheet_lines s (k + 1) ys ++ u → Both xs ys t u) →
        (cond b [] (sheet_line s k x) ++ sheet_lines s (k + 1) xs) ++ t ≡ (cond c [] (sheet_line s k y) ++ sheet_lines s (k + 1) ys) ++ u → Both (x ∷ xs) (y ∷ ys) t u
    go true true hb hc more d =
        let m = more d in
        record { first = ap (λ z. z ∷ xs) (zero_figure x hb ∙ sym (zero_figure y hc)) ∙ ap (λ l. y ∷ l) m.first; second = m.second }
    go true false hb hc more d =
        absurd (sheet_not_yet s k s (k + 1) xs t hs (omega arith) hs (omega arith) (λ z. omega arith) hx.1 (nt k (omega arith)) y (sheet_lines s (k + 1) ys ++ u) hy.0
        (d ∙ append_assoc (sheet_line s k y) (sheet_lines s (k + 1) ys) u))
    go false true hb hc more d =
        absurd (sheet_not_yet s k s (k + 1) ys u hs (omega arith) hs (omega arith) (λ z. omega arith) hy.1 (nu k (omega arith)) x (sheet_lines s (k + 1) xs ++ t) hx.0
        (sym d ∙ append_assoc (sheet_line s k x) (sheet_lines s (k + 1) xs) t))
    go false false hb hc more d =
        let b = sheet_back s k s k x y (sheet_lines s (k + 1) xs ++ t) (sheet_lines s (k + 1) ys ++ u) hs (omega arith) hs (omega arith) hx.0 hy.0
        (sym (append_assoc (sheet_line s k x) (sheet_lines s (k + 1) xs) t) ∙ d ∙ append_assoc (sheet_line s k y) (sheet_lines s (k + 1) ys) u) in
        let m = more b.rest in
        record { first = ap (λ z. z ∷ xs) b.figure ∙ ap (λ l. y ∷ l) m.first; second = m.second }

record_not_yet : (s k s' : ℕ) (fs : List (List ℤ)) (t : List ℕ) → s < 2 ^ 64 → k < 2 ^ 64 → s < s' → s' + length fs ≤ 2 ^ 63 → AllByRecursion SheetFits fs →
    NotYet s k t → NotYet s k (record_lines s' fs ++ t)
unfolding record_lines
record_not_yet s k s' [] t hs hk less fit fits none = none
record_not_yet s k s' (f ∷ fs) t hs hk less fit fits none =
    let more = record_not_yet s k (s' + 1) fs t hs hk (omega arith) (omega arith) fits.1 none in
    let whole = sheet_not_yet s k s' 0 f (record_lines (s' + 1) fs ++ t) hs hk (omega arith) (let z = fits.0.lines in omega arith) (λ z. omega arith) fits.0.figures more in
    λ y r hy e. whole y r hy (sym (append_assoc (sheet_lines s' 0 f) (record_lines (s' + 1) fs) t) ∙ e)

pub record_same : (k : ℕ) (fs gs : List (List ℤ)) (t u : List ℕ) → k + length fs ≤ 2 ^ 63 → length fs ≡ length gs → AllByRecursion SheetFits fs → AllByRecursion SheetFits gs →
    ((s j : ℕ) → NotYet s j t) → ((s j : ℕ) → NotYet s j u) → record_lines k fs ++ t ≡ record_lines k gs ++ u → Both fs gs t u
unfolding record_lines
record_same k [] [] t u hk same hf hg nt nu e = record { first = refl; second = e }
record_same k [] (g ∷ gs) t u hk same hf hg nt nu e = absurd (let z : ⊥ = omega arith in z)
record_same k (f ∷ fs) [] t u hk same hf hg nt nu e = absurd (let z : ⊥ = omega arith in z)
record_same k (f ∷ fs) (g ∷ gs) t u hk same hf hg nt nu e =
    let one = sheet_same k 0 f g (record_lines (k + 1) fs ++ t) (record_lines (k + 1) gs ++ u) (omega arith) (let z = hf.0.lines in omega arith) (hf.0.lines ∙ sym hg.0.lines) hf.0.figures hg.0.figures
    (λ j hj. record_not_yet k j (k + 1) fs t (omega arith) hj (omega arith) (omega arith) hf.1 (nt k j))
    (λ j hj. record_not_yet k j (k + 1) gs u (omega arith) hj (omega arith) (omega arith) hg.1 (nu k j))
    (sym (append_assoc (sheet_lines k 0 f) (record_lines (k + 1) fs) t) ∙ e ∙ append_assoc (sheet_lines k 0 g) (record_lines (k + 1) gs) u) in
    let more = record_same (k + 1) fs gs t u (omega arith) (omega arith) hf.1 hg.1 nt nu one.second in
    record { first = ap (λ z. z ∷ fs) one.first ∙ ap (λ l. g ∷ l) more.first; second = more.second }

-- the second byte of a line tells its kind
abbrev second : List ℕ → ℕ
second t = get_or t 1 0

no_sheet : (t : List ℕ) → second t ≢ 104 → (s j : ℕ) → NotYet s j t
no_sheet t h s j y r hy e = h (ap second e)

same_slip : (x y : Slip) → x.sender ≡ y.sender → x.number ≡ y.number → x.receiver ≡ y.receiver → x.line ≡ y.line → x.amount ≡ y.amount → x ≡ y
same_slip x y a b c d e =
    ap (λ z. record { sender = z; number = x.number; receiver = x.receiver; line = x.line; amount = x.amount }) a
    ∙ ap (λ z. record { sender = y.sender; number = z; receiver = x.receiver; line = x.line; amount = x.amount }) b
    ∙ ap (λ z. record { sender = y.sender; number = y.number; receiver = z; line = x.line; amount = x.amount }) c
    ∙ ap (λ z. record { sender = y.sender; number = y.number; receiver = y.receiver; line = z; amount = x.amount }) d
    ∙ ap (λ z. record { sender = y.sender; number = y.number; receiver = y.receiver; line = y.line; amount = z }) e

abbrev slip_fields : Slip → List (List ℕ)
slip_fields x = decimal x.sender ∷ decimal x.number ∷ decimal x.receiver ∷ decimal x.line ∷ signed_decimal x.amount ∷ []

number_fits : (n : ℕ) → n < 2 ^ 32 → n < 2 ^ 64
number_fits n h = omega arith

slip_high : (x : Slip) → SlipFits x → AllByRecursion High (slip_fields x)
slip_high x h = (high_decimal x.sender h.sender, (high_decimal x.number (number_fits _ h.number), (high_decimal x.receiver h.receiver, (high_decimal x.line (number_fits _ h.line), (high_signed x.amount (small_enough x.amount h.amount), tt)))))

slip_back : (x y : Slip) (t u : List ℕ) → SlipFits x → SlipFits y → slip_line x ++ t ≡ slip_line y ++ u → Both x y t u
slip_back x y t u hx hy e =
    let b = fields_back (slip_fields x) (slip_fields y) t u (slip_high x hx) (slip_high y hy) (ap (drop 4) e) in
    record {
      first = same_slip x y
          (decimal_injective x.sender y.sender hx.sender hy.sender (ap (λ l. get_or l 0 []) b.0))
          (decimal_injective x.number y.number (number_fits _ hx.number) (number_fits _ hy.number) (ap (λ l. get_or l 1 []) b.0))
          (decimal_injective x.receiver y.receiver hx.receiver hy.receiver (ap (λ l. get_or l 2 []) b.0))
          (decimal_injective x.line y.line (number_fits _ hx.line) (number_fits _ hy.line) (ap (λ l. get_or l 3 []) b.0))
          (signed_decimal_injective x.amount y.amount (small_mag x.amount hx.amount) (small_mag y.amount hy.amount) (ap (λ l. get_or l 4 []) b.0));
      second = b.1;
    }

slips_same : (xs ys : List Slip) (t u : List ℕ) → AllByRecursion SlipFits xs → AllByRecursion SlipFits ys → second t ≢ 108 → second u ≢ 108 →
    slip_lines xs ++ t ≡ slip_lines ys ++ u → xs ≡ ys
unfolding slip_lines
slips_same [] [] t u hx hy ht hu e = refl
slips_same [] (y ∷ ys) t u hx hy ht hu e = absurd (ht (ap second e))
slips_same (x ∷ xs) [] t u hx hy ht hu e = absurd (hu (ap second (sym e)))
slips_same (x ∷ xs) (y ∷ ys) t u hx hy ht hu e =
    let b = slip_back x y (slip_lines xs ++ t) (slip_lines ys ++ u) hx.0 hy.0 (sym (append_assoc (slip_line x) (slip_lines xs) t) ∙ e ∙ append_assoc (slip_line y) (slip_lines ys) u) in
    ap (λ z. z ∷ xs) b.first ∙ ap (λ l. y ∷ l) (slips_same xs ys t u hx.1 hy.1 ht hu b.second)

abbrev end : List ℕ
end = text_line (codes "end") []

-- what follows the slips is no sheet line and no slip line
record Other (t : List ℕ) : Type 0 where
  sheet : second t ≢ 104
  slip : second t ≢ 108

scores_other : (n k : ℕ) (g : ℕ → ℤ) → Other (score_lines n k g ++ end)
unfolding score_lines
scores_other zero k g = record { sheet = λ e. (let z : ◌≡◌ {A = ℕ} 110 104 = e in omega arith); slip = λ e. (let z : ◌≡◌ {A = ℕ} 110 108 = e in omega arith) }
scores_other (suc n) k g = go (eqb (nat_abs (g k)) 0) (scores_other n (k + 1) g)
  where
    go : (b : Bool) → Other (score_lines n (k + 1) g ++ end) → Other ((cond b [] (score_line k (g k)) ++ score_lines n (k + 1) g) ++ end)
    go true more = more
    go false more = record { sheet = λ e. (let z : ◌≡◌ {A = ℕ} 99 104 = e in omega arith); slip = λ e. (let z : ◌≡◌ {A = ℕ} 99 108 = e in omega arith) }

slips_no_sheet : (xs : List Slip) (t : List ℕ) → second t ≢ 104 → second (slip_lines xs ++ t) ≢ 104
unfolding slip_lines
slips_no_sheet [] t h e = h e
slips_no_sheet (x ∷ xs) t h e = let z : ◌≡◌ {A = ℕ} 108 104 = e in omega arith

pub read_back : IsReadBack
read_back n fs gs xs ys hn hf hg e =
    let p = scores_other 32 0 (score fs xs) in
    let q = scores_other 32 0 (score gs ys) in
    let r = record_same 0 fs gs (slip_lines xs ++ (score_lines 32 0 (score fs xs) ++ end)) (slip_lines ys ++ (score_lines 32 0 (score gs ys) ++ end))
    (let z = hf.stations in omega arith) (hf.stations ∙ sym hg.stations) hf.sheets hg.sheets
    (no_sheet _ (slips_no_sheet xs _ p.sheet)) (no_sheet _ (slips_no_sheet ys _ q.sheet)) e in
    (r.first, slips_same xs ys _ _ hf.slips hg.slips p.slip q.slip r.second)

pub score_tells : ScoreLineTells
score_tells k k' x x' hk hk' hx hx' e =
    let b = fields_back (decimal k ∷ signed_decimal x ∷ []) (decimal k' ∷ signed_decimal x' ∷ []) [] []
    (high_decimal k (omega arith), (high_signed x (small_enough x hx), tt))
    (high_decimal k' (omega arith), (high_signed x' (small_enough x' hx'), tt))
    (ap (λ l. drop 5 l ++ []) e) in
    (decimal_injective k k' (omega arith) (omega arith) (ap (λ l. get_or l 0 []) b.0), signed_decimal_injective x x' (small_mag x hx) (small_mag x' hx') (ap (λ l. get_or l 1 []) b.0))
