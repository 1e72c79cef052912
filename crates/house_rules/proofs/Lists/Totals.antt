-- Sums over the stations, counts of slips, and the sum that reaches the root; for the deficits and for MessagesAreFew.
use Rattle.std.proofs.Common.{◌≡◌, ℕ, zero, suc, ◌+◌, ◌*◌, ◌<◌, ◌≤◌, Bool, true, false, cond, not, eqb, List, [], ◌∷◌, ◌++◌, ℤ, pos, ◌+ℤ◌, Some, None, refl, ap, ◌∙◌, arith}
use Rattle.std.proofs.lemmas.Int.{ints}
use Rattle.std.proofs.lemmas.Bool.{eqb-true, eqb-false}
use Rattle.std.specs.List.{AllByRecursion}
use Rattle.house_rules.specs.declared.slip.ColouredSlip.{ColouredSlip}
use Rattle.house_rules.specs.declared.slip.Slip.{Slip}
use Rattle.house_rules.specs.Theorem.Cut.{put}
use Rattle.house_rules.specs.State.Names.{same_name, named, find, without_coloured, slips_of}
use Rattle.house_rules.proofs.Lists.Slips.{same_name_true}
use Rattle.house_rules.proofs.Lists.Puts.{put_other}

-- over stations 0 to n - 1
abbrev pub sum_z : (ℕ → ℤ) → ℕ → ℤ
sum_z f zero = pos 0
sum_z f (suc k) = sum_z f k +ℤ f k

abbrev pub sum_n : (ℕ → ℕ) → ℕ → ℕ
sum_n f zero = 0
sum_n f (suc k) = sum_n f k + f k

pub sum_z_same : (f g : ℕ → ℤ) (n : ℕ) → ((k : ℕ) → k < n → f k ≡ g k) → sum_z f n ≡ sum_z g n
sum_z_same f g zero h = refl
sum_z_same f g (suc k) h = let ih = sum_z_same f g k (λ j l. h j (omega arith)) in let e = h k (omega arith) in cc

pub sum_n_same : (f g : ℕ → ℕ) (n : ℕ) → ((k : ℕ) → k < n → f k ≡ g k) → sum_n f n ≡ sum_n g n
sum_n_same f g zero h = refl
sum_n_same f g (suc k) h = let ih = sum_n_same f g k (λ j l. h j (omega arith)) in let e = h k (omega arith) in cc

pub sum_z_past : (f : ℕ → ℤ) (s : ℕ) (v : ℤ) (n : ℕ) → n ≤ s → sum_z (put f s v) n ≡ sum_z f n
sum_z_past f s v n h = sum_z_same (put f s v) f n (λ k l. put_other f s k v (omega arith))

pub sum_n_past : (f : ℕ → ℕ) (s : ℕ) (v : ℕ) (n : ℕ) → n ≤ s → sum_n (put f s v) n ≡ sum_n f n
sum_n_past f s v n h = sum_n_same (put f s v) f n (λ k l. put_other f s k v (omega arith))

pub sum_z_put : (f : ℕ → ℤ) (s : ℕ) (v : ℤ) (n : ℕ) → s < n → sum_z (put f s v) n +ℤ f s ≡ sum_z f n +ℤ v
sum_z_put f s v zero h = absurd (omega arith)
sum_z_put f s v (suc k) h = go (eqb k s) refl (λ l. sum_z_put f s v k l)
  where
    go : (b : Bool) → eqb k s ≡ b → (s < k → sum_z (put f s v) k +ℤ f s ≡ sum_z f k +ℤ v) → (sum_z (put f s v) k +ℤ put f s v k) +ℤ f s ≡ (sum_z f k +ℤ f k) +ℤ v
    go true e ih =
        let q = eqb-true k s e in
        let p = sum_z_past f s v k (omega arith) in
        rw (p, e, q) (omega (arith, ints))
    go false e ih =
        let q = eqb-false k s e in
        let i = ih (omega arith) in
        rw e (omega (arith, ints))

pub sum_n_put : (f : ℕ → ℕ) (s : ℕ) (v : ℕ) (n : ℕ) → s < n → sum_n (put f s v) n + f s ≡ sum_n f n + v
sum_n_put f s v zero h = absurd (omega arith)
sum_n_put f s v (suc k) h = go (eqb k s) refl (λ l. sum_n_put f s v k l)
  where
    go : (b : Bool) → eqb k s ≡ b → (s < k → sum_n (put f s v) k + f s ≡ sum_n f k + v) → (sum_n (put f s v) k + put f s v k) + f s ≡ (sum_n f k + f k) + v
    go true e ih =
        let q = eqb-true k s e in
        let p = sum_n_past f s v k (omega arith) in
        rw (p, e, q) (omega arith)
    go false e ih =
        let q = eqb-false k s e in
        let i = ih (omega arith) in
        rw e (omega arith)

pub sum_n_zero : (f : ℕ → ℕ) (n : ℕ) → sum_n f n ≡ 0 → (k : ℕ) → k < n → f k ≡ 0
sum_n_zero f zero e k l = absurd (omega arith)
sum_n_zero f (suc m) e k l = go (eqb k m) refl (sum_n_zero f m (omega arith))
  where
    go : (b : Bool) → eqb k m ≡ b → ((k : ℕ) → k < m → f k ≡ 0) → f k ≡ 0
    go true t ih = rw (eqb-true k m t) (omega arith)
    go false t ih = let q = eqb-false k m t in ih k (omega arith)

pub sum_n_le : (f : ℕ → ℕ) (n s : ℕ) → s < n → f s ≤ sum_n f n
sum_n_le f zero s l = absurd (omega arith)
sum_n_le f (suc m) s l = go (eqb s m) refl (λ k. sum_n_le f m s k)
  where
    go : (b : Bool) → eqb s m ≡ b → (s < m → f s ≤ sum_n f m) → f s ≤ sum_n f m + f m
    go true t ih = rw (eqb-true s m t) (omega arith)
    go false t ih = let q = eqb-false s m t in let i = ih (omega arith) in omega arith

pub sum_n_none : (f : ℕ → ℕ) (n : ℕ) → ((k : ℕ) → k < n → f k ≡ 0) → sum_n f n ≡ 0
sum_n_none f zero h = refl
sum_n_none f (suc k) h = let ih = sum_n_none f k (λ j l. h j (omega arith)) in let e = h k (omega arith) in omega arith

pub sum_z_none : (f : ℕ → ℤ) (n : ℕ) → ((k : ℕ) → k < n → f k ≡ pos 0) → sum_z f n ≡ pos 0
sum_z_none f zero h = refl
sum_z_none f (suc k) h = let ih = sum_z_none f k (λ j l. h j (omega arith)) in let e = h k (omega arith) in omega (arith, ints)

-- How many slips have names that pass

abbrev pub count : (ℕ → ℕ → Bool) → List ColouredSlip → ℕ
count p [] = 0
count p (x ∷ xs) = cond (p x.slip.sender x.slip.number) 1 0 + count p xs

pub count_push : (p : ℕ → ℕ → Bool) (xs : List ColouredSlip) (x : ColouredSlip) → count p (xs ++ x ∷ []) ≡ count p xs + cond (p x.slip.sender x.slip.number) 1 0
count_push p [] x = omega arith
count_push p (y ∷ ys) x = let ih = count_push p ys x in omega arith

pub count_agree : (p q : ℕ → ℕ → Bool) (a b : ℕ) (xs : List ColouredSlip) → ((x y : ℕ) → same_name a b x y ≡ false → p x y ≡ q x y) → find a b (slips_of xs) ≡ None → count p xs ≡ count q xs
count_agree p q a b [] h e = refl
count_agree p q a b (x ∷ xs) h e =
    let k : same_name a b x.slip.sender x.slip.number ≡ false = grind arith in
    let f : find a b (slips_of xs) ≡ None = grind arith in
    let ih = count_agree p q a b xs h f in
    let g = h x.slip.sender x.slip.number k in
    cc

pub count_less : (p : ℕ → ℕ → Bool) (a b : ℕ) (x : Slip) (xs : List ColouredSlip) → find a b (slips_of xs) ≡ Some x → count p xs ≡ count p (without_coloured a b xs) + cond (p a b) 1 0
count_less p a b x [] e = let z : ◌≡◌ {A = ℕ} 0 1 = cc in absurd (omega arith)
count_less p a b x (y ∷ ys) e = go (named a b y.slip) refl (count_less p a b x ys)
  where
    go : (t : Bool) → named a b y.slip ≡ t → (find a b (slips_of ys) ≡ Some x → count p ys ≡ count p (without_coloured a b ys) + cond (p a b) 1 0) → cond (p y.slip.sender y.slip.number) 1 0 + count p ys ≡ count p (cond (named a b y.slip) ys (y ∷ without_coloured a b ys)) + cond (p a b) 1 0
    go true t ih = let q = same_name_true a b y.slip.sender y.slip.number t in rw (t, q.0, q.1) (omega arith)
    go false t ih = let i = ih (cc) in rw t (omega arith)

pub count_both : (p : ℕ → ℕ → Bool) (xs : List ColouredSlip) → count p xs + count (λ a b. not (p a b)) xs ≡ count (λ a b. true) xs
count_both p [] = refl
count_both p (x ∷ xs) = let ih = count_both p xs in go (p x.slip.sender x.slip.number) ih
  where
    go : (t : Bool) → count p xs + count (λ a b. not (p a b)) xs ≡ count (λ a b. true) xs → (cond t 1 0 + count p xs) + (cond (not t) 1 0 + count (λ a b. not (p a b)) xs) ≡ 1 + count (λ a b. true) xs
    go true ih = omega arith
    go false ih = omega arith

pub count_zero : (p : ℕ → ℕ → Bool) (xs : List ColouredSlip) → count p xs ≡ 0 → AllByRecursion (λ (x : ColouredSlip). p x.slip.sender x.slip.number ≡ false) xs
count_zero p [] e = tt
count_zero p (x ∷ xs) e = (go (p x.slip.sender x.slip.number) refl, count_zero p xs (omega arith))
  where
    go : (t : Bool) → p x.slip.sender x.slip.number ≡ t → t ≡ false
    go false t = refl
    go true t = let k : ◌≡◌ {A = ℕ} (cond (p x.slip.sender x.slip.number) 1 0) 1 = rw t in absurd (omega arith)

pub count_none : (p : ℕ → ℕ → Bool) (xs : List ColouredSlip) → AllByRecursion (λ (x : ColouredSlip). p x.slip.sender x.slip.number ≡ false) xs → count p xs ≡ 0
count_none p [] h = refl
count_none p (x ∷ xs) h = let ih = count_none p xs h.1 in rw h.0 (omega arith)

-- The sum that reaches the root

module _ (n : ℕ) (F : ℕ → ℤ) (S : ℕ → ℤ) (inner : (i : ℕ) → i < n → S i ≡ F i +ℤ (S (2 * i + 1) +ℤ S (2 * i + 2))) (outer : (i : ℕ) → n ≤ i → S i ≡ pos 0) where
  run_first : (k m : ℕ) → sum_z (λ j. S (k + j)) (suc m) ≡ S k +ℤ sum_z (λ j. S (suc k + j)) m
  run_first k zero = let e : k + 0 ≡ k = omega arith in ap (λ i. pos 0 +ℤ S i) e ∙ omega (arith, ints)
  run_first k (suc m) =
      let ih = run_first k m in
      let e : S (k + suc m) ≡ S (suc k + m) = ap S (omega arith) in
      omega (arith, ints)

  -- stations k to 2k have all the others from k on below them
  layers : (k : ℕ) → k ≤ n → sum_z F k +ℤ sum_z (λ j. S (k + j)) (suc k) ≡ S 0
  layers zero l = let e : S (0 + 0) ≡ S 0 = ap S (omega arith) in omega (arith, ints)
  layers (suc k) l =
      let ih = layers k (omega arith) in
      let a = run_first k k in
      let b = inner k (omega arith) in
      let c : S (suc k + k) ≡ S (2 * k + 1) = ap S (omega arith) in
      let d : S (suc k + suc k) ≡ S (2 * k + 2) = ap S (omega arith) in
      omega (arith, ints)

  pub whole : S 0 ≡ sum_z F n
  whole =
      let l = layers n (omega arith) in
      let z = sum_z_none (λ j. S (n + j)) (suc n) (λ k h. outer (n + k) (omega arith)) in
      omega (arith, ints)
