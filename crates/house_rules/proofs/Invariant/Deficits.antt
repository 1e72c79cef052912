-- The deficits of an open count against the slips under way and the late ones.
use Rattle.std.proofs.Common.{◌≡◌, ℕ, suc, ◌+◌, ◌-◌, ◌<◌, Bool, true, false, cond, ℤ, pos, ◌+ℤ◌, ◌-ℤ◌, MatchBool, sym, ap, ◌∙◌, arith}
use mathlib.Core.Path.{fun_ext}
use Rattle.std.proofs.lemmas.Int.{ints}
use Rattle.std.proofs.lemmas.Bool.Decides.{nat_tests}
use Rattle.house_rules.specs.Theorem.Cut.{put}
use Rattle.house_rules.proofs.Lists.Totals.{sum_z, sum_n, sum_z_same, sum_z_put, sum_n_put}

-- deficits, frozen where a station has turned and running elsewhere, add up to the old slips under way and the late ones;
-- running ones of stations that have turned add up to the new slips; once the root has gathered, what is outstanding is the old
-- slips under way and the late ones not reported, and until then all late ones are unreported
pub record Balance (n : ℕ) (R F : ℕ → ℤ) (U : ℕ → ℕ) (root : Bool) (outstanding : ℕ) (old new late : ℕ) (turned : ℕ → Bool) : Type 0 where
  pub frozen : sum_z (λ s. cond (turned s) (F s) (R s)) n ≡ pos (old + late)
  pub running : sum_z (λ s. cond (turned s) (R s) (pos 0)) n ≡ pos new
  pub asked : MatchBool root (outstanding ≡ old + sum_n U n) (sum_n U n ≡ late)

module _ (n : ℕ) (R F : ℕ → ℤ) (U : ℕ → ℕ) (root : Bool) (outstanding : ℕ) (old new late : ℕ) (turned : ℕ → Bool) (ba : Balance n R F U root outstanding old new late turned) where
  pub balance_turn : (s : ℕ) → turned s ≡ false → Balance n (put R s (pos 0)) (put F s (R s)) U root outstanding old new late (put turned s true)
  balance_turn s un =
      record {
        frozen = ap (λ f. sum_z f n) (fun_ext (λ t. one t)) ∙ ba.frozen;
        running = ap (λ f. sum_z f n) (fun_ext (λ t. two t)) ∙ ba.running;
        asked = ba.asked;
      }
    where
      one : (t : ℕ) → cond (put turned s true t) (put F s (R s) t) (put R s (pos 0) t) ≡ cond (turned t) (F t) (R t)
      one t = grind (arith, nat_tests)

      two : (t : ℕ) → cond (put turned s true t) (put R s (pos 0) t) (pos 0) ≡ cond (turned t) (R t) (pos 0)
      two t = grind (arith, nat_tests)

  -- the running deficit of a station that has turned, and of one that has not
  moved_turned : (s : ℕ) (v : ℤ) → turned s ≡ true → s < n → (sum_z (λ t. cond (turned t) (F t) (put R s v t)) n ≡ sum_z (λ t. cond (turned t) (F t) (R t)) n) × (sum_z (λ t. cond (turned t) (put R s v t) (pos 0)) n +ℤ R s ≡ sum_z (λ t. cond (turned t) (R t) (pos 0)) n +ℤ v)
  moved_turned s v tu lt = (
    ap (λ f. sum_z f n) (fun_ext (λ t. one t)),
    ap (λ f. sum_z f n +ℤ R s) (fun_ext (λ t. two t)) ∙ (let g = sum_z_put (λ t. cond (turned t) (R t) (pos 0)) s v n lt in rw tu at g),
  )
    where
      one : (t : ℕ) → cond (turned t) (F t) (put R s v t) ≡ cond (turned t) (F t) (R t)
      one t = grind (arith, nat_tests)

      two : (t : ℕ) → cond (turned t) (put R s v t) (pos 0) ≡ put (λ t. cond (turned t) (R t) (pos 0)) s v t
      two t = grind (arith, nat_tests)

  moved_unturned : (s : ℕ) (v : ℤ) → turned s ≡ false → s < n → (sum_z (λ t. cond (turned t) (F t) (put R s v t)) n +ℤ R s ≡ sum_z (λ t. cond (turned t) (F t) (R t)) n +ℤ v) × (sum_z (λ t. cond (turned t) (put R s v t) (pos 0)) n ≡ sum_z (λ t. cond (turned t) (R t) (pos 0)) n)
  moved_unturned s v un lt = (
    ap (λ f. sum_z f n +ℤ R s) (fun_ext (λ t. one t)) ∙ (let g = sum_z_put (λ t. cond (turned t) (F t) (R t)) s v n lt in rw un at g),
    ap (λ f. sum_z f n) (fun_ext (λ t. two t)),
  )
    where
      one : (t : ℕ) → cond (turned t) (F t) (put R s v t) ≡ put (λ t. cond (turned t) (F t) (R t)) s v t
      one t = grind (arith, nat_tests)

      two : (t : ℕ) → cond (turned t) (put R s v t) (pos 0) ≡ cond (turned t) (R t) (pos 0)
      two t = grind (arith, nat_tests)

  pub balance_post_new : (s : ℕ) → turned s ≡ true → s < n → Balance n (put R s (R s +ℤ pos 1)) F U root outstanding old (suc new) late turned
  balance_post_new s tu lt =
      let m = moved_turned s (R s +ℤ pos 1) tu lt in
      let k = ba.running in
      record { frozen = m.0 ∙ ba.frozen; running = omega (arith, ints, m.1); asked = ba.asked }

  pub balance_post_old : (s : ℕ) → turned s ≡ false → s < n → root ≡ false → Balance n (put R s (R s +ℤ pos 1)) F U root outstanding (suc old) new late turned
  balance_post_old s un lt ro =
      let m = moved_unturned s (R s +ℤ pos 1) un lt in
      let k = ba.frozen in
      record { frozen = omega (arith, ints, m.0); running = m.1 ∙ ba.running; asked = rw ro (rw ro at ba.asked) }

  pub balance_take_new : (s k : ℕ) → new ≡ suc k → turned s ≡ true → s < n → Balance n (put R s (R s -ℤ pos 1)) F U root outstanding old k late turned
  balance_take_new s k e tu lt =
      let m = moved_turned s (R s -ℤ pos 1) tu lt in
      let g = ba.running in
      record { frozen = m.0 ∙ ba.frozen; running = omega (arith, ints, m.1); asked = ba.asked }

  pub balance_take_old : (s k : ℕ) → old ≡ suc k → turned s ≡ false → s < n → root ≡ false → Balance n (put R s (R s -ℤ pos 1)) F U root outstanding k new late turned
  balance_take_old s k e un lt ro =
      let m = moved_unturned s (R s -ℤ pos 1) un lt in
      let g = ba.frozen in
      record { frozen = omega (arith, ints, m.0); running = m.1 ∙ ba.running; asked = rw ro (rw ro at ba.asked) }

  pub balance_late : (s k : ℕ) → old ≡ suc k → s < n → Balance n R F (put U s (U s + 1)) root outstanding k new (late + 1) turned
  balance_late s k e lt =
      record { frozen = let g = ba.frozen in omega (arith, ints); running = ba.running; asked = go root ba.asked }
    where
      go : (b : Bool) → MatchBool b (outstanding ≡ old + sum_n U n) (sum_n U n ≡ late) → MatchBool b (outstanding ≡ k + sum_n (put U s (U s + 1)) n) (sum_n (put U s (U s + 1)) n ≡ late + 1)
      go true h = let m = sum_n_put U s (U s + 1) n lt in omega arith
      go false h = let m = sum_n_put U s (U s + 1) n lt in omega arith

  -- the method has heard of one arrival
  pub balance_report : (s left : ℕ) → left + 1 ≡ outstanding → root ≡ true → 0 < U s → s < n → Balance n R F (put U s (U s - 1)) root left old new late turned
  balance_report s left o ro some' lt =
      record { frozen = ba.frozen; running = ba.running; asked = rw ro (go (rw ro at ba.asked)) }
    where
      go : outstanding ≡ old + sum_n U n → left ≡ old + sum_n (put U s (U s - 1)) n
      go h = let m = sum_n_put U s (U s - 1) n lt in omega arith

  -- the root gathers: every station has turned, and w is what was frozen
  pub balance_root : (w : ℕ) → root ≡ false → ((s : ℕ) → s < n → turned s ≡ true) → pos w ≡ sum_z F n → Balance n R F U true w old new late turned
  balance_root w ro every is =
      record { frozen = ba.frozen; running = ba.running; asked = go (rw ro at ba.asked) }
    where
      go : sum_n U n ≡ late → w ≡ old + sum_n U n
      go h =
          let g : sum_z (λ s. cond (turned s) (F s) (R s)) n ≡ sum_z F n = sum_z_same _ F n (λ k l. rw (every k l)) in
          let f : pos w ≡ pos (old + late) = is ∙ sym g ∙ ba.frozen in
          omega (arith, ints)
