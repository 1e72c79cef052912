-- The sum that the root gathers is that of all frozen deficits.
use Rattle.std.proofs.Common.{◌≡◌, ℕ, zero, suc, ◌+◌, ◌*◌, ◌<◌, ◌≤◌, cond, ltb, List, length, get_or, pos, ◌+ℤ◌, sym, refl, ap, ◌∙◌, arith}
use Rattle.std.proofs.lemmas.Bool.{lt-ltb, le-ltb}
use Rattle.house_rules.specs.declared.station.Station.{Station}
use Rattle.house_rules.specs.Calls.Gather.{sums}
use Rattle.house_rules.specs.State.House.{fresh}
use Rattle.house_rules.proofs.Lists.Totals.{sum_z, whole}

module _ (ts : List Station) where
  pub sums_outer : (k i : ℕ) → length ts ≤ i → sums k ts i ≡ pos 0
  unfolding sums
  sums_outer zero i l = refl
  sums_outer (suc k) i l = rw (le-ltb i (length ts) l)

  -- where one more level changes nothing below station a, it changes nothing one level up below station b
  deeper : (k a b : ℕ) → a ≤ 2 * b + 1 → ((i : ℕ) → a ≤ i → sums k ts i ≡ sums (suc k) ts i) → (i : ℕ) → b ≤ i → sums (suc k) ts i ≡ sums (suc (suc k)) ts i
  unfolding sums
  deeper k a b le h i l =
      ap (λ z. cond (ltb i (length ts)) ((get_or ts i fresh).frozen +ℤ (z +ℤ sums k ts (2 * i + 2))) (pos 0)) (h (2 * i + 1) (omega arith))
      ∙ ap (λ z. cond (ltb i (length ts)) ((get_or ts i fresh).frozen +ℤ (sums (suc k) ts (2 * i + 1) +ℤ z)) (pos 0)) (h (2 * i + 2) (omega arith))

  -- with at most 64 stations, seven levels are all
  all_levels : length ts ≤ 64 → (i : ℕ) → sums 7 ts i ≡ sums 8 ts i
  all_levels few i =
      let l0 : (i : ℕ) → 64 ≤ i → sums 0 ts i ≡ sums 1 ts i = λ i l. sums_outer 0 i (omega arith) ∙ sym (sums_outer 1 i (omega arith)) in
      let l1 = deeper 0 64 32 (omega arith) l0 in
      let l2 = deeper 1 32 16 (omega arith) l1 in
      let l3 = deeper 2 16 8 (omega arith) l2 in
      let l4 = deeper 3 8 4 (omega arith) l3 in
      let l5 = deeper 4 4 2 (omega arith) l4 in
      let l6 = deeper 5 2 1 (omega arith) l5 in
      deeper 6 1 0 (omega arith) l6 i (omega arith)

  pub sums_inner : length ts ≤ 64 → (i : ℕ) → i < length ts → sums 7 ts i ≡ (get_or ts i fresh).frozen +ℤ (sums 7 ts (2 * i + 1) +ℤ sums 7 ts (2 * i + 2))
  unfolding sums
  sums_inner few i l = all_levels few i ∙ rw (lt-ltb i (length ts) l)

  pub root_sum : length ts ≤ 64 → sums 7 ts 0 ≡ sum_z (λ s. (get_or ts s fresh).frozen) (length ts)
  root_sum few = whole (length ts) (λ s. (get_or ts s fresh).frozen) (λ i. sums 7 ts i) (sums_inner few) (λ i l. sums_outer 7 i l)
