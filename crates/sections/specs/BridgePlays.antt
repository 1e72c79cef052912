-- A sheet that gives IMPs plays the rule of bridge.
use Rattle.std.proofs.Common.{◌≡◌, ℕ, Bool, true, false, List, ℤ, refl, arith}
use Rattle.std.proofs.lemmas.Int.{ints}
use Rattle.common.specs.Questions.{first_no}
use Rattle.sections.specs.Pairs.{pair_entry}
use Rattle.sections.specs.Scored.{Plays, AmountsAreSmall}
use Rattle.sections.specs.Bridge.{bridge, bridge_entry, is_amount, is_difference, both_imps}

pub bridge_entry_lem : (f : List ℤ) (a b : ℕ) (r : ℤ) → first_no (bridge_entry f a b r) ≡ first_no (pair_entry f a b (both_imps r))
bridge_entry_lem f a b r = go (is_difference r) refl
  where
    go : (t : Bool) → is_difference r ≡ t → first_no (bridge_entry f a b r) ≡ first_no (pair_entry f a b (both_imps r))
    go true p = rw p
    go false p = rw p

pub bridge_plays : Plays bridge both_imps is_amount (λ figure amount. true)
bridge_plays = record { entry = λ f a b r w. bridge_entry_lem f a b r; debit = λ f line amount w. refl; credit = λ f line amount w. refl; gain = λ a b r. refl }

pub bridge_amounts : AmountsAreSmall is_amount
bridge_amounts amount h = grind (arith, ints)
