-- What a phase test says of the phase; for every call's proof.
use Rattle.std.proofs.Common.{◌≡◌, ℕ, true, refl, arith}
use Rattle.house_rules.specs.declared.phase.Phase.{Phase}
use Rattle.house_rules.specs.declared.phase.Phase.TheVariants.{Ready, Counting, Closed}
use Rattle.house_rules.specs.State.House.{is_ready, is_counting, is_closed}

pub is_counting_lem : (p : Phase) → is_counting p ≡ true → p ≡ Counting
is_counting_lem Ready e = let z : ◌≡◌ {A = ℕ} 0 1 = cc in absurd (omega arith)
is_counting_lem Counting e = refl
is_counting_lem Closed e = let z : ◌≡◌ {A = ℕ} 0 1 = cc in absurd (omega arith)

pub is_ready_lem : (p : Phase) → is_ready p ≡ true → p ≡ Ready
is_ready_lem Ready e = refl
is_ready_lem Counting e = let z : ◌≡◌ {A = ℕ} 0 1 = cc in absurd (omega arith)
is_ready_lem Closed e = let z : ◌≡◌ {A = ℕ} 0 1 = cc in absurd (omega arith)

pub is_closed_lem : (p : Phase) → is_closed p ≡ true → p ≡ Closed
is_closed_lem Ready e = let z : ◌≡◌ {A = ℕ} 0 1 = cc in absurd (omega arith)
is_closed_lem Counting e = let z : ◌≡◌ {A = ℕ} 0 1 = cc in absurd (omega arith)
is_closed_lem Closed e = refl
