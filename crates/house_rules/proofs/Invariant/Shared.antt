-- What proofs of several calls share: parts of the invariant under equal arguments and after one more event.
use Rattle.std.proofs.Common.{◌≡◌, ℕ, ◌<◌, Bool, true, false, List, [], ◌∷◌, ◌++◌, ℤ, Some, refl, subst, arith, zero, suc, length, get_or, replicate}
use Rattle.sections.specs.Rule.{Rule, blank_sheet}
use Rattle.house_rules.specs.declared.colour.Colour.{Colour}
use Rattle.house_rules.specs.declared.phase.Phase.{Phase}
use Rattle.house_rules.specs.declared.phase.Phase.TheVariants.{Ready, Counting, Closed}
use Rattle.house_rules.specs.declared.slip.ColouredSlip.{ColouredSlip}
use Rattle.house_rules.specs.declared.slip.Slip.{Slip}
use Rattle.house_rules.specs.Theorem.Cut.{Cut}
use Rattle.house_rules.specs.State.Names.{find}
use Rattle.house_rules.specs.State.House.{Cells, station_at}
use Rattle.house_rules.proofs.Invariant.Deficits.{Balance}
use Rattle.house_rules.proofs.Invariant.Colours.{Colouring}
use Rattle.house_rules.proofs.Invariant.Names.{Naming}
use Rattle.house_rules.proofs.Invariant.Sound.{start_view, Common, Tree, ByPhase, all_turned}
use Rattle.house_rules.proofs.Invariant.Cut.{event_push}
use Rattle.house_rules.proofs.Invariant.PlainHouse.{View, FullEvent, event_of, Acts, Numbered, acted_push}
use Rattle.house_rules.specs.Calls.Event.{Event}
use Rattle.std.proofs.lemmas.List.{length-replicate}
use Rattle.house_rules.specs.Theorem.PlainHouse.{blank}
use Rattle.house_rules.proofs.Invariant.PlainSteps.{Fine}

pub by_phase : (p : Phase) (A A' B B' : Type 0) → (A → A') → (B → B') → ByPhase p A B → ByPhase p A' B'
by_phase Ready A A' B B' f g s = f s
by_phase Counting A A' B B' f g s = g s
by_phase Closed A A' B B' f g s = f s

pub colouring_as : {n : ℕ} {base : Colour} {T T' : ℕ → Bool} {C C' : ℕ → Colour} {tray : List ColouredSlip} {late late' : List Slip} {turned : ℕ → Bool} {new : ℕ → ℕ → Bool} → T ≡ T' → C ≡ C' → late ≡ late' → Colouring n base T C tray late turned new → Colouring n base T' C' tray late' turned new
colouring_as {n} {base} {T} {T'} {C} {C'} {tray} {late} {late'} {turned} {new} p q l m = subst (λ k. Colouring n base T' C' tray k turned new) l (subst (λ k. Colouring n base T' k tray late turned new) q (subst (λ k. Colouring n base k C tray late turned new) p m))

pub balance_as : {n : ℕ} {R R' F F' : ℕ → ℤ} {U U' : ℕ → ℕ} {root root' : Bool} {out : ℕ} {old old' new new' late late' : ℕ} {turned : ℕ → Bool} → R ≡ R' → F ≡ F' → U ≡ U' → root ≡ root' → old ≡ old' → new ≡ new' → late ≡ late' → Balance n R F U root out old new late turned → Balance n R' F' U' root' out old' new' late' turned
balance_as {n} {R} {R'} {F} {F'} {U} {U'} {root} {root'} {out} {old} {old'} {new} {new'} {late} {late'} {turned} r f u o a b l m =
    subst (λ k. Balance n R' F' U' root' out old' new' k turned) l
    (subst (λ k. Balance n R' F' U' root' out old' k late turned) b
    (subst (λ k. Balance n R' F' U' root' out k new late turned) a
    (subst (λ k. Balance n R' F' U' k out old new late turned) o
    (subst (λ k. Balance n R' F' k root out old new late turned) u
    (subst (λ k. Balance n R' k U root out old new late turned) f
    (subst (λ k. Balance n k F U root out old new late turned) r m))))))

pub common_act : (n : ℕ) (r : Rule) (all : List Event) (sent sent' : ℕ → ℕ) (goes goes' : ℕ → ℕ → ℕ) (v v' : View) (tray tray' late late' : List Slip) (d : FullEvent) → Common n r all sent goes v tray late → Acts n r v d v' → Naming n v'.posted tray' late' → ((s : ℕ) → sent' s ≡ v'.posted s) → ((a b : ℕ) (x : Slip) → find a b tray' ≡ Some x → goes' a b ≡ x.receiver) → Common n r (all ++ event_of d ∷ []) sent' goes' v' tray' late'
common_act n r all sent sent' goes goes' v v' tray tray' late late' d c act p s g =
    record { naming = p; sent_is = s; goes_is = g; ds = c.ds ++ d ∷ []; is_all = event_push c.ds d all c.is_all; run = acted_push n r c.ds d (start_view n) v v' c.run act }

pub start_numbered : (n : ℕ) → Numbered (start_view n)
start_numbered n a b x e = let z : ◌≡◌ {A = ℕ} 0 1 = cc in absurd (omega arith)

-- while a station has not turned, the root has not gathered
pub root_waits : (c : Cut) (cells : Cells) → Tree cells.n (λ s. (station_at cells s).gathered) c.turned → (s : ℕ) → s < cells.n → c.turned s ≡ false → (station_at cells 0).gathered ≡ false
root_waits c cells tree s lt un = go (station_at cells 0).gathered refl
  where
    go : (b : Bool) → (station_at cells 0).gathered ≡ b → b ≡ false
    go false e = refl
    go true e = let k = all_turned cells.n (λ s. (station_at cells s).gathered) c.turned tree e s lt in let z : ◌≡◌ {A = ℕ} 0 1 = cc in absurd (omega arith)

-- all sheets of a blank house have 32 lines
blank_wide : (n s : ℕ) → s < n → length (get_or (replicate n blank_sheet) s []) ≡ 32
blank_wide zero s l = absurd (omega arith)
blank_wide (suc n) zero l = refl
blank_wide (suc n) (suc s) l = blank_wide n s (omega arith)

pub fine_blank : (n : ℕ) → Fine n (blank n)
fine_blank n = record { sheets = length-replicate n blank_sheet; posted = length-replicate n 0; distinct = tt; numbered = start_numbered n; wide = λ s l. blank_wide n s l }
