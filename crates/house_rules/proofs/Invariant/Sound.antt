-- The invariant: what holds of the cells, the cut and the outstanding number after every history.
use Rattle.std.proofs.Common.{◌≡◌, ℕ, zero, suc, ◌+◌, ◌*◌, ◌/◌, ◌%◌, ◌<◌, ◌≤◌, Bool, true, false, not, eqb, List, [], map, length, get_or, ℤ, pos, Some, sym, refl, ap, ◌∙◌, arith}
use Rattle.std.proofs.lemmas.Bool.{eqb-true, eqb-false}
use Rattle.std.specs.List.{AllByRecursion}
use Rattle.sections.specs.Rule.{Rule}
use Rattle.house_rules.specs.declared.colour.Colour.{Colour}
use Rattle.house_rules.specs.declared.phase.Phase.{Phase}
use Rattle.house_rules.specs.declared.phase.Phase.TheVariants.{Ready, Counting, Closed}
use Rattle.house_rules.specs.declared.slip.ColouredSlip.{ColouredSlip}
use Rattle.house_rules.specs.declared.slip.Slip.{Slip}
use Rattle.house_rules.specs.Theorem.Cut.{Cut}
use Rattle.house_rules.specs.State.Names.{find, slips_of}
use Rattle.house_rules.specs.Theorem.PlainHouse.{blank}
use Rattle.house_rules.specs.State.House.{Cells, station_at}
use Rattle.house_rules.proofs.Invariant.Deficits.{Balance}
use Rattle.house_rules.proofs.Invariant.Colours.{Colouring}
use Rattle.house_rules.proofs.Invariant.Cells.{cells_view, Shape}
use Rattle.house_rules.proofs.Invariant.Names.{Naming}
use Rattle.house_rules.proofs.Invariant.PlainSteps.{plain_view}
use Rattle.house_rules.proofs.Invariant.Cut.{Split}
use Rattle.house_rules.proofs.Lists.Totals.{sum_z, count}
use Rattle.house_rules.proofs.Invariant.PlainHouse.{View, FullEvent, event_of, Acted}
use Rattle.house_rules.specs.Calls.Event.{Event}

abbrev pub start_view : ℕ → View
start_view n = plain_view (blank n)

-- in every phase: names are in order, the cut knows posted numbers and receivers, and the plain run of all events so far
-- holds what the cells hold
pub record Common (n : ℕ) (r : Rule) (all : List Event) (sent : ℕ → ℕ) (goes : ℕ → ℕ → ℕ) (v : View) (tray late : List Slip) : Type 0 where
  pub naming : Naming n v.posted tray late
  pub sent_is : (s : ℕ) → sent s ≡ v.posted s
  pub goes_is : (a b : ℕ) (x : Slip) → find a b tray ≡ Some x → goes a b ≡ x.receiver
  pub ds : List FullEvent
  pub is_all : map event_of ds ≡ all
  pub run : Acted n r (start_view n) ds v

-- between counts: one colour, and the running deficits add up to the slips under way
pub record Between (n : ℕ) (C : ℕ → Colour) (R : ℕ → ℤ) (tray : List ColouredSlip) : Type 0 where
  pub base : Colour
  pub coloured : (s : ℕ) → s < n → C s ≡ base
  pub slips : AllByRecursion (λ (x : ColouredSlip). x.colour ≡ base) tray
  pub running : sum_z R n ≡ pos (count (λ a b. true) tray)

-- a station that has gathered has turned, and so have its children gathered
abbrev pub Tree : ℕ → (ℕ → Bool) → (ℕ → Bool) → Type 0
Tree n G turned = (s : ℕ) → s < n → G s ≡ true → (turned s ≡ true) × (2 * s + 1 < n → G (2 * s + 1) ≡ true) × (2 * s + 2 < n → G (2 * s + 2) ≡ true)

-- while a count is open: colours, both parts of the cut, deficits and marks agree with the cells, and what is new was posted
pub record During (r : Rule) (c : Cut) (cells : Cells) (out : ℕ) : Type 0 where
  pub base : Colour
  pub colouring : Colouring cells.n base (λ s. (station_at cells s).turned) (λ s. (station_at cells s).colour) cells.tray (slips_of cells.late) c.turned c.new
  pub split : Split cells.n r (start_view cells.n) (λ s. get_or cells.recorded s []) (cells_view cells) (slips_of cells.late) c.turned c.new c.before c.after
  pub balance : Balance cells.n (λ s. (station_at cells s).running) (λ s. (station_at cells s).frozen) (λ s. (station_at cells s).unreported) (station_at cells 0).gathered out (count (λ a b. not (c.new a b)) cells.tray) (count c.new cells.tray) (length cells.late) c.turned
  pub tree : Tree cells.n (λ s. (station_at cells s).gathered) c.turned
  pub given : (a b : ℕ) → c.new a b ≡ true → b ≤ (station_at cells a).posted

-- one thing between counts, another while a count is open
abbrev pub ByPhase : Phase → Type 0 → Type 0 → Type 0
ByPhase Ready A B = A
ByPhase Counting A B = B
ByPhase Closed A B = A

pub record Sound (r : Rule) (c : Cut) (p : Phase) (cells : Cells) (out : ℕ) : Type 0 where
  pub shape : Shape cells
  pub common : Common cells.n r c.all c.posted c.receiver (cells_view cells) (slips_of cells.tray) (slips_of cells.late)
  pub state : ByPhase p (Between cells.n (λ s. (station_at cells s).colour) (λ s. (station_at cells s).running) cells.tray) (During r c cells out)

-- The gathered stations

pub all_gathered : (n : ℕ) (G turned : ℕ → Bool) → Tree n G turned → G 0 ≡ true → (k s : ℕ) → s < k → s < n → G s ≡ true
all_gathered n G turned tree root zero s l lt = absurd (omega arith)
all_gathered n G turned tree root (suc k) zero l lt = root
all_gathered n G turned tree root (suc k) (suc t) l lt =
    let p = t / 2 in
    let g = tree p (omega arith) (all_gathered n G turned tree root k p (omega arith) (omega arith)) in
    go (eqb (t % 2) 0) refl g
  where
    go : (b : Bool) → eqb (t % 2) 0 ≡ b → (turned (t / 2) ≡ true) × (2 * (t / 2) + 1 < n → G (2 * (t / 2) + 1) ≡ true) × (2 * (t / 2) + 2 < n → G (2 * (t / 2) + 2) ≡ true) → G (suc t) ≡ true
    go true e g =
        let q = eqb-true (t % 2) 0 e in
        let w : 2 * (t / 2) + 1 ≡ suc t = omega arith in
        ap G (sym w) ∙ g.1 (omega arith)
    go false e g =
        let q = eqb-false (t % 2) 0 e in
        let w : 2 * (t / 2) + 2 ≡ suc t = omega arith in
        ap G (sym w) ∙ g.2 (omega arith)

pub all_turned : (n : ℕ) (G turned : ℕ → Bool) → Tree n G turned → G 0 ≡ true → (s : ℕ) → s < n → turned s ≡ true
all_turned n G turned tree root s lt = (tree s lt (all_gathered n G turned tree root (suc s) s (omega arith) lt)).0
