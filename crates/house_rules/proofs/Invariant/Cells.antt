-- The cells as the plain house sees them, and what each call does to that.
use Rattle.std.proofs.Common.{◌≡◌, ℕ, ◌+◌, ◌<◌, ◌≤◌, Bool, true, false, cond, List, [], ◌∷◌, ◌++◌, length, get_or, set, ℤ, Some, None, Option, sym, refl, ap, ◌∙◌, arith}
use mathlib.Core.Path.{fun_ext}
use Rattle.std.proofs.lemmas.List.{map-append, length-set}
use Rattle.common.specs.Questions.{all_yes}
use Rattle.sections.specs.Rule.{Rule}
use Rattle.house_rules.specs.declared.slip.ColouredSlip.{ColouredSlip}
use Rattle.house_rules.specs.declared.slip.Slip.{Slip}
use Rattle.house_rules.specs.declared.station.Station.{Station}
use Rattle.house_rules.specs.Theorem.Cut.{put, put_slip}
use Rattle.house_rules.specs.Calls.Enter.{entered_cells}
use Rattle.house_rules.specs.State.Names.{named, find, without, find_coloured, without_coloured, slips_of}
use Rattle.house_rules.specs.Calls.Post.{posted_slip, posted_cells}
use Rattle.house_rules.specs.State.House.{Cells, fresh, station_at, sheet_at}
use Rattle.house_rules.specs.Calls.Take.{took_station, late_station, arrives, arrives_late}
use Rattle.house_rules.specs.Calls.Turn.{turned_station, turns}
use Rattle.house_rules.proofs.Invariant.PlainSteps.{same_view, find_push, find_less}
use Rattle.house_rules.proofs.Lists.Slips.{Distinct}
use Rattle.house_rules.proofs.Invariant.PlainHouse.{View, Acts, Numbered, enter', post', take'}
use Rattle.house_rules.proofs.Lists.Puts.{get_or-put, put_own, put_ap}

-- the cells as the plain house sees them
abbrev pub cells_view : Cells → View
cells_view cells = record { sheet = λ s. sheet_at cells s; posted = λ s. (station_at cells s).posted; slips = λ a b. find a b (slips_of cells.tray) }

-- 1 to 64 stations, and as many sheets, recorded sheets and stations
pub record Shape (cells : Cells) : Type 0 where
  pub some' : 0 < cells.n
  pub few : cells.n ≤ 64
  pub sheets : length cells.sheets ≡ cells.n
  pub recorded : length cells.recorded ≡ cells.n
  pub stations : length cells.stations ≡ cells.n

-- a field of the stations, after one station has changed
pub field_put : {Y : Type 0} (g : Station → Y) (l : List Station) (s : ℕ) (v : Station) → s < length l → (λ t. g (get_or (set l s v) t fresh)) ≡ put (λ t. g (get_or l t fresh)) s (g v)
field_put g l s v h = fun_ext (λ t. ap (λ f. g (f t)) (get_or-put l s v fresh h) ∙ put_ap g (λ t. get_or l t fresh) s v t)

pub field_kept : {Y : Type 0} (g : Station → Y) (l : List Station) (s : ℕ) (v : Station) → s < length l → g v ≡ g (get_or l s fresh) → ◌≡◌ {A = ℕ → Y} (λ t. g (get_or (set l s v) t fresh)) (λ t. g (get_or l t fresh))
field_kept g l s v h e = field_put g l s v h ∙ ap (put (λ t. g (get_or l t fresh)) s) e ∙ put_own (λ t. g (get_or l t fresh)) s

pub find_coloured_lem : (a b : ℕ) (xs : List ColouredSlip) (x : ColouredSlip) → find_coloured a b xs ≡ Some x → find a b (slips_of xs) ≡ Some x.slip
find_coloured_lem a b [] x e = let z : ◌≡◌ {A = ℕ} 0 1 = cc in absurd (omega arith)
find_coloured_lem a b (y ∷ ys) x e = let ih = find_coloured_lem a b ys x in go (named a b y.slip) refl ih
  where
    go : (t : Bool) → named a b y.slip ≡ t → (find_coloured a b ys ≡ Some x → find a b (slips_of ys) ≡ Some x.slip) → cond (named a b y.slip) (Some y.slip) (find a b (slips_of ys)) ≡ Some x.slip
    go true t ih = rw t (let s : y ≡ x = cc in ap (λ k. Some k.slip) s)
    go false t ih = rw t (ih (cc))

pub slips_less : (a b : ℕ) (xs : List ColouredSlip) → slips_of (without_coloured a b xs) ≡ without a b (slips_of xs)
slips_less a b [] = refl
slips_less a b (x ∷ xs) = let ih = slips_less a b xs in go (named a b x.slip) ih
  where
    go : (t : Bool) → slips_of (without_coloured a b xs) ≡ without a b (slips_of xs) → slips_of (cond t xs (x ∷ without_coloured a b xs)) ≡ cond t (slips_of xs) (x.slip ∷ without a b (slips_of xs))
    go true ih = refl
    go false ih = ap (λ l. x.slip ∷ l) ih

pub slips_push : (xs : List ColouredSlip) (x : ColouredSlip) → slips_of (xs ++ x ∷ []) ≡ slips_of xs ++ x.slip ∷ []
slips_push xs x = map-append (λ (y : ColouredSlip). y.slip) xs (x ∷ [])

module _ (r : Rule) (cells : Cells) (sh : Shape cells) where
  pub enter_acts : (s a b : ℕ) (code : ℤ) → s < cells.n → all_yes (r.entry (sheet_at cells s) a b code) ≡ true → Acts cells.n r (cells_view cells) (enter' s a b code) (cells_view (entered_cells r cells s a b code))
  enter_acts s a b code lt yes' =
      record {
        within = lt;
        fit = tt;
        grant = yes';
        sheet = get_or-put cells.sheets s _ [] (rw sh.sheets lt);
        posted = sym (put_own (λ t. (station_at cells t).posted) s);
        slips = refl;
      }

  pub fresh_name : Numbered (cells_view cells) → (s : ℕ) → find s ((station_at cells s).posted + 1) (slips_of cells.tray) ≡ None
  fresh_name given s = go (find s ((station_at cells s).posted + 1) (slips_of cells.tray)) refl
    where
      go : (o : Option Slip) → find s ((station_at cells s).posted + 1) (slips_of cells.tray) ≡ o → o ≡ None
      go None k = refl
      go (Some x) k = let l = given s ((station_at cells s).posted + 1) x k in absurd (omega arith)

  pub post_acts : Numbered (cells_view cells) → (s to line : ℕ) (amount : ℤ) → s < cells.n → to < cells.n → all_yes (r.debit (sheet_at cells s) line amount) ≡ true → Acts cells.n r (cells_view cells) (post' (posted_slip cells s to line amount)) (cells_view (posted_cells cells s to line amount))
  post_acts p s to line amount lt lr yes' =
      record {
        within = lt;
        fit = (refl, lr);
        grant = yes';
        sheet = get_or-put cells.sheets s _ [] (rw sh.sheets lt);
        posted = field_put (λ t. t.posted) cells.stations s _ (rw sh.stations lt);
        slips =
            ap (λ l a b. find a b l) (slips_push cells.tray (record { slip = posted_slip cells s to line amount; colour = (station_at cells s).colour }))
            ∙ find_push (slips_of cells.tray) (posted_slip cells s to line amount) (fresh_name p s);
      }

  pub turn_view : (s : ℕ) → s < cells.n → cells_view (turns cells s) ≡ cells_view cells
  turn_view s lt = same_view (cells_view (turns cells s)) (cells_view cells) refl (field_kept (λ t. t.posted) cells.stations s (turned_station (station_at cells s)) (rw sh.stations lt) refl) refl

  pub turn_shape : (s : ℕ) → s < cells.n → Shape (turns cells s)
  turn_shape s lt = record { some' = sh.some'; few = sh.few; sheets = sh.sheets; recorded = length-set cells.recorded s _ ∙ sh.recorded; stations = length-set cells.stations s _ ∙ sh.stations }

  module _ (x : ColouredSlip) (apart : Distinct (slips_of cells.tray)) (has : find x.slip.sender x.slip.number (slips_of cells.tray) ≡ Some x.slip) (lt : x.slip.receiver < cells.n) (yes' : all_yes (r.credit (sheet_at cells x.slip.receiver) x.slip.line x.slip.amount) ≡ true) where
    less_slips : (λ (a b : ℕ). find a b (slips_of (without_coloured x.slip.sender x.slip.number cells.tray))) ≡ put_slip (λ a b. find a b (slips_of cells.tray)) x.slip.sender x.slip.number None
    less_slips = ap (λ l a b. find a b l) (slips_less x.slip.sender x.slip.number cells.tray) ∙ find_less (slips_of cells.tray) x.slip.sender x.slip.number apart

    pub late_acts : Acts cells.n r (cells_view cells) (take' x.slip) (cells_view (arrives_late cells x))
    late_acts =
        record {
          within = lt;
          fit = has;
          grant = yes';
          sheet = get_or-put cells.sheets x.slip.receiver _ [] (rw sh.sheets lt);
          posted = field_put (λ t. t.posted) cells.stations x.slip.receiver (late_station (station_at cells x.slip.receiver)) (rw sh.stations lt);
          slips = less_slips;
        }

    pub take_acts : Acts cells.n r (cells_view cells) (take' x.slip) (cells_view (arrives cells x))
    take_acts =
        record {
          within = lt;
          fit = has;
          grant = yes';
          sheet = get_or-put cells.sheets x.slip.receiver _ [] (rw sh.sheets lt);
          posted = field_put (λ t. t.posted) cells.stations x.slip.receiver (took_station (station_at cells x.slip.receiver)) (rw sh.stations lt);
          slips = less_slips;
        }
