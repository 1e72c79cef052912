-- The colours of stations and slips against the cut.
use Rattle.std.proofs.Common.{◌≡◌, ℕ, ◌<◌, Bool, true, false, cond, eqb, List, [], ◌∷◌, ◌++◌, Some, None, refl, ap, ◌∙◌, arith}
use Rattle.std.proofs.ByRecursion.{All-append}
use Rattle.std.proofs.lemmas.Bool.Decides.{nat_tests}
use Rattle.std.specs.List.{AllByRecursion}
use Rattle.house_rules.specs.declared.colour.Colour.{Colour}
use Rattle.house_rules.specs.declared.slip.ColouredSlip.{ColouredSlip}
use Rattle.house_rules.specs.declared.slip.Slip.{Slip}
use Rattle.house_rules.specs.State.Colours.{other}
use Rattle.house_rules.specs.Theorem.Cut.{put, put_slip}
use Rattle.house_rules.specs.State.Names.{same_name, named, find, without_coloured, slips_of}
use Rattle.house_rules.proofs.Invariant.Names.{find_push_at}
use Rattle.house_rules.proofs.Lists.Slips.{same_name_refl, same_name_true}

-- the colour of what has turned, and of what has not
abbrev pub shade : Colour → Bool → Colour
shade base t = cond t (other base) base

-- marks and colours of the stations are those of the cut, a slip has the second colour exactly if it is new, late ones are old
pub record Colouring (n : ℕ) (base : Colour) (T : ℕ → Bool) (C : ℕ → Colour) (tray : List ColouredSlip) (late : List Slip) (turned : ℕ → Bool) (new : ℕ → ℕ → Bool) : Type 0 where
  pub marked : (s : ℕ) → s < n → T s ≡ turned s
  pub coloured : (s : ℕ) → s < n → C s ≡ shade base (turned s)
  pub slips : AllByRecursion (λ (x : ColouredSlip). x.colour ≡ shade base (new x.slip.sender x.slip.number)) tray
  pub old_late : (a b : ℕ) (x : Slip) → find a b late ≡ Some x → new a b ≡ false

pub all_less : (P : ColouredSlip → Type 0) (a b : ℕ) (xs : List ColouredSlip) → AllByRecursion P xs → AllByRecursion P (without_coloured a b xs)
all_less P a b [] h = tt
all_less P a b (x ∷ xs) h = let ih = all_less P a b xs h.1 in go (named a b x.slip) ih
  where
    go : (t : Bool) → AllByRecursion P (without_coloured a b xs) → AllByRecursion P (cond t xs (x ∷ without_coloured a b xs))
    go true ih = h.1
    go false ih = (h.0, ih)

-- with a new name, what holds by the names goes on holding
pub all_renamed : (base : Colour) (new : ℕ → ℕ → Bool) (a b : ℕ) (v : Bool) (xs : List ColouredSlip) → find a b (slips_of xs) ≡ None → AllByRecursion (λ (x : ColouredSlip). x.colour ≡ shade base (new x.slip.sender x.slip.number)) xs → AllByRecursion (λ (x : ColouredSlip). x.colour ≡ shade base (put_slip new a b v x.slip.sender x.slip.number)) xs
all_renamed base new a b v [] e h = tt
all_renamed base new a b v (x ∷ xs) e h =
    let k : named a b x.slip ≡ false = grind arith in
    let f : find a b (slips_of xs) ≡ None = grind arith in
    (rw k h.0, all_renamed base new a b v xs f h.1)

module _ (n : ℕ) (base : Colour) (T : ℕ → Bool) (C : ℕ → Colour) (tray : List ColouredSlip) (late : List Slip) (turned : ℕ → Bool) (new : ℕ → ℕ → Bool) (m : Colouring n base T C tray late turned new) where
  pub colouring_turn : (s : ℕ) → s < n → turned s ≡ false → Colouring n base (put T s true) (put C s (other (C s))) tray late (put turned s true) new
  colouring_turn s lt un =
      record {
        marked = λ t l. let g = m.marked t l in grind (arith, nat_tests);
        coloured = λ t l. colour t l (eqb t s) refl;
        slips = m.slips;
        old_late = m.old_late;
      }
    where
      colour : (t : ℕ) → t < n → (b : Bool) → eqb t s ≡ b → put C s (other (C s)) t ≡ shade base (put turned s true t)
      colour t l true e = rw e (let c = m.coloured s lt in ap other c ∙ ap (λ u. other (shade base u)) un)
      colour t l false e = rw e (m.coloured t l)

  pub colouring_less : (a b : ℕ) → Colouring n base T C (without_coloured a b tray) late turned new
  colouring_less a b = record { marked = m.marked; coloured = m.coloured; slips = all_less _ a b tray m.slips; old_late = m.old_late }

  pub colouring_late : (x : Slip) → find x.sender x.number late ≡ None → new x.sender x.number ≡ false → Colouring n base T C tray (late ++ x ∷ []) turned new
  colouring_late x none_late old =
      record {
        marked = m.marked;
        coloured = m.coloured;
        slips = m.slips;
        old_late = λ a b y e. go a b y (same_name x.sender x.number a b) refl e;
      }
    where
      go : (a b : ℕ) (y : Slip) (t : Bool) → same_name x.sender x.number a b ≡ t → find a b (late ++ x ∷ []) ≡ Some y → new a b ≡ false
      go a b y true t e = let q = same_name_true x.sender x.number a b t in rw (q.0, q.1) old
      go a b y false t e = m.old_late a b y (let f = find_push_at late x none_late a b in grind arith)

  pub colouring_post : (x : ColouredSlip) (v : Bool) → x.colour ≡ shade base v → find x.slip.sender x.slip.number (slips_of tray) ≡ None → find x.slip.sender x.slip.number late ≡ None → Colouring n base T C (tray ++ x ∷ []) late turned (put_slip new x.slip.sender x.slip.number v)
  colouring_post x v col nt nl =
      record {
        marked = m.marked;
        coloured = m.coloured;
        slips = All-append _ tray (x ∷ []) (all_renamed base new x.slip.sender x.slip.number v tray nt m.slips) (rw (same_name_refl x.slip.sender x.slip.number) col, tt);
        old_late = λ a b y e. go a b y (same_name x.slip.sender x.slip.number a b) refl e;
      }
    where
      go : (a b : ℕ) (y : Slip) (t : Bool) → same_name x.slip.sender x.slip.number a b ≡ t → find a b late ≡ Some y → put_slip new x.slip.sender x.slip.number v a b ≡ false
      go a b y true t e =
          let q = same_name_true x.slip.sender x.slip.number a b t in
          let e' : find x.slip.sender x.slip.number late ≡ Some y = rw (q.0, q.1) at e in
          let z : ◌≡◌ {A = ℕ} 0 1 = cc in absurd (omega arith)
      go a b y false t e = rw t (m.old_late a b y e)
