-- The figures of a sheet after a debit or a credit; for ScoresAreGains.
use Rattle.std.proofs.Common.{◌≡◌, ℕ, ◌<◌, Bool, true, false, cond, eqb, List, length, get_or, set, ℤ, pos, ◌+ℤ◌, ◌-ℤ◌, sym, refl, ap, subst, arith}
use Rattle.std.proofs.lemmas.List.{get_or-set_same, get_or-set_other}
use Rattle.std.proofs.lemmas.Int.{ints}
use Rattle.std.proofs.lemmas.Bool.{eqb-true, eqb-false}
use Rattle.sections.specs.Rule.{figure_at, debited, credited}

-- one figure is set
pub figure_set : (f : List ℤ) (line : ℕ) (v : ℤ) (l : ℕ) → l < length f → figure_at (set f line v) l ≡ cond (eqb line l) v (figure_at f l)
figure_set f line v l h = go (eqb line l) refl
  where
    go : (t : Bool) → eqb line l ≡ t → figure_at (set f line v) l ≡ cond (eqb line l) v (figure_at f l)
    go true t = rw t (let e = eqb-true line l t in subst (λ k. get_or (set f line v) k (pos 0) ≡ v) e (get_or-set_same f line v (pos 0) (subst (λ k. k < length f) (sym e) h)))
    go false t = rw t (get_or-set_other f line l v (pos 0) (λ e. eqb-false line l t (sym e)))

pub figure_debited : (f : List ℤ) (line : ℕ) (amount : ℤ) (l : ℕ) → l < length f → figure_at (debited f line amount) l +ℤ cond (eqb line l) amount (pos 0) ≡ figure_at f l
figure_debited f line amount l h = go (eqb line l) refl (figure_set f line (figure_at f line -ℤ amount) l h)
  where
    go : (t : Bool) → eqb line l ≡ t → figure_at (debited f line amount) l ≡ cond (eqb line l) (figure_at f line -ℤ amount) (figure_at f l) → figure_at (debited f line amount) l +ℤ cond (eqb line l) amount (pos 0) ≡ figure_at f l
    go true t e =
        let e' : figure_at (debited f line amount) l ≡ figure_at f line -ℤ amount = rw t at e in
        let q : figure_at f line ≡ figure_at f l = ap (figure_at f) (eqb-true line l t) in
        rw t (omega (arith, ints))
    go false t e = let e' : figure_at (debited f line amount) l ≡ figure_at f l = rw t at e in rw t (omega (arith, ints))

pub figure_credited : (f : List ℤ) (line : ℕ) (amount : ℤ) (l : ℕ) → l < length f → figure_at (credited f line amount) l ≡ figure_at f l +ℤ cond (eqb line l) amount (pos 0)
figure_credited f line amount l h = go (eqb line l) refl (figure_set f line (figure_at f line +ℤ amount) l h)
  where
    go : (t : Bool) → eqb line l ≡ t → figure_at (credited f line amount) l ≡ cond (eqb line l) (figure_at f line +ℤ amount) (figure_at f l) → figure_at (credited f line amount) l ≡ figure_at f l +ℤ cond (eqb line l) amount (pos 0)
    go true t e =
        let e' : figure_at (credited f line amount) l ≡ figure_at f line +ℤ amount = rw t at e in
        let q : figure_at f line ≡ figure_at f l = ap (figure_at f) (eqb-true line l t) in
        rw t (omega (arith, ints))
    go false t e = let e' : figure_at (credited f line amount) l ≡ figure_at f l = rw t at e in rw t (omega (arith, ints))
