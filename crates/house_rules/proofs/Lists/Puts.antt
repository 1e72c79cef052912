-- Functions with one value changed; every call's proof reads the lists of stations and sheets in this form.
use Rattle.std.proofs.Common.{◌≡◌, ℕ, ◌<◌, Bool, true, false, cond, eqb, ◌≢◌, List, length, get_or, set, sym, refl, ap, ◌∙◌, arith}
use mathlib.Core.Path.{fun_ext}
use Rattle.std.proofs.lemmas.List.{get_or-set_same, get_or-set_other}
use Rattle.std.proofs.lemmas.Bool.{eqb-true, eqb-false, eq-eqb, ne_eqb}
use Rattle.std.proofs.lemmas.Bool.Decides.{nat_tests}
use Rattle.house_rules.specs.Theorem.Cut.{put}

pub put_same : {X : Type 0} (f : ℕ → X) (s : ℕ) (v : X) → put f s v s ≡ v
put_same f s v = rw (eq-eqb s s refl)

pub put_other : {X : Type 0} (f : ℕ → X) (s t : ℕ) (v : X) → t ≢ s → put f s v t ≡ f t
put_other f s t v h = rw (ne_eqb t s h)

pub put_swap : {X : Type 0} (f : ℕ → X) (s t : ℕ) (v w : X) → s ≢ t → put (put f s v) t w ≡ put (put f t w) s v
put_swap f s t v w h = fun_ext (λ x. grind (arith, nat_tests))

pub put_own : {X : Type 0} (f : ℕ → X) (s : ℕ) → put f s (f s) ≡ f
put_own f s = fun_ext (λ t. grind (arith, nat_tests))

pub put_kept : {X : Type 0} (f : ℕ → X) (s : ℕ) (v : X) → f s ≡ v → put f s v ≡ f
put_kept f s v e = ap (put f s) (sym e) ∙ put_own f s

pub put_ap : {X Y : Type 0} (g : X → Y) (f : ℕ → X) (s : ℕ) (v : X) (t : ℕ) → g (put f s v t) ≡ put (λ t. g (f t)) s (g v) t
put_ap g f s v t = go (eqb t s)
  where
    go : (b : Bool) → g (cond b v (f t)) ≡ cond b (g v) (g (f t))
    go true = refl
    go false = refl

pub get_or-put : {X : Type 0} (l : List X) (i : ℕ) (a d : X) → i < length l → (λ t. get_or (set l i a) t d) ≡ put (λ t. get_or l t d) i a
get_or-put {X} l i a d h = fun_ext (λ t. go t (eqb t i) refl)
  where
    go : (t : ℕ) (b : Bool) → eqb t i ≡ b → get_or (set l i a) t d ≡ put (λ s. get_or l s d) i a t
    go t true e = rw e (let k = eqb-true t i e in rw k (get_or-set_same l i a d h))
    go t false e = rw e (get_or-set_other l i t a d (eqb-false t i e))
