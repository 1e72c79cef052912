-- The names of the slips under way and of the late ones: all differ, and each was given.
use Rattle.std.proofs.Common.{◌≡◌, ℕ, ◌+◌, ◌<◌, ◌≤◌, Bool, true, false, List, [], ◌∷◌, ◌++◌, Some, None, Option, sym, refl, ap, ◌∙◌, subst, arith}
use Rattle.std.proofs.lemmas.Bool.Decides.{nat_tests}
use Rattle.house_rules.specs.declared.slip.Slip.{Slip}
use Rattle.house_rules.specs.Theorem.Cut.{put, put_slip}
use Rattle.house_rules.specs.State.Names.{same_name, find, without}
use Rattle.house_rules.proofs.Invariant.PlainSteps.{find_push}
use Rattle.house_rules.proofs.Lists.Slips.{same_name_true, Distinct, find_without, distinct_without, distinct_push}

-- names differ in the tray, in the late list and between them; their numbers were given; receivers are stations
pub record Naming (n : ℕ) (posted : ℕ → ℕ) (tray late : List Slip) : Type 0 where
  pub apart : Distinct tray
  pub apart_late : Distinct late
  pub given : (a b : ℕ) (x : Slip) → find a b tray ≡ Some x → b ≤ posted a
  pub given_late : (a b : ℕ) (x : Slip) → find a b late ≡ Some x → b ≤ posted a
  pub out : (a b : ℕ) (x : Slip) → find a b late ≡ Some x → find a b tray ≡ None
  pub meant : (a b : ℕ) (x : Slip) → find a b tray ≡ Some x → x.receiver < n

pub not_found : (a b : ℕ) (xs : List Slip) → ((x : Slip) → find a b xs ≡ Some x → ⊥) → find a b xs ≡ None
not_found a b xs h = go (find a b xs) refl
  where
    go : (o : Option Slip) → find a b xs ≡ o → o ≡ None
    go None k = refl
    go (Some x) k = absurd (h x k)

pub find_push_at : (xs : List Slip) (x : Slip) → find x.sender x.number xs ≡ None → (a b : ℕ) → find a b (xs ++ x ∷ []) ≡ put_slip (λ a b. find a b xs) x.sender x.number (Some x) a b
find_push_at xs x e a b = ap (λ f. f a b) (find_push xs x e)

module _ (n : ℕ) (posted : ℕ → ℕ) (tray late : List Slip) (p : Naming n posted tray late) where
  pub fresh_tray : (s : ℕ) → find s ((posted s + 1)) tray ≡ None
  fresh_tray s = not_found s ((posted s + 1)) tray (λ x e. let l = p.given s ((posted s + 1)) x e in omega arith)

  pub fresh_late : (s : ℕ) → find s ((posted s + 1)) late ≡ None
  fresh_late s = not_found s ((posted s + 1)) late (λ x e. let l = p.given_late s ((posted s + 1)) x e in omega arith)

  pub naming_less : (a b : ℕ) → Naming n posted (without a b tray) late
  naming_less a b =
      record {
        apart = distinct_without a b tray p.apart;
        apart_late = p.apart_late;
        given = λ s k x e. p.given s k x (was s k x e);
        given_late = p.given_late;
        out = λ s k x e. let f = find_without a b s k tray p.apart in let g = p.out s k x e in grind arith;
        meant = λ s k x e. p.meant s k x (was s k x e);
      }
    where
      was : (s k : ℕ) (x : Slip) → find s k (without a b tray) ≡ Some x → find s k tray ≡ Some x
      was s k x e = let f = find_without a b s k tray p.apart in grind arith

  pub naming_late : (x : Slip) → find x.sender x.number tray ≡ Some x → Naming n posted (without x.sender x.number tray) (late ++ x ∷ [])
  naming_late x has =
      record {
        apart = distinct_without x.sender x.number tray p.apart;
        apart_late = distinct_push late x p.apart_late none_late;
        given = (naming_less x.sender x.number).given;
        given_late = λ s k y e. go s k y (same_name x.sender x.number s k) refl e;
        out = λ s k y e. let f = find_push_at late x none_late s k in let g = p.out s k y in let w = find_without x.sender x.number s k tray p.apart in grind arith;
        meant = (naming_less x.sender x.number).meant;
      }
    where
      none_late : find x.sender x.number late ≡ None
      none_late = not_found x.sender x.number late (λ y e. let g = p.out x.sender x.number y e in let z : ◌≡◌ {A = ℕ} 0 1 = cc in omega arith)

      go : (s k : ℕ) (y : Slip) (t : Bool) → same_name x.sender x.number s k ≡ t → find s k (late ++ x ∷ []) ≡ Some y → k ≤ posted s
      go s k y true t e =
          let q = same_name_true x.sender x.number s k t in
          let g = p.given x.sender x.number x has in
          let g' : x.number ≤ posted s = rw q.0 g in
          omega (arith, q.1)
      go s k y false t e = p.given_late s k y (let f = find_push_at late x none_late s k in grind arith)

  pub naming_post : (x : Slip) → x.number ≡ (posted x.sender + 1) → x.receiver < n → Naming n (put posted x.sender ((posted x.sender + 1))) (tray ++ x ∷ []) late
  naming_post x num lt =
      record {
        apart = distinct_push tray x p.apart none_tray;
        apart_late = p.apart_late;
        given = λ s k y e. let f = find_push_at tray x none_tray s k in let g = p.given s k y in grind (arith, nat_tests);
        given_late = λ s k y e. let g = p.given_late s k y e in grind (arith, nat_tests);
        out = λ s k y e. let f = find_push_at tray x none_tray s k in let g = p.out s k y e in let l = p.given_late s k y e in grind (arith, nat_tests);
        meant = λ s k y e. meant' s k y (same_name x.sender x.number s k) refl (sym (find_push_at tray x none_tray s k) ∙ e);
      }
    where
      none_tray : find x.sender x.number tray ≡ None
      none_tray = rw num (fresh_tray x.sender)

      meant' : (s k : ℕ) (y : Slip) (t : Bool) → same_name x.sender x.number s k ≡ t → put_slip (λ a b. find a b tray) x.sender x.number (Some x) s k ≡ Some y → y.receiver < n
      meant' s k y true t e = let q : x ≡ y = cc in subst (λ (z : Slip). z.receiver < n) q lt
      meant' s k y false t e = p.meant s k y (rw t at e)
