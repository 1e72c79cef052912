-- Events that act on the view of a plain house are its steps, and keep what it holds of each line; for the plain runs.
use Rattle.std.proofs.Common.{◌≡◌, ℕ, ◌+◌, ◌<◌, Bool, true, false, cond, eqb, List, [], ◌∷◌, ◌++◌, map, length, get_or, set, ℤ, ◌+ℤ◌, is_some, Some, None, Option, sym, refl, ap, ◌∙◌, subst, arith}
use mathlib.Core.Path.{fun_ext}
use Rattle.std.proofs.lemmas.List.{length-set}
use Rattle.std.proofs.lemmas.Int.{ints}
use Rattle.std.proofs.lemmas.Bool.{lt-ltb}
use Rattle.std.proofs.lemmas.Bool.Decides.{nat_tests}
use Rattle.sections.specs.Rule.{Rule, figure_at, entered, debited, credited}
use Rattle.house_rules.specs.declared.slip.Slip.{Slip}
use Rattle.common.specs.Sums.{sum_of}
use Rattle.sections.specs.Sums.{line_sum}
use Rattle.house_rules.specs.Calls.CountText.{on_slip, on_slips}
use Rattle.house_rules.specs.Theorem.Cut.{put_slip}
use Rattle.house_rules.specs.State.Names.{same_name, find, without}
use Rattle.house_rules.specs.Theorem.PlainHouse.{PlainHouse, plain_step, or_stays, plain_run, RefusesNone}
use Rattle.house_rules.specs.Theorem.Statements.{gain_of}
use Rattle.sections.proofs.Gains.{length-entered, figure_entered}
use Rattle.house_rules.proofs.Lists.Figures.{figure_debited, figure_credited}
use Rattle.house_rules.proofs.Lists.Slips.{same_name_refl, same_name_true, find_append, Distinct, find_without, distinct_without, distinct_push}
use Rattle.common.proofs.Sums.{sum_push}
use Rattle.house_rules.proofs.Lists.Sums.{sum_set, sum_without}
use Rattle.house_rules.proofs.Invariant.PlainHouse.{View, FullEvent, event_of, changed, Acts, Acted, Numbered, numbered_acts, enter', post', take'}
use Rattle.house_rules.specs.Calls.Event.{Event}
use Rattle.house_rules.proofs.Lists.Puts.{put_own, get_or-put}

abbrev pub plain_view : PlainHouse → View
plain_view p = record { sheet = λ s. get_or p.sheets s []; posted = λ s. get_or p.posted s 0; slips = λ a b. find a b p.under_way }

-- n sheets of 32 lines, n posted numbers, distinct names, and numbers that were given
pub record Fine (n : ℕ) (p : PlainHouse) : Type 0 where
  pub sheets : length p.sheets ≡ n
  pub posted : length p.posted ≡ n
  pub distinct : Distinct p.under_way
  pub numbered : Numbered (plain_view p)
  pub wide : (s : ℕ) → s < n → length (get_or p.sheets s []) ≡ 32

pub same_view : (v w : View) → v.sheet ≡ w.sheet → v.posted ≡ w.posted → v.slips ≡ w.slips → v ≡ w
same_view v w p q m = λ i. record { sheet = p i; posted = q i; slips = m i }

pub find_push : (xs : List Slip) (x : Slip) → find x.sender x.number xs ≡ None → (λ (a b : ℕ). find a b (xs ++ x ∷ [])) ≡ put_slip (λ a b. find a b xs) x.sender x.number (Some x)
find_push xs x e = fun_ext (λ a. fun_ext (λ b. go a b (same_name x.sender x.number a b) refl))
  where
    go : (a b : ℕ) (t : Bool) → same_name x.sender x.number a b ≡ t → find a b (xs ++ x ∷ []) ≡ put_slip (λ a b. find a b xs) x.sender x.number (Some x) a b
    go a b true t =
        let q = same_name_true x.sender x.number a b t in
        rw (t, q.0, q.1) (find_append x.sender x.number xs (x ∷ []) ∙ rw (e, same_name_refl x.sender x.number))
    go a b false t =
        rw t (find_append a b xs (x ∷ []) ∙ grind (arith, nat_tests))

pub find_less : (xs : List Slip) (p q : ℕ) → Distinct xs → (λ (a b : ℕ). find a b (without p q xs)) ≡ put_slip (λ a b. find a b xs) p q None
find_less xs p q d = fun_ext (λ a. fun_ext (λ b. find_without p q a b xs d))

pub none_yet : (n : ℕ) (p : PlainHouse) (a b : ℕ) → Fine n p → b ≡ get_or p.posted a 0 + 1 → find a b p.under_way ≡ None
none_yet n p a b f e = go (find a b p.under_way) refl
  where
    go : (o : Option Slip) → find a b p.under_way ≡ o → o ≡ None
    go None k = refl
    go (Some x) k = let l = f.numbered a b x k in absurd (omega arith)

-- the events are played from p, none is refused, and q is what they leave
abbrev pub Plays : Rule → PlainHouse → List Event → PlainHouse → Type 0
Plays r p [] q = p ≡ q
Plays r p (e ∷ es) q = (m : PlainHouse) × (plain_step r p e ≡ Some m) × Plays r m es q

pub plays_run : (r : Rule) (p q : PlainHouse) (es : List Event) → Plays r p es q → plain_run r p es ≡ q
plays_run r p q [] h = h
plays_run r p q (e ∷ es) h = ap (λ o. plain_run r (or_stays p o) es) h.1 ∙ plays_run r h.0 q es h.2

pub plays_refuses_none : (r : Rule) (p q : PlainHouse) (es : List Event) → Plays r p es q → RefusesNone r p es
plays_refuses_none r p q [] h = tt
plays_refuses_none r p q (e ∷ es) h = (ap is_some h.1, subst (λ o. RefusesNone r (or_stays p o) es) (sym h.1) (plays_refuses_none r h.0 q es h.2))

pub plays_both : (r : Rule) (p q w : PlainHouse) (ds es : List Event) → Plays r p ds q → Plays r q es w → Plays r p (ds ++ es) w
plays_both r p q w [] es g h = subst (λ k. Plays r k es w) (sym g) h
plays_both r p q w (d ∷ ds) es g h = (g.0, g.1, plays_both r g.0 q w ds es g.2 h)

-- what a plain house holds of a line, on its sheets and under way
abbrev pub held : ℕ → PlainHouse → ℤ
held line p = line_sum (λ (f : List ℤ). f) line p.sheets +ℤ on_slips line p.under_way

pub length-changed : (r : Rule) (d : FullEvent) (f : List ℤ) → length (changed r d f) ≡ length f
length-changed r (enter' s a b code) f = length-entered f (r.gain a b code)
length-changed r (post' x) f = length-set f x.line _
length-changed r (take' x) f = length-set f x.line _

pub wide_put : (n : ℕ) (r : Rule) (d : FullEvent) (sheets : List (List ℤ)) (s : ℕ) → s < length sheets → s < n → ((t : ℕ) → t < n → length (get_or sheets t []) ≡ 32) → (t : ℕ) → t < n → length (get_or (set sheets s (changed r d (get_or sheets s []))) t []) ≡ 32
wide_put n r d sheets s l sn w t lt = ap (λ f. length (f t)) (get_or-put sheets s (changed r d (get_or sheets s [])) [] l) ∙ go (eqb t s)
  where
    go : (b : Bool) → length (cond b (changed r d (get_or sheets s [])) (get_or sheets t [])) ≡ 32
    go true = length-changed r d (get_or sheets s []) ∙ w s sn
    go false = w t lt

pub plays_one : (n : ℕ) (r : Rule) (p : PlainHouse) (d : FullEvent) (w : View) → Fine n p → Acts n r (plain_view p) d w → (q : PlainHouse) × (plain_step r p (event_of d) ≡ Some q) × (plain_view q ≡ w) × Fine n q × ((line : ℕ) → line < 32 → held line q ≡ held line p +ℤ gain_of r line (event_of d))
plays_one n r p (enter' s a b code) w f h =
    let lt : s < length p.sheets = rw f.sheets h.within in
    let new = entered (get_or p.sheets s []) (r.gain a b code) in
    let q : PlainHouse = record { sheets = set p.sheets s new; posted = p.posted; under_way = p.under_way } in
    let v : plain_view q ≡ w = same_view (plain_view q) w (get_or-put p.sheets s new [] lt ∙ sym h.sheet) (sym (put_own (λ t. get_or p.posted t 0) s) ∙ sym h.posted) (sym h.slips) in (
      q,
      rw (lt-ltb s (length p.sheets) lt, h.grant),
      v,
      record { sheets = length-set p.sheets s new ∙ f.sheets; posted = f.posted; distinct = f.distinct; numbered = subst Numbered (sym v) (numbered_acts n r (plain_view p) w (enter' s a b code) f.numbered h); wide = wide_put n r (enter' s a b code) p.sheets s lt h.within f.wide },
      λ line short. let g = figure_entered (get_or p.sheets s []) (r.gain a b code) line (rw (f.wide s h.within) short) in let m = sum_set (λ f. figure_at f line) p.sheets s new [] lt in omega (arith, ints),
    )
plays_one n r p (post' x) w f h =
    let lt : x.sender < length p.sheets = rw f.sheets h.within in
    let lr : x.receiver < length p.sheets = rw f.sheets h.fit.1 in
    let lp : x.sender < length p.posted = rw f.posted h.within in
    let nn = none_yet n p x.sender x.number f h.fit.0 in
    let new = debited (get_or p.sheets x.sender []) x.line x.amount in
    let q : PlainHouse = record { sheets = set p.sheets x.sender new; posted = set p.posted x.sender (get_or p.posted x.sender 0 + 1); under_way = p.under_way ++ x ∷ [] } in
    let v : plain_view q ≡ w = same_view (plain_view q) w (get_or-put p.sheets x.sender new [] lt ∙ sym h.sheet) (get_or-put p.posted x.sender _ 0 lp ∙ sym h.posted) (find_push p.under_way x nn ∙ sym h.slips) in (
      q,
      rw (lt-ltb x.sender (length p.sheets) lt, lt-ltb x.receiver (length p.sheets) lr, h.grant) (ap (λ k. Some (record { sheets = set p.sheets x.sender new; posted = set p.posted x.sender (get_or p.posted x.sender 0 + 1); under_way = p.under_way ++ (record { sender = x.sender; number = k; receiver = x.receiver; line = x.line; amount = x.amount } ∷ []) })) (sym h.fit.0)),
      v,
      record { sheets = length-set p.sheets x.sender new ∙ f.sheets; posted = length-set p.posted x.sender _ ∙ f.posted; distinct = distinct_push p.under_way x f.distinct nn; numbered = subst Numbered (sym v) (numbered_acts n r (plain_view p) w (post' x) f.numbered h); wide = wide_put n r (post' x) p.sheets x.sender lt h.within f.wide },
      λ line short. let g = figure_debited (get_or p.sheets x.sender []) x.line x.amount line (rw (f.wide x.sender h.within) short) in let m = sum_set (λ f. figure_at f line) p.sheets x.sender new [] lt in let k = sum_push (on_slip line) p.under_way x in omega (arith, ints),
    )
plays_one n r p (take' x) w f h =
    let lt : x.receiver < length p.sheets = rw f.sheets h.within in
    let new = credited (get_or p.sheets x.receiver []) x.line x.amount in
    let q : PlainHouse = record { sheets = set p.sheets x.receiver new; posted = p.posted; under_way = without x.sender x.number p.under_way } in
    let v : plain_view q ≡ w = same_view (plain_view q) w (get_or-put p.sheets x.receiver new [] lt ∙ sym h.sheet) (sym (put_own (λ t. get_or p.posted t 0) x.receiver) ∙ sym h.posted) (find_less p.under_way x.sender x.number f.distinct ∙ sym h.slips) in (
      q,
      rw (h.fit, h.grant),
      v,
      record { sheets = length-set p.sheets x.receiver new ∙ f.sheets; posted = f.posted; distinct = distinct_without x.sender x.number p.under_way f.distinct; numbered = subst Numbered (sym v) (numbered_acts n r (plain_view p) w (take' x) f.numbered h); wide = wide_put n r (take' x) p.sheets x.receiver lt h.within f.wide },
      λ line short. let g = figure_credited (get_or p.sheets x.receiver []) x.line x.amount line (rw (f.wide x.receiver h.within) short) in let m = sum_set (λ f. figure_at f line) p.sheets x.receiver new [] lt in let k = sum_without (on_slip line) x.sender x.number x p.under_way h.fit in omega (arith, ints),
    )

pub plays_all : (n : ℕ) (r : Rule) (ds : List FullEvent) (p : PlainHouse) (w : View) → Fine n p → Acted n r (plain_view p) ds w → (q : PlainHouse) × Plays r p (map event_of ds) q × (plain_view q ≡ w) × Fine n q × ((line : ℕ) → line < 32 → held line q ≡ held line p +ℤ sum_of (gain_of r line) (map event_of ds))
plays_all n r [] p w f h = (p, refl, h, f, λ line short. omega (arith, ints))
plays_all n r (d ∷ ds) p w f h =
    let one = plays_one n r p d h.0 f h.1 in
    let all = plays_all n r ds one.0 w one.3 (subst (λ v. Acted n r v ds w) (sym one.2) h.2) in
    (all.0, (one.0, one.1, all.1), all.2, all.3, λ line short. let a = all.4 line short in let o = one.4 line short in omega (arith, ints))
