-- The plain house as functions, and events with all that they mean; for the cut, in which events change places.
use Rattle.std.proofs.Common.{◌≡◌, ℕ, ◌+◌, ◌<◌, ◌≤◌, Bool, true, false, ◌≢◌, List, [], ◌∷◌, ◌++◌, ℤ, Some, None, Option, sym, refl, ap, ◌∙◌, subst, arith}
use mathlib.Core.Path.{fun_ext}
use Rattle.std.proofs.lemmas.Bool.Decides.{nat_tests}
use Rattle.std.specs.List.{AllByRecursion}
use Rattle.common.specs.Questions.{all_yes}
use Rattle.sections.specs.Rule.{SectionQuestions, Rule, entered, debited, credited}
use Rattle.house_rules.specs.declared.slip.Slip.{Slip}
use Rattle.house_rules.specs.Theorem.Cut.{put, put_slip}
use Rattle.house_rules.specs.State.Names.{same_name}
use Rattle.house_rules.proofs.Lists.Slips.{same_name_true}
use Rattle.house_rules.specs.Calls.Event.{Event, enter, post, take}
use Rattle.house_rules.proofs.Lists.Puts.{put_same, put_other, put_swap}

-- each station's sheet and posted number, and the slip under way of each name
pub record View : Type 0 where
  pub sheet : ℕ → List ℤ
  pub posted : ℕ → ℕ
  pub slips : ℕ → ℕ → Option Slip

-- an event with the slip that it is about
pub data FullEvent : Type 0 where
  enter' : (station a b : ℕ) (code : ℤ) → FullEvent
  post' : Slip → FullEvent
  take' : Slip → FullEvent

-- the event alone, and the station that it is of
abbrev pub event_of : FullEvent → Event
event_of (enter' s a b code) = enter s a b code
event_of (post' x) = post x.sender x.receiver x.line x.amount
event_of (take' x) = take x.sender x.number

abbrev pub actor : FullEvent → ℕ
actor (enter' s a b code) = s
actor (post' x) = x.sender
actor (take' x) = x.receiver

-- what the section asks of it, and what it makes of the sheet
abbrev pub section_questions : Rule → FullEvent → List ℤ → SectionQuestions
section_questions r (enter' s a b code) f = r.entry f a b code
section_questions r (post' x) f = r.debit f x.line x.amount
section_questions r (take' x) f = r.credit f x.line x.amount

abbrev pub changed : Rule → FullEvent → List ℤ → List ℤ
changed r (enter' s a b code) f = entered f (r.gain a b code)
changed r (post' x) f = debited f x.line x.amount
changed r (take' x) f = credited f x.line x.amount

-- what an event makes of its station's posted number
abbrev pub tally : FullEvent → ℕ → ℕ
tally (enter' s a b code) k = k
tally (post' x) k = k + 1
tally (take' x) k = k

-- what it makes of the slips under way
abbrev pub placed : FullEvent → (ℕ → ℕ → Option Slip) → ℕ → ℕ → Option Slip
placed (enter' s a b code) m = m
placed (post' x) m = put_slip m x.sender x.number (Some x)
placed (take' x) m = put_slip m x.sender x.number None

-- what an event asks of numbers and slips
abbrev pub Fit : ℕ → FullEvent → View → Type 0
Fit n (enter' s a b code) v = Unit {0}
Fit n (post' x) v = (x.number ≡ (v.posted x.sender + 1)) × (x.receiver < n)
Fit n (take' x) v = v.slips x.sender x.number ≡ Some x

-- the event is granted at v and leaves w
pub record Acts (n : ℕ) (r : Rule) (v : View) (d : FullEvent) (w : View) : Type 0 where
  pub within : actor d < n
  pub fit : Fit n d v
  pub grant : all_yes (section_questions r d (v.sheet (actor d))) ≡ true
  pub sheet : w.sheet ≡ put v.sheet (actor d) (changed r d (v.sheet (actor d)))
  pub posted : w.posted ≡ put v.posted (actor d) (tally d (v.posted (actor d)))
  pub slips : w.slips ≡ placed d v.slips

-- so are the events in turn
abbrev pub Acted : ℕ → Rule → View → List FullEvent → View → Type 0
Acted n r v [] w = v ≡ w
Acted n r v (d ∷ ds) w = (m : View) × Acts n r v d m × Acted n r m ds w

-- every slip under way has a number that was given
abbrev pub Numbered : View → Type 0
Numbered v = (a b : ℕ) (x : Slip) → v.slips a b ≡ Some x → b ≤ v.posted a

pub put2_swap : {X : Type 0} (f : ℕ → ℕ → X) (a b c d : ℕ) (v w : X) → same_name a b c d ≡ false → put_slip (put_slip f a b v) c d w ≡ put_slip (put_slip f c d w) a b v
put2_swap f a b c d v w h = fun_ext (λ x. fun_ext (λ y. grind (arith, nat_tests)))

-- the second does not take what the first posts
abbrev pub Free : FullEvent → FullEvent → Type 0
Free (enter' s a b code) e = Unit {0}
Free (post' x) (enter' s a b code) = Unit {0}
Free (post' x) (post' y) = Unit {0}
Free (post' x) (take' y) = same_name x.sender x.number y.sender y.number ≡ false
Free (take' x) e = Unit {0}

-- an event that leaves the place of a name alone
abbrev pub Clear : FullEvent → ℕ → ℕ → Type 0
Clear (enter' s a b code) p q = Unit {0}
Clear (post' x) p q = same_name x.sender x.number p q ≡ false
Clear (take' x) p q = same_name x.sender x.number p q ≡ false

abbrev pub Apart : FullEvent → FullEvent → Type 0
Apart d (enter' s a b code) = Unit {0}
Apart d (post' y) = Clear d y.sender y.number
Apart d (take' y) = Clear d y.sender y.number

pub placed_clear : (d : FullEvent) (m : ℕ → ℕ → Option Slip) (p q : ℕ) → Clear d p q → placed d m p q ≡ m p q
placed_clear (enter' s a b code) m p q c = refl
placed_clear (post' x) m p q c = rw c
placed_clear (take' x) m p q c = rw c

pub same_sym : (a b x y : ℕ) → same_name a b x y ≡ false → same_name x y a b ≡ false
same_sym a b x y h = grind (arith, nat_tests)

pub apart_sym : (d e : FullEvent) → Apart d e → Apart e d
apart_sym (enter' s a b code) (enter' s' a' b' code') h = tt
apart_sym (enter' s a b code) (post' y) h = tt
apart_sym (enter' s a b code) (take' y) h = tt
apart_sym (post' x) (enter' s a b code) h = tt
apart_sym (post' x) (post' y) h = same_sym x.sender x.number y.sender y.number h
apart_sym (post' x) (take' y) h = same_sym x.sender x.number y.sender y.number h
apart_sym (take' x) (enter' s a b code) h = tt
apart_sym (take' x) (post' y) h = same_sym x.sender x.number y.sender y.number h
apart_sym (take' x) (take' y) h = same_sym x.sender x.number y.sender y.number h

pub placed_swap : (d e : FullEvent) (m : ℕ → ℕ → Option Slip) → Apart d e → placed e (placed d m) ≡ placed d (placed e m)
placed_swap (enter' s a b code) (enter' s' a' b' code') m h = refl
placed_swap (enter' s a b code) (post' y) m h = refl
placed_swap (enter' s a b code) (take' y) m h = refl
placed_swap (post' x) (enter' s a b code) m h = refl
placed_swap (post' x) (post' y) m h = put2_swap m x.sender x.number y.sender y.number (Some x) (Some y) h
placed_swap (post' x) (take' y) m h = put2_swap m x.sender x.number y.sender y.number (Some x) None h
placed_swap (take' x) (enter' s a b code) m h = refl
placed_swap (take' x) (post' y) m h = put2_swap m x.sender x.number y.sender y.number None (Some y) h
placed_swap (take' x) (take' y) m h = put2_swap m x.sender x.number y.sender y.number None None h

-- what an event asks is asked as well where another station's event has been done that keeps clear of it
pub fit_moves : (n : ℕ) (e d : FullEvent) (v w : View) → actor e ≢ actor d → Apart d e → w.posted ≡ put v.posted (actor d) (tally d (v.posted (actor d))) → w.slips ≡ placed d v.slips → (Fit n e v → Fit n e w) × (Fit n e w → Fit n e v)
fit_moves n (enter' s a b code) d v w ne ap' p m = (λ x. x, λ x. x)
fit_moves n (post' y) d v w ne ap' p m =
    let k : w.posted y.sender ≡ v.posted y.sender = ap (λ f. f y.sender) p ∙ put_other v.posted (actor d) y.sender _ ne in
    (λ f. (f.0 ∙ ap (λ j. j + 1) (sym k), f.1), λ f. (f.0 ∙ ap (λ j. j + 1) k, f.1))
fit_moves n (take' y) d v w ne ap' p m =
    let k : w.slips y.sender y.number ≡ v.slips y.sender y.number = ap (λ f. f y.sender y.number) m ∙ placed_clear d v.slips y.sender y.number ap' in
    (λ f. k ∙ f, λ f. sym k ∙ f)

pub apart : (n : ℕ) (d e : FullEvent) (v w : View) → Numbered v → actor d ≢ actor e → Free d e → Fit n d v → Fit n e w → w.posted ≡ put v.posted (actor d) (tally d (v.posted (actor d))) → w.slips ≡ placed d v.slips → Apart d e
apart n d (enter' s a b code) v w num ne fr fd fe p m = tt
apart n (enter' s a b code) (post' y) v w num ne fr fd fe p m = tt
apart n (enter' s a b code) (take' y) v w num ne fr fd fe p m = tt
apart n (post' x) (post' y) v w num ne fr fd fe p m = grind (arith, nat_tests)
apart n (post' x) (take' y) v w num ne fr fd fe p m = fr
apart n (take' x) (post' y) v w num ne fr fd fe p m =
    let k : w.posted y.sender ≡ v.posted y.sender = ap (λ f. f y.sender) p ∙ put_other v.posted x.receiver y.sender _ (λ e. ne (sym e)) in
    let l = num x.sender x.number x fd in
    go (same_name x.sender x.number y.sender y.number) refl k l
  where
    go : (t : Bool) → same_name x.sender x.number y.sender y.number ≡ t → w.posted y.sender ≡ v.posted y.sender → x.number ≤ v.posted x.sender → t ≡ false
    go false t k l = refl
    go true t k l =
        let q = same_name_true x.sender x.number y.sender y.number t in
        let l' : x.number ≤ v.posted y.sender = rw q.0 l in
        let g = fe.0 in
        absurd (omega (arith, q.1))
apart n (take' x) (take' y) v w num ne fr fd fe p m =
    let k : w.slips y.sender y.number ≡ put_slip v.slips x.sender x.number None y.sender y.number = ap (λ f. f y.sender y.number) m in
    grind arith

-- two events of different stations change places
pub swap : (n : ℕ) (r : Rule) (x y z : View) (d e : FullEvent) → Numbered x → Acts n r x d y → Acts n r y e z → actor d ≢ actor e → Free d e → (w : View) × Acts n r x e w × Acts n r w d z
swap n r x y z d e num p q ne fr =
    let en : actor e ≢ actor d = λ k. ne (sym k) in
    let a = apart n d e x y num ne fr p.fit q.fit p.posted p.slips in
    let w : View = record { sheet = put x.sheet (actor e) (changed r e (x.sheet (actor e))); posted = put x.posted (actor e) (tally e (x.posted (actor e))); slips = placed e x.slips } in
    let ys : y.sheet (actor e) ≡ x.sheet (actor e) = ap (λ f. f (actor e)) p.sheet ∙ put_other x.sheet (actor d) (actor e) _ en in
    let yp : y.posted (actor e) ≡ x.posted (actor e) = ap (λ f. f (actor e)) p.posted ∙ put_other x.posted (actor d) (actor e) _ en in
    let ws : w.sheet (actor d) ≡ x.sheet (actor d) = put_other x.sheet (actor e) (actor d) _ ne in
    let wp : w.posted (actor d) ≡ x.posted (actor d) = put_other x.posted (actor e) (actor d) _ ne in (
      w,
      record { within = q.within; fit = (fit_moves n e d x y en a p.posted p.slips).1 q.fit; grant = ap (λ f. all_yes (section_questions r e f)) (sym ys) ∙ q.grant; sheet = refl; posted = refl; slips = refl },
      record {
        within = p.within;
        fit = (fit_moves n d e x w ne (apart_sym d e a) refl refl).0 p.fit;
        grant = ap (λ f. all_yes (section_questions r d f)) ws ∙ p.grant;
        sheet = q.sheet ∙ ap (λ k. put y.sheet (actor e) (changed r e k)) ys ∙ ap (λ f. put f (actor e) (changed r e (x.sheet (actor e)))) p.sheet ∙ put_swap x.sheet (actor d) (actor e) _ _ ne ∙ ap (λ k. put w.sheet (actor d) (changed r d k)) (sym ws);
        posted = q.posted ∙ ap (λ k. put y.posted (actor e) (tally e k)) yp ∙ ap (λ f. put f (actor e) (tally e (x.posted (actor e)))) p.posted ∙ put_swap x.posted (actor d) (actor e) _ _ ne ∙ ap (λ k. put w.posted (actor d) (tally d k)) (sym wp);
        slips = q.slips ∙ ap (placed e) p.slips ∙ placed_swap d e x.slips a;
      },
    )

pub tally_le : (d : FullEvent) (k : ℕ) → k ≤ tally d k
tally_le (enter' s a b code) k = omega arith
tally_le (post' x) k = omega arith
tally_le (take' x) k = omega arith

pub posted_grows : (n : ℕ) (r : Rule) (v w : View) (d : FullEvent) → Acts n r v d w → (a : ℕ) → v.posted a ≤ w.posted a
posted_grows n r v w d h a =
    let k : w.posted a ≡ put v.posted (actor d) (tally d (v.posted (actor d))) a = ap (λ f. f a) h.posted in
    rw k (let g = tally_le d (v.posted (actor d)) in grind (arith, nat_tests))

pub numbered_acts : (n : ℕ) (r : Rule) (v w : View) (d : FullEvent) → Numbered v → Acts n r v d w → Numbered w
numbered_acts n r v w (enter' s p q code) num h a b x e =
    let g = posted_grows n r v w (enter' s p q code) h a in
    let k = num a b x (ap (λ f. f a b) (sym h.slips) ∙ e) in omega arith
numbered_acts n r v w (post' y) num h a b x e =
    let g = posted_grows n r v w (post' y) h a in
    go (same_name y.sender y.number a b) refl (ap (λ f. f a b) (sym h.slips) ∙ e) g
  where
    go : (t : Bool) → same_name y.sender y.number a b ≡ t → put_slip v.slips y.sender y.number (Some y) a b ≡ Some x → v.posted a ≤ w.posted a → b ≤ w.posted a
    go true t e' g =
        let q = same_name_true y.sender y.number a b t in
        let f = h.fit.0 in
        let p : w.posted y.sender ≡ (v.posted y.sender + 1) = ap (λ f. f y.sender) h.posted ∙ put_same v.posted y.sender _ in
        let p' : w.posted a ≡ (v.posted y.sender + 1) = rw q.0 p in
        omega (arith, q.1)
    go false t e' g = let k = num a b x (rw t at e') in omega arith
numbered_acts n r v w (take' y) num h a b x e =
    let g = posted_grows n r v w (take' y) h a in
    go (same_name y.sender y.number a b) refl (ap (λ f. f a b) (sym h.slips) ∙ e) g
  where
    go : (t : Bool) → same_name y.sender y.number a b ≡ t → put_slip v.slips y.sender y.number None a b ≡ Some x → v.posted a ≤ w.posted a → b ≤ w.posted a
    go true t e' g = let z : ◌≡◌ {A = ℕ} 0 1 = cc in absurd (omega arith)
    go false t e' g = let k = num a b x (rw t at e') in omega arith

pub numbered_acted : (n : ℕ) (r : Rule) (ds : List FullEvent) (v w : View) → Numbered v → Acted n r v ds w → Numbered w
numbered_acted n r [] v w num e = subst Numbered e num
numbered_acted n r (d ∷ ds) v w num h = numbered_acted n r ds h.0 w (numbered_acts n r v h.0 d num h.1) h.2

pub acted_push : (n : ℕ) (r : Rule) (ds : List FullEvent) (e : FullEvent) (x y z : View) → Acted n r x ds y → Acts n r y e z → Acted n r x (ds ++ e ∷ []) z
acted_push n r [] e x y z h a = (z, subst (λ v. Acts n r v e z) (sym h) a, refl)
acted_push n r (d ∷ ds) e x y z h a = (h.0, h.1, acted_push n r ds e h.0 y z h.2 a)

-- an event of another station goes before all of them
pub moves : (n : ℕ) (r : Rule) (ds : List FullEvent) (e : FullEvent) (x y z : View) → Numbered x → Acted n r x ds y → Acts n r y e z → AllByRecursion (λ d. (actor d ≢ actor e) × Free d e) ds → (w : View) × Acts n r x e w × Acted n r w ds z
moves n r [] e x y z num h a al = (z, subst (λ v. Acts n r v e z) (sym h) a, refl)
moves n r (d ∷ ds) e x y z num h a al =
    let i = moves n r ds e h.0 y z (numbered_acts n r x h.0 d num h.1) h.2 a al.1 in
    let s = swap n r x h.0 i.0 d e num h.1 i.1 al.0.0 al.0.1 in
    (s.0, s.1, (i.0, s.2, i.2))
