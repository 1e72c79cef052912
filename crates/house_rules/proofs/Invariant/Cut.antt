-- The cut while a count is open: what runs before it, and what runs after.
use Rattle.std.proofs.Common.{◌≡◌, ℕ, ◌<◌, Bool, true, false, cond, eqb, ◌≢◌, List, [], ◌∷◌, ◌++◌, map, ℤ, None, Option, sym, refl, ap, ◌∙◌, arith}
use Rattle.std.proofs.ByRecursion.{All-append, All-weaker}
use Rattle.std.proofs.lemmas.List.{map-append}
use Rattle.std.proofs.lemmas.Bool.{eqb-true, eqb-false}
use Rattle.std.proofs.lemmas.Bool.Decides.{nat_tests}
use Rattle.std.specs.List.{AllByRecursion}
use Rattle.sections.specs.Rule.{Rule}
use Rattle.house_rules.specs.declared.slip.Slip.{Slip}
use Rattle.house_rules.specs.Theorem.Cut.{put}
use Rattle.house_rules.specs.State.Names.{same_name, find}
use Rattle.house_rules.proofs.Lists.Slips.{same_name_true, or_else}
use Rattle.house_rules.proofs.Invariant.PlainHouse.{View, FullEvent, event_of, actor, changed, placed, Acts, Acted, Numbered, Free, numbered_acted, acted_push, moves, enter', post', take'}
use Rattle.house_rules.specs.Calls.Event.{Event}
use Rattle.house_rules.proofs.Lists.Puts.{put_same, put_other}

-- a slip that is posted after the cut is new
abbrev pub Fresh : (ℕ → ℕ → Bool) → FullEvent → Type 0
Fresh new (enter' s a b code) = Unit {0}
Fresh new (post' x) = new x.sender x.number ≡ true
Fresh new (take' x) = Unit {0}

-- what lay under way at the cut
abbrev pub pending : (ℕ → ℕ → Bool) → (ℕ → ℕ → Option Slip) → List Slip → ℕ → ℕ → Option Slip
pending new slips late a b = cond (new a b) None (or_else (slips a b) (find a b late))

-- x is what the events before the cut leave of the plain house, and v what those after it leave from there: x has the recorded
-- sheet of a station that has turned and the present one of any other, and what lay under way at the cut
pub record Split (n : ℕ) (r : Rule) (start : View) (recorded : ℕ → List ℤ) (v : View) (late : List Slip) (turned : ℕ → Bool) (new : ℕ → ℕ → Bool) (pre post : List Event) : Type 0 where
  pub x : View
  pub dpre : List FullEvent
  pub dpost : List FullEvent
  pub is_pre : map event_of dpre ≡ pre
  pub is_post : map event_of dpost ≡ post
  pub before : Acted n r start dpre x
  pub rest : Acted n r x dpost v
  pub who : AllByRecursion (λ d. turned (actor d) ≡ true) dpost
  pub made : AllByRecursion (Fresh new) dpost
  pub sheets : (s : ℕ) → s < n → x.sheet s ≡ cond (turned s) (recorded s) (v.sheet s)
  pub slips : (a b : ℕ) → x.slips a b ≡ pending new v.slips late a b

pub event_push : (ds : List FullEvent) (d : FullEvent) (es : List Event) → map event_of ds ≡ es → map event_of (ds ++ d ∷ []) ≡ es ++ event_of d ∷ []
event_push ds d es e = map-append event_of ds (d ∷ []) ∙ ap (λ l. l ++ event_of d ∷ []) e

pub all_both : {X : Type 0} (P Q : X → Type 0) (xs : List X) → AllByRecursion P xs → AllByRecursion Q xs → AllByRecursion (λ x. P x × Q x) xs
all_both P Q [] p q = tt
all_both P Q (x ∷ xs) p q = ((p.0, q.0), all_both P Q xs p.1 q.1)

-- the event takes nothing that is new
abbrev pub Old : (ℕ → ℕ → Bool) → FullEvent → Type 0
Old new (enter' s a b code) = Unit {0}
Old new (post' x) = Unit {0}
Old new (take' x) = new x.sender x.number ≡ false

pub free : (new : ℕ → ℕ → Bool) (d e : FullEvent) → Fresh new d → Old new e → Free d e
free new (enter' s a b code) e f o = tt
free new (post' x) (enter' s a b code) f o = tt
free new (post' x) (post' y) f o = tt
free new (post' x) (take' y) f o = go (same_name x.sender x.number y.sender y.number) refl
  where
    go : (t : Bool) → same_name x.sender x.number y.sender y.number ≡ t → t ≡ false
    go false t = refl
    go true t =
        let q = same_name_true x.sender x.number y.sender y.number t in
        let o' : new x.sender x.number ≡ false = rw (q.0, q.1) at o in
        let z : ◌≡◌ {A = ℕ} 0 1 = cc in absurd (omega arith)
free new (take' x) e f o = tt

pub fresh_still : (new new' : ℕ → ℕ → Bool) (d : FullEvent) → ((a b : ℕ) → new a b ≡ true → new' a b ≡ true) → Fresh new d → Fresh new' d
fresh_still new new' (enter' s a b code) h f = tt
fresh_still new new' (post' x) h f = h x.sender x.number f
fresh_still new new' (take' x) h f = tt

module _ (n : ℕ) (r : Rule) (start : View) (recorded : ℕ → List ℤ) (v : View) (late : List Slip) (turned : ℕ → Bool) (new : ℕ → ℕ → Bool) (pre post : List Event) (sp : Split n r start recorded v late turned new pre post) where
  pub split_turn : (s : ℕ) → turned s ≡ false → Split n r start (put recorded s (v.sheet s)) v late (put turned s true) new pre post
  split_turn s un =
      record {
        x = sp.x;
        dpre = sp.dpre;
        dpost = sp.dpost;
        is_pre = sp.is_pre;
        is_post = sp.is_post;
        before = sp.before;
        rest = sp.rest;
        who = All-weaker _ _ (λ d h. grind arith) sp.dpost sp.who;
        made = sp.made;
        sheets = λ t l. go t l (eqb t s) refl;
        slips = sp.slips;
      }
    where
      go : (t : ℕ) → t < n → (b : Bool) → eqb t s ≡ b → sp.x.sheet t ≡ cond (put turned s true t) (put recorded s (v.sheet s) t) (v.sheet t)
      go t l true e = let g = sp.sheets t l in grind (arith, nat_tests)
      go t l false e = rw e (sp.sheets t l)

  -- an event of a station that has turned goes behind the cut
  pub split_later : (e : FullEvent) (v' : View) (late' : List Slip) (new' : ℕ → ℕ → Bool) → Acts n r v e v' → turned (actor e) ≡ true → Fresh new' e → ((a b : ℕ) → new a b ≡ true → new' a b ≡ true) → ((a b : ℕ) → pending new v.slips late a b ≡ pending new' v'.slips late' a b) → Split n r start recorded v' late' turned new' pre (post ++ event_of e ∷ [])
  split_later e v' late' new' act tu fr still same-slips =
      record {
        x = sp.x;
        dpre = sp.dpre;
        dpost = sp.dpost ++ e ∷ [];
        is_pre = sp.is_pre;
        is_post = event_push sp.dpost e post sp.is_post;
        before = sp.before;
        rest = acted_push n r sp.dpost e sp.x v v' sp.rest act;
        who = All-append _ sp.dpost (e ∷ []) sp.who (tu, tt);
        made = All-append _ sp.dpost (e ∷ []) (All-weaker _ _ (λ d f. fresh_still new new' d still f) sp.dpost sp.made) (fr, tt);
        sheets = λ t l. go t l (turned t) refl;
        slips = λ a b. sp.slips a b ∙ same-slips a b;
      }
    where
      go : (t : ℕ) → t < n → (b : Bool) → turned t ≡ b → sp.x.sheet t ≡ cond (turned t) (recorded t) (v'.sheet t)
      go t l true k = sp.sheets t l ∙ rw k
      go t l false k =
          let ne : t ≢ actor e = λ q. let z : ◌≡◌ {A = ℕ} 0 1 = cc in omega arith in
          sp.sheets t l ∙ rw k (sym (ap (λ f. f t) act.sheet ∙ put_other v.sheet (actor e) t _ ne))

  -- an event of a station that has not turned goes before all that stands behind the cut
  pub split_sooner : (e : FullEvent) (v' : View) (new' : ℕ → ℕ → Bool) → Numbered start → Acts n r v e v' → turned (actor e) ≡ false → Old new e → ((a b : ℕ) → new a b ≡ true → new' a b ≡ true) → ((a b : ℕ) → placed e sp.x.slips a b ≡ pending new' v'.slips late a b) → Split n r start recorded v' late turned new' (pre ++ event_of e ∷ []) post
  split_sooner e v' new' num act un old still same-slips =
      let m = moves n r sp.dpost e sp.x v v' (numbered_acted n r sp.dpre start sp.x num sp.before) sp.rest act (All-weaker _ _ (λ d h. (elsewhere d h.0, free new d e h.1 old)) sp.dpost (all_both _ _ sp.dpost sp.who sp.made)) in
      record {
        x = m.0;
        dpre = sp.dpre ++ e ∷ [];
        dpost = sp.dpost;
        is_pre = event_push sp.dpre e pre sp.is_pre;
        is_post = sp.is_post;
        before = acted_push n r sp.dpre e start sp.x m.0 sp.before m.1;
        rest = m.2;
        who = sp.who;
        made = All-weaker _ _ (λ d f. fresh_still new new' d still f) sp.dpost sp.made;
        sheets = λ t l. go m.0 m.1 t l (eqb t (actor e)) refl;
        slips = λ a b. ap (λ f. f a b) m.1.slips ∙ same-slips a b;
      }
    where
      elsewhere : (d : FullEvent) → turned (actor d) ≡ true → actor d ≢ actor e
      elsewhere d h q = let z : ◌≡◌ {A = ℕ} 0 1 = cc in omega arith

      go : (w : View) → Acts n r sp.x e w → (t : ℕ) → t < n → (b : Bool) → eqb t (actor e) ≡ b → w.sheet t ≡ cond (turned t) (recorded t) (v'.sheet t)
      go w a t l true k =
          let q = eqb-true t (actor e) k in
          let xs : sp.x.sheet (actor e) ≡ v.sheet (actor e) = sp.sheets (actor e) a.within ∙ rw un in
          let ff : changed r e (sp.x.sheet (actor e)) ≡ changed r e (v.sheet (actor e)) = ap (changed r e) xs in
          let wt : w.sheet (actor e) ≡ changed r e (sp.x.sheet (actor e)) = ap (λ f. f (actor e)) a.sheet ∙ put_same sp.x.sheet (actor e) _ in
          let vt : v'.sheet (actor e) ≡ changed r e (v.sheet (actor e)) = ap (λ f. f (actor e)) act.sheet ∙ put_same v.sheet (actor e) _ in
          rw (q, un) (wt ∙ ff ∙ sym vt)
      go w a t l false k =
          let ne = eqb-false t (actor e) k in
          let wt : w.sheet t ≡ sp.x.sheet t = ap (λ f. f t) a.sheet ∙ put_other sp.x.sheet (actor e) t _ ne in
          let vt : v'.sheet t ≡ v.sheet t = ap (λ f. f t) act.sheet ∙ put_other v.sheet (actor e) t _ ne in
          wt ∙ sp.sheets t l ∙ rw vt
