-- post: where it is granted it keeps the invariant.
use Rattle.std.proofs.Common.{◌≡◌, ℕ, suc, ◌+◌, ◌<◌, ◌≤◌, Bool, true, false, cond, not, List, [], ◌∷◌, ◌++◌, length, ℤ, pos, ◌+ℤ◌, Some, None, Option, sym, refl, ap, ◌∙◌, subst, arith}
use mathlib.Core.Path.{fun_ext}
use Rattle.std.proofs.ByRecursion.{All-append}
use Rattle.std.proofs.lemmas.List.{length-set}
use Rattle.std.proofs.lemmas.Int.{ints}
use Rattle.std.proofs.lemmas.Bool.Decides.{nat_tests}
use Rattle.common.specs.Questions.{all_yes}
use Rattle.sections.specs.Rule.{Rule}
use Rattle.house_rules.specs.declared.colour.Colour.{Colour}
use Rattle.house_rules.specs.declared.phase.Phase.{Phase}
use Rattle.house_rules.specs.declared.slip.ColouredSlip.{ColouredSlip}
use Rattle.house_rules.specs.declared.slip.Slip.{Slip}
use Rattle.house_rules.specs.Theorem.Cut.{put, put_slip, Cut, with_event, with_post}
use Rattle.house_rules.specs.State.Names.{same_name, find, slips_of}
use Rattle.house_rules.specs.Calls.Post.{posted_station, posted_slip, posted_cells}
use Rattle.house_rules.specs.State.House.{Cells, station_at, sheet_at}
use Rattle.house_rules.proofs.Invariant.Deficits.{balance_post_new, balance_post_old}
use Rattle.house_rules.proofs.Invariant.Colours.{Colouring, colouring_post}
use Rattle.house_rules.proofs.Invariant.Cells.{cells_view, field_put, field_kept, slips_push, post_acts}
use Rattle.house_rules.proofs.Invariant.Names.{Naming, find_push_at, fresh_tray, fresh_late, naming_post}
use Rattle.house_rules.proofs.Invariant.Shared.{by_phase, colouring_as, balance_as, common_act, start_numbered, root_waits}
use Rattle.house_rules.proofs.Invariant.PlainSteps.{none_yet}
use Rattle.house_rules.proofs.Lists.Slips.{same_name_refl, same_name_true}
use Rattle.house_rules.proofs.Invariant.Sound.{Between, Tree, During, Sound}
use Rattle.house_rules.proofs.Invariant.Cut.{pending, split_later, split_sooner}
use Rattle.house_rules.proofs.Lists.Totals.{sum_z, sum_z_put, count, count_push, count_agree}
use Rattle.house_rules.proofs.Invariant.PlainHouse.{Acts, post'}
use Rattle.house_rules.specs.Calls.Event.{post}
use Rattle.house_rules.proofs.Lists.Puts.{put_same}

pub count_posted : (p : ℕ → ℕ → Bool) (v : Bool) (tray : List ColouredSlip) (x : ColouredSlip) (q : ℕ → ℕ → Bool) → ((a b : ℕ) → same_name x.slip.sender x.slip.number a b ≡ false → q a b ≡ p a b) → q x.slip.sender x.slip.number ≡ v → find x.slip.sender x.slip.number (slips_of tray) ≡ None → count q (tray ++ x ∷ []) ≡ count p tray + cond v 1 0
count_posted p v tray x q agree here none_yet =
    count_push q tray x ∙ ap (λ k. k + cond (q x.slip.sender x.slip.number) 1 0) (count_agree q p x.slip.sender x.slip.number tray agree none_yet) ∙ ap (λ t. count p tray + cond t 1 0) here

module _ (r : Rule) (c : Cut) (p : Phase) (cells : Cells) (out : ℕ) (so : Sound r c p cells out) (s to line : ℕ) (amount : ℤ) (lt : s < cells.n) (lr : to < cells.n) (yes' : all_yes (r.debit (sheet_at cells s) line amount) ≡ true) where
  pub post_sound : Sound r (with_event (with_post c s to (c.posted s + 1)) (c.turned s) (post s to line amount)) p (posted_cells cells s to line amount) out
  post_sound =
      subst (λ k. Sound r (with_event (with_post c s to k) (c.turned s) (post s to line amount)) p cells' out) (ap (λ j. j + 1) (sym (so.common.sent_is s)))
      (record {
        shape = record { some' = so.shape.some'; few = so.shape.few; sheets = length-set cells.sheets s _ ∙ so.shape.sheets; recorded = so.shape.recorded; stations = length-set cells.stations s _ ∙ so.shape.stations };
        common =
            common_act cells.n r c.all c.posted _ c.receiver _ (cells_view cells) (cells_view cells') (slips_of cells.tray) (slips_of cells'.tray) (slips_of cells.late) (slips_of cells.late) (post' slip) so.common act
            naming'
            (λ t. ap (λ f. put f s ((station_at cells s).posted + 1) t) (fun_ext so.common.sent_is) ∙ ap (λ f. f t) (sym posted_is))
            (λ a b x e. goes' a b x (same_name s ((station_at cells s).posted + 1) a b) refl (sym (find_push_at (slips_of cells.tray) slip nt a b) ∙ ap (λ l. find a b l) (sym tray_is) ∙ e));
        state = by_phase p _ _ _ _ between (λ k. go k (c.turned s) refl) so.state;
      })
    where
      slip : Slip
      slip = posted_slip cells s to line amount

      posted_slip_lem : ColouredSlip
      posted_slip_lem = record { slip = slip; colour = (station_at cells s).colour }

      cells' : Cells
      cells' = posted_cells cells s to line amount

      ls : s < length cells.stations
      ls = rw so.shape.stations lt

      act : Acts cells.n r (cells_view cells) (post' slip) (cells_view cells')
      act = post_acts r cells so.shape so.common.naming.given s to line amount lt lr yes'

      tray_is : slips_of cells'.tray ≡ slips_of cells.tray ++ slip ∷ []
      tray_is = slips_push cells.tray posted_slip_lem

      posted_is : (λ t. (station_at cells' t).posted) ≡ put (λ t. (station_at cells t).posted) s ((station_at cells s).posted + 1)
      posted_is = field_put (λ t. t.posted) cells.stations s (posted_station (station_at cells s)) ls

      nt : find s ((station_at cells s).posted + 1) (slips_of cells.tray) ≡ None
      nt = fresh_tray cells.n _ _ _ so.common.naming s

      nl : find s ((station_at cells s).posted + 1) (slips_of cells.late) ≡ None
      nl = fresh_late cells.n _ _ _ so.common.naming s

      naming' : Naming cells.n (λ t. (station_at cells' t).posted) (slips_of cells'.tray) (slips_of cells.late)
      naming' = subst (λ l. Naming cells.n (λ t. (station_at cells' t).posted) l (slips_of cells.late)) (sym tray_is) (subst (λ f. Naming cells.n f (slips_of cells.tray ++ slip ∷ []) (slips_of cells.late)) (sym posted_is) (naming_post cells.n _ _ _ so.common.naming slip refl lr))

      goes' : (a b : ℕ) (x : Slip) (t : Bool) → same_name s ((station_at cells s).posted + 1) a b ≡ t → put_slip (λ a b. find a b (slips_of cells.tray)) s ((station_at cells s).posted + 1) (Some slip) a b ≡ Some x → put_slip c.receiver s ((station_at cells s).posted + 1) to a b ≡ x.receiver
      goes' a b x true t e = rw t (let q : slip ≡ x = cc in ap (λ (y : Slip). y.receiver) q)
      goes' a b x false t e = rw t (so.common.goes_is a b x (rw t at e))

      running_is : (λ t. (station_at cells' t).running) ≡ put (λ t. (station_at cells t).running) s ((station_at cells s).running +ℤ pos 1)
      running_is = field_put (λ t. t.running) cells.stations s (posted_station (station_at cells s)) ls

      colour_is : ◌≡◌ {A = ℕ → Colour} (λ t. (station_at cells' t).colour) (λ t. (station_at cells t).colour)
      colour_is = field_kept (λ t. t.colour) cells.stations s (posted_station (station_at cells s)) ls refl

      turned_is : ◌≡◌ {A = ℕ → Bool} (λ t. (station_at cells' t).turned) (λ t. (station_at cells t).turned)
      turned_is = field_kept (λ t. t.turned) cells.stations s (posted_station (station_at cells s)) ls refl

      frozen_is : ◌≡◌ {A = ℕ → ℤ} (λ t. (station_at cells' t).frozen) (λ t. (station_at cells t).frozen)
      frozen_is = field_kept (λ t. t.frozen) cells.stations s (posted_station (station_at cells s)) ls refl

      unreported_is : ◌≡◌ {A = ℕ → ℕ} (λ t. (station_at cells' t).unreported) (λ t. (station_at cells t).unreported)
      unreported_is = field_kept (λ t. t.unreported) cells.stations s (posted_station (station_at cells s)) ls refl

      gathered_is : ◌≡◌ {A = ℕ → Bool} (λ t. (station_at cells' t).gathered) (λ t. (station_at cells t).gathered)
      gathered_is = field_kept (λ t. t.gathered) cells.stations s (posted_station (station_at cells s)) ls refl

      between : Between cells.n (λ t. (station_at cells t).colour) (λ t. (station_at cells t).running) cells.tray → Between cells.n (λ t. (station_at cells' t).colour) (λ t. (station_at cells' t).running) cells'.tray
      between k =
          record {
            base = k.base;
            coloured = λ t l. ap (λ f. f t) colour_is ∙ k.coloured t l;
            slips = All-append _ cells.tray (posted_slip_lem ∷ []) k.slips (k.coloured s lt, tt);
            running =
                let m = sum_z_put (λ t. (station_at cells t).running) s ((station_at cells s).running +ℤ pos 1) cells.n lt in
                let e = ap (λ f. sum_z f cells.n) running_is in
                let g = k.running in
                let p = count_push (λ a b. true) cells.tray posted_slip_lem in
                e ∙ (let w : sum_z (put (λ t. (station_at cells t).running) s ((station_at cells s).running +ℤ pos 1)) cells.n ≡ pos (count (λ a b. true) cells.tray + 1) = omega (arith, ints) in w) ∙ ap pos (sym p);
          }

      new' : ℕ → ℕ → Bool
      new' = put_slip c.new s ((station_at cells s).posted + 1) (c.turned s)

      new_here : new' s ((station_at cells s).posted + 1) ≡ c.turned s
      new_here = rw (same_name_refl s ((station_at cells s).posted + 1))

      new_else : (a b : ℕ) → same_name s ((station_at cells s).posted + 1) a b ≡ false → new' a b ≡ c.new a b
      new_else a b e = rw e

      news : count new' cells'.tray ≡ count c.new cells.tray + cond (c.turned s) 1 0
      news = count_posted c.new (c.turned s) cells.tray posted_slip_lem new' new_else new_here nt

      olds : count (λ a b. not (new' a b)) cells'.tray ≡ count (λ a b. not (c.new a b)) cells.tray + cond (not (c.turned s)) 1 0
      olds = count_posted (λ a b. not (c.new a b)) (not (c.turned s)) cells.tray posted_slip_lem (λ a b. not (new' a b)) (λ a b e. ap not (new_else a b e)) (ap not new_here) nt

      colouring' : (k : During r c cells out) → Colouring cells.n k.base (λ t. (station_at cells' t).turned) (λ t. (station_at cells' t).colour) cells'.tray (slips_of cells.late) c.turned new'
      colouring' k = colouring_as (sym turned_is) (sym colour_is) refl (colouring_post cells.n k.base _ _ cells.tray (slips_of cells.late) c.turned c.new k.colouring posted_slip_lem (c.turned s) (k.colouring.coloured s lt) nt nl)

      tree' : During r c cells out → Tree cells.n (λ t. (station_at cells' t).gathered) c.turned
      tree' k = subst (λ f. Tree cells.n f c.turned) (sym gathered_is) k.tree

      given' : During r c cells out → (a b : ℕ) → new' a b ≡ true → b ≤ (station_at cells' a).posted
      given' k a b e = rw (ap (λ f. f a) posted_is) (given_at k a b e (same_name s ((station_at cells s).posted + 1) a b) refl)
        where
          given_at : During r c cells out → (a b : ℕ) → new' a b ≡ true → (t : Bool) → same_name s ((station_at cells s).posted + 1) a b ≡ t → b ≤ put (λ t. (station_at cells t).posted) s ((station_at cells s).posted + 1) a
          given_at k a b e true t = let w = same_name_true s ((station_at cells s).posted + 1) a b t in rw (w.0, w.1) (rw (put_same (λ t. (station_at cells t).posted) s ((station_at cells s).posted + 1)) (omega arith))
          given_at k a b e false t = let g = k.given a b (rw t at e) in grind (arith, nat_tests)

      slips_at : (a b : ℕ) → find a b (slips_of cells'.tray) ≡ put_slip (λ a b. find a b (slips_of cells.tray)) s ((station_at cells s).posted + 1) (Some slip) a b
      slips_at a b = ap (λ f. f a b) act.slips

      go : During r c cells out → (t : Bool) → c.turned s ≡ t → During r (with_event (with_post c s to ((station_at cells s).posted + 1)) t (post s to line amount)) cells' out
      go k true e =
          record {
            base = k.base;
            colouring = colouring' k;
            split = split_later _ _ _ _ _ _ _ _ _ _ k.split (post' slip) (cells_view cells') (slips_of cells.late) new' act e (new_here ∙ e) (λ a b q. still a b q (same_name s ((station_at cells s).posted + 1) a b) refl) (λ a b. pend a b (same_name s ((station_at cells s).posted + 1) a b) refl);
            balance = balance_as (sym running_is) (sym frozen_is) (sym unreported_is) (ap (λ f. f 0) (sym gathered_is)) (let o = olds in (let w : count (λ a b. not (c.new a b)) cells.tray + cond (not (c.turned s)) 1 0 ≡ count (λ a b. not (c.new a b)) cells.tray = rw e (omega arith) in sym w) ∙ sym o) (let o = news in (let w : count c.new cells.tray + cond (c.turned s) 1 0 ≡ suc (count c.new cells.tray) = rw e (omega arith) in sym w) ∙ sym o) refl (balance_post_new _ _ _ _ _ _ _ _ _ _ k.balance s e lt);
            tree = tree' k;
            given = given' k;
          }
        where
          still : (a b : ℕ) → c.new a b ≡ true → (t : Bool) → same_name s ((station_at cells s).posted + 1) a b ≡ t → new' a b ≡ true
          still a b q true t = rw t e
          still a b q false t = rw t q

          pend : (a b : ℕ) (t : Bool) → same_name s ((station_at cells s).posted + 1) a b ≡ t → pending c.new (λ a b. find a b (slips_of cells.tray)) (slips_of cells.late) a b ≡ pending new' (λ a b. find a b (slips_of cells'.tray)) (slips_of cells.late) a b
          pend a b true t =
              let q = same_name_true s ((station_at cells s).posted + 1) a b t in
              let nt' : find a b (slips_of cells.tray) ≡ None = rw (q.0, q.1) nt in
              let nl' : find a b (slips_of cells.late) ≡ None = rw (q.0, q.1) nl in
              rw (t, e, nt', nl') (both (c.new a b))
            where
              both : (t : Bool) → ◌≡◌ {A = Option Slip} (cond t None None) None
              both true = refl
              both false = refl
          pend a b false t = rw (slips_at a b, t)
      go k false e =
          record {
            base = k.base;
            colouring = colouring' k;
            split = split_sooner _ _ _ _ _ _ _ _ _ _ k.split (post' slip) (cells_view cells') new' (start_numbered cells.n) act e tt (λ a b q. still a b q (same_name s ((station_at cells s).posted + 1) a b) refl) (λ a b. pend a b (same_name s ((station_at cells s).posted + 1) a b) refl);
            balance = balance_as (sym running_is) (sym frozen_is) (sym unreported_is) (ap (λ f. f 0) (sym gathered_is)) (let o = olds in (let w : count (λ a b. not (c.new a b)) cells.tray + cond (not (c.turned s)) 1 0 ≡ suc (count (λ a b. not (c.new a b)) cells.tray) = rw e (omega arith) in sym w) ∙ sym o) (let o = news in (let w : count c.new cells.tray + cond (c.turned s) 1 0 ≡ count c.new cells.tray = rw e (omega arith) in sym w) ∙ sym o) refl (balance_post_old _ _ _ _ _ _ _ _ _ _ k.balance s e lt (root_waits c cells k.tree s lt e));
            tree = tree' k;
            given = given' k;
          }
        where
          still : (a b : ℕ) → c.new a b ≡ true → (t : Bool) → same_name s ((station_at cells s).posted + 1) a b ≡ t → new' a b ≡ true
          still a b q true t =
              let w = same_name_true s ((station_at cells s).posted + 1) a b t in
              let g = k.given a b q in
              let g' : b ≤ (station_at cells s).posted = rw w.0 at g in
              absurd (omega (arith, w.1))
          still a b q false t = rw t q

          pend : (a b : ℕ) (t : Bool) → same_name s ((station_at cells s).posted + 1) a b ≡ t → put_slip k.split.x.slips s ((station_at cells s).posted + 1) (Some slip) a b ≡ pending new' (λ a b. find a b (slips_of cells'.tray)) (slips_of cells.late) a b
          pend a b true t = rw (slips_at a b, t, e)
          pend a b false t = rw (slips_at a b, t) (k.split.slips a b)
