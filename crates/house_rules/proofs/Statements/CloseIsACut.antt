-- Where close is granted the count is a cut: what CountsAreConsistent and ScoresAreGains say, of one close.
use Rattle.std.proofs.Common.{ℤ, ◌≡◌, ℕ, ◌<◌, Bool, true, false, cond, not, List, [], ◌++◌, ◌+ℤ◌, Some, None, sym, refl, ap, ◌∙◌, subst, arith}
use Rattle.std.proofs.ByRecursion.{All-map}
use Rattle.std.proofs.lemmas.List.{ext_get_or}
use Rattle.std.proofs.lemmas.Int.{ints}
use Rattle.std.specs.List.Sorted.{IsPermutation}
use Rattle.sections.specs.Rule.{Rule}
use Rattle.house_rules.specs.declared.phase.Phase.{Phase}
use Rattle.house_rules.specs.declared.slip.ColouredSlip.{ColouredSlip}
use Rattle.house_rules.specs.declared.slip.Slip.{Slip}
use Rattle.common.specs.Sums.{sum_of}
use Rattle.sections.specs.Sums.{line_sum}
use Rattle.house_rules.specs.Calls.CountText.{on_slip, score}
use Rattle.house_rules.specs.Theorem.Cut.{Cut}
use Rattle.house_rules.specs.State.Names.{find, slips_of, named}
use Rattle.house_rules.specs.Theorem.PlainHouse.{PlainHouse, blank}
use Rattle.house_rules.specs.State.House.{Cells, station_at}
use Rattle.house_rules.specs.Theorem.Statements.{Consistent, gain_of}
use Rattle.house_rules.proofs.Invariant.Cells.{cells_view}
use Rattle.house_rules.proofs.Invariant.Names.{not_found}
use Rattle.house_rules.proofs.Invariant.Shared.{fine_blank}
use Rattle.house_rules.proofs.Invariant.PlainSteps.{plain_view, Fine, Plays, plays_run, plays_refuses_none, plays_both, held, plays_all}
use Rattle.house_rules.proofs.Lists.Slips.{or_else, find_named, first_all, shuffled_from_find}
use Rattle.house_rules.proofs.Invariant.Sound.{During, Sound}
use Rattle.house_rules.proofs.Invariant.Cut.{pending}
use Rattle.house_rules.proofs.Lists.Sums.{sum_shuffled, sum_blank}
use Rattle.house_rules.proofs.Invariant.PlainHouse.{Acted}
use Rattle.house_rules.proofs.Calls.Close.{every, none_old}

module _ (r : Rule) (c : Cut) (p : Phase) (cells : Cells) (out : ℕ) (so : Sound r c p cells out) (k : During r c cells out) (root : (station_at cells 0).gathered ≡ true) (none_out : out ≡ 0) where
  -- what lay under way at the cut is the late list
  pub pending_late : (a b : ℕ) → pending c.new (λ a b. find a b (slips_of cells.tray)) (slips_of cells.late) a b ≡ find a b (slips_of cells.late)
  pending_late a b = go (c.new a b) refl
    where
      go : (t : Bool) → c.new a b ≡ t → cond (c.new a b) None (or_else (find a b (slips_of cells.tray)) (find a b (slips_of cells.late))) ≡ find a b (slips_of cells.late)
      go true e = rw e (sym (not_found a b (slips_of cells.late) (λ x f. let g = k.colouring.old_late a b x f in let z : ◌≡◌ {A = ℕ} 0 1 = cc in omega arith)))
      go false e =
          let nt : find a b (slips_of cells.tray) ≡ None = not_found a b (slips_of cells.tray) (λ x f. bad x f) in
          rw (e, nt)
        where
          bad : (x : Slip) → find a b (slips_of cells.tray) ≡ Some x → ⊥
          bad x f =
              let p = first_all (λ (y : Slip). not (c.new y.sender y.number) ≡ false) (named a b) (slips_of cells.tray) x (All-map (λ (y : Slip). not (c.new y.sender y.number) ≡ false) (λ (y : ColouredSlip). y.slip) cells.tray (none_old r c p cells out so k root none_out)) f in
              let q = find_named a b (slips_of cells.tray) x f in
              let p' : not (c.new a b) ≡ false = rw (q.0, q.1) at p in
              let z : ◌≡◌ {A = ℕ} 0 1 = cc in omega arith

  -- what the plain house holds where the first part ends, and where the second ends
  first : (q : PlainHouse) × Plays r (blank cells.n) c.before q × (plain_view q ≡ k.split.x) × Fine cells.n q × ((line : ℕ) → line < 32 → held line q ≡ held line (blank cells.n) +ℤ sum_of (gain_of r line) c.before)
  first =
      let one = plays_all cells.n r k.split.dpre (blank cells.n) k.split.x (fine_blank cells.n) k.split.before in
      (one.0, subst (λ es. Plays r (blank cells.n) es one.0) k.split.is_pre one.1, one.2, one.3, λ line short. subst (λ es. held line one.0 ≡ held line (blank cells.n) +ℤ sum_of (gain_of r line) es) k.split.is_pre (one.4 line short))

  second : (q : PlainHouse) × Plays r first.0 c.after q × (plain_view q ≡ cells_view cells) × Fine cells.n q
  second =
      let two = plays_all cells.n r k.split.dpost first.0 (cells_view cells) first.3 (subst (λ v. Acted cells.n r v k.split.dpost (cells_view cells)) (sym first.2) k.split.rest) in
      (two.0, subst (λ es. Plays r first.0 es two.0) k.split.is_post two.1, two.2, two.3)

  first_sheets : first.0.sheets ≡ cells.recorded
  first_sheets =
      ext_get_or [] first.0.sheets cells.recorded (first.3.sheets ∙ sym so.shape.recorded)
      (λ s l. let l' : s < cells.n = rw first.3.sheets at l in ap (λ v. v.sheet s) first.2 ∙ k.split.sheets s l' ∙ rw (every r c p cells out so k root s l'))

  first_slips : IsPermutation first.0.under_way (slips_of cells.late)
  first_slips = shuffled_from_find first.0.under_way (slips_of cells.late) first.3.distinct so.common.naming.apart_late (λ a b. ap (λ v. v.slips a b) first.2 ∙ k.split.slips a b ∙ pending_late a b)

  pub consistent : Consistent r c.before c.after cells
  consistent =
      let one = plays_run r (blank cells.n) first.0 c.before first.1 in
      let both = plays_both r (blank cells.n) first.0 second.0 c.before c.after first.1 second.1 in
      let two = plays_run r (blank cells.n) second.0 (c.before ++ c.after) both in
      record {
        refuses_none = plays_refuses_none r (blank cells.n) second.0 (c.before ++ c.after) both;
        recorded = ap (λ (q : PlainHouse). q.sheets) one ∙ first_sheets;
        late = subst (λ (q : PlainHouse). IsPermutation q.under_way (slips_of cells.late)) (sym one) first_slips;
        sheets = ap (λ (q : PlainHouse). q.sheets) two ∙ ext_get_or [] second.0.sheets cells.sheets (second.3.sheets ∙ sym so.shape.sheets) (λ s l. ap (λ v. v.sheet s) second.2);
        under_way = subst (λ (q : PlainHouse). IsPermutation q.under_way (slips_of cells.tray)) (sym two) (shuffled_from_find second.0.under_way (slips_of cells.tray) second.3.distinct so.common.naming.apart (λ a b. ap (λ v. v.slips a b) second.2));
      }

  pub scored : (line : ℕ) → line < 32 → score cells.recorded (slips_of cells.late) line ≡ sum_of (gain_of r line) c.before
  scored line short =
      let kept = first.4 line short in
      let a = ap (line_sum (λ (f : List ℤ). f) line) first_sheets in
      let b = sum_shuffled (on_slip line) first.0.under_way (slips_of cells.late) first_slips in
      let z = sum_blank cells.n line in
      omega (arith, ints)
