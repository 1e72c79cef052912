-- WhatGatherTells: the root tells how many slips cross the cut, and each station its frozen deficit and what its children told.
use Rattle.std.proofs.Common.{◌≡◌, ℕ, ◌+◌, ◌*◌, ◌+ℤ◌, Bool, true, false, cond, not, List, [], ◌∷◌, ◌++◌, length, pos, Some, None, Option, sym, refl, ap, ◌∙◌, subst, arith, length-append}
use Rattle.std.proofs.lemmas.List.{length-map}
use Rattle.std.proofs.lemmas.List.Sorted.{length_permutation}
use Rattle.std.proofs.lemmas.Bool.{and_parts, ltb-true}
use Rattle.std.proofs.lemmas.Bool.Decides.{nat_tests}
use Rattle.sections.specs.Rule.{Rule}
use Rattle.methods.specs.Model.{Model}
use Rattle.methods.specs.Model as models
use Rattle.common.specs.Questions.{first_no}
use Rattle.common.proofs.AllYes.{AllYes, all_yes_lem, yes_parts}
use Rattle.house_rules.specs.declared.slip.ColouredSlip.{ColouredSlip}
use Rattle.house_rules.specs.declared.slip.Slip.{Slip}
use Rattle.house_rules.specs.State.Names.{named, find, slips_of}
use Rattle.house_rules.specs.State.House.{HouseState, station_at}
use Rattle.house_rules.specs.Calls.EveryCall.{Answer, gather, sum, questions, after, reply}
use Rattle.house_rules.specs.Calls.Gather.{gather_questions, root_questions, sum_at}
use Rattle.house_rules.specs.Theorem.Cut.{Cut, cut_of}
use Rattle.house_rules.specs.Theorem.Gathers.{crossing, sums_told, deficits_of, GatherTells, WhatGatherTells}
use Rattle.house_rules.specs.Theorem.Histories.{done, step, History, granted_calls}
use Rattle.house_rules.specs.Theorem.PlainHouse.{PlainHouse, blank}
use Rattle.house_rules.proofs.Calls.Gather.{turned_below}
use Rattle.house_rules.proofs.Calls.MethodQuestions.{root_is}
use Rattle.house_rules.proofs.Calls.Outcome.{outcome_answer, step_done}
use Rattle.house_rules.proofs.Calls.Turn.{during_of}
use Rattle.house_rules.proofs.Invariant.Cut.{pending}
use Rattle.house_rules.proofs.Invariant.Names.{not_found}
use Rattle.house_rules.proofs.Invariant.Phases.{is_counting_lem}
use Rattle.house_rules.proofs.Invariant.PlainSteps.{Plays, plays_run, plays_all}
use Rattle.house_rules.proofs.Invariant.Shared.{fine_blank}
use Rattle.house_rules.proofs.Invariant.Sound.{During}
use Rattle.house_rules.proofs.Invariant.WholeHouse.{Holds}
use Rattle.house_rules.proofs.Lists.Slips.{Distinct, or_else, find_append, same_name_refl, same_name_true, shuffled_from_find}
use Rattle.house_rules.proofs.Lists.Totals.{count}
use Rattle.house_rules.proofs.Statements.EveryHistory.{history_holds}
use Rattle.house_rules.proofs.Statements.GatherDeficits.{history_same}
use Rattle.house_rules.proofs.Statements.GatherSums.{history_told, sum_split}

-- the old slips of a list
abbrev old_of : (ℕ → ℕ → Bool) → List ColouredSlip → List Slip
old_of new [] = []
old_of new (x ∷ xs) = cond (new x.slip.sender x.slip.number) (old_of new xs) (x.slip ∷ old_of new xs)

old_length : (new : ℕ → ℕ → Bool) (xs : List ColouredSlip) → length (old_of new xs) ≡ count (λ a b. not (new a b)) xs
old_length new [] = refl
old_length new (x ∷ xs) = let ih = old_length new xs in go (new x.slip.sender x.slip.number) ih
  where
    go : (t : Bool) → length (old_of new xs) ≡ count (λ a b. not (new a b)) xs → length (cond t (old_of new xs) (x.slip ∷ old_of new xs)) ≡ cond (not t) 1 0 + count (λ a b. not (new a b)) xs
    go true ih = omega arith
    go false ih = omega arith

old_find : (new : ℕ → ℕ → Bool) (xs : List ColouredSlip) → Distinct (slips_of xs) → (a b : ℕ) → find a b (old_of new xs) ≡ cond (new a b) None (find a b (slips_of xs))
old_find new [] d a b = go (new a b)
  where
    go : (t : Bool) → ◌≡◌ {A = Option Slip} None (cond t None None)
    go true = refl
    go false = refl
old_find new (x ∷ xs) d a b = go (named a b x.slip) refl (new x.slip.sender x.slip.number) refl (old_find new xs d.1 a b)
  where
    go : (u : Bool) → named a b x.slip ≡ u → (t : Bool) → new x.slip.sender x.slip.number ≡ t → find a b (old_of new xs) ≡ cond (new a b) None (find a b (slips_of xs)) → find a b (cond (new x.slip.sender x.slip.number) (old_of new xs) (x.slip ∷ old_of new xs)) ≡ cond (new a b) None (cond (named a b x.slip) (Some x.slip) (find a b (slips_of xs)))
    go true u true t ih = let q = same_name_true a b x.slip.sender x.slip.number u in let e : new a b ≡ true = rw (q.0, q.1) at t in rw t (ih ∙ rw e)
    go true u false t ih = let q = same_name_true a b x.slip.sender x.slip.number u in let e : new a b ≡ false = rw (q.0, q.1) at t in rw (t, u, e)
    go false u true t ih = rw (t, u) ih
    go false u false t ih = rw (t, u) ih

crossing_distinct : (new : ℕ → ℕ → Bool) (xs : List ColouredSlip) (late : List Slip) → Distinct (slips_of xs) → Distinct late → ((a b : ℕ) (y : Slip) → find a b late ≡ Some y → find a b (slips_of xs) ≡ None) → Distinct (old_of new xs ++ late)
crossing_distinct new [] late d e out = e
crossing_distinct new (x ∷ xs) late d e out = go (new x.slip.sender x.slip.number) (crossing_distinct new xs late d.1 e (λ a b y f. let g = out a b y f in grind (arith, nat_tests)))
  where
    a : ℕ
    a = x.slip.sender

    b : ℕ
    b = x.slip.number

    not_late : find a b late ≡ None
    not_late = not_found a b late (λ y f. let g = out a b y f in let s = same_name_refl a b in let z : ◌≡◌ {A = ℕ} 0 1 = grind arith in omega arith)

    not_old : find a b (old_of new xs) ≡ None
    not_old = old_find new xs d.1 a b ∙ rw d.0 (none (new a b))
      where
        none : (t : Bool) → ◌≡◌ {A = Option Slip} (cond t None None) None
        none true = refl
        none false = refl

    go : (t : Bool) → Distinct (old_of new xs ++ late) → Distinct (cond t (old_of new xs) (x.slip ∷ old_of new xs) ++ late)
    go true ih = ih
    go false ih = (find_append a b (old_of new xs) late ∙ rw (not_old, not_late) refl, ih)

-- while a count is open, the slips that cross its cut are the old ones under way and the late ones
module _ (m : Model) (rule : Rule) (c : Cut) (x : HouseState m.State) (h : Holds m rule c x) (k : During rule c x.cells (m.rules.outstanding x.method)) where
  abbrev crossed : List Slip
  crossed = old_of c.new x.cells.tray ++ slips_of x.cells.late

  crossed_is : (a b : ℕ) → pending c.new (λ a b. find a b (slips_of x.cells.tray)) (slips_of x.cells.late) a b ≡ find a b crossed
  crossed_is a b =
      go (c.new a b) refl
      ∙ sym (find_append a b (old_of c.new x.cells.tray) (slips_of x.cells.late) ∙ ap (λ o. or_else o (find a b (slips_of x.cells.late))) (old_find c.new x.cells.tray h.sound.common.naming.apart a b))
    where
      go : (t : Bool) → c.new a b ≡ t → cond (c.new a b) None (or_else (find a b (slips_of x.cells.tray)) (find a b (slips_of x.cells.late))) ≡ or_else (cond (c.new a b) None (find a b (slips_of x.cells.tray))) (find a b (slips_of x.cells.late))
      go true e = rw e (sym (not_found a b (slips_of x.cells.late) (λ y f. let g = k.colouring.old_late a b y f in let z : ◌≡◌ {A = ℕ} 0 1 = cc in omega arith)))
      go false e = rw e refl

  crossing_is : crossing rule x.cells.n c ≡ count (λ a b. not (c.new a b)) x.cells.tray + length x.cells.late
  crossing_is =
      let one = plays_all x.cells.n rule k.split.dpre (blank x.cells.n) k.split.x (fine_blank x.cells.n) k.split.before in
      let ran = plays_run rule (blank x.cells.n) one.0 c.before (subst (λ es. Plays rule (blank x.cells.n) es one.0) k.split.is_pre one.1) in
      let naming = h.sound.common.naming in
      let same = shuffled_from_find one.0.under_way crossed one.3.distinct (crossing_distinct c.new x.cells.tray (slips_of x.cells.late) naming.apart naming.apart_late naming.out) (λ a b. ap (λ v. v.slips a b) one.2 ∙ k.split.slips a b ∙ crossed_is a b) in
      ap (λ (q : PlainHouse). length q.under_way) ran
      ∙ sym (length_permutation one.0.under_way crossed same)
      ∙ length-append (old_of c.new x.cells.tray) (slips_of x.cells.late)
      ∙ ap (λ j. j + length (slips_of x.cells.late)) (old_length c.new x.cells.tray)
      ∙ ap (λ j. count (λ a b. not (c.new a b)) x.cells.tray + j) (length-map x.cells.late (λ (y : ColouredSlip). y.slip))

-- the root's granted gather answers how many they are
module _ (m : Model) (ml : models.Lawful m) (rule : Rule) (x : HouseState m.State) (history : History m rule x) where
  abbrev c : Cut
  c = cut_of (granted_calls m rule x history)

  holds : Holds m rule c x
  holds = history_holds m ml rule x history

  root_sum_is : AllYes (gather_questions x.phase x.cells 0) → sum_at x.cells 0 ≡ pos (crossing rule x.cells.n c)
  root_sum_is y =
      let ph = is_counting_lem x.phase y.1.0 in
      let q = and_parts _ _ y.1.1.1.1.0 in
      let co = during_of rule c x.phase x.cells (m.rules.outstanding x.method) holds.sound ph in
      let ev = turned_below rule c x.phase x.cells (m.rules.outstanding x.method) holds.sound ph 0 refl (ltb-true 0 x.cells.n y.0) y.1.1.0 q.0 q.1 in
      root_is m rule c x holds co ev ∙ ap (λ j. pos j) (sym (crossing_is m rule c x holds co))

  yes : (s : ℕ) (y : HouseState m.State) (answer : Answer) → step m rule x (gather s) ≡ done y answer → AllYes (gather_questions x.phase x.cells s)
  yes s y answer answered = (yes_parts (gather_questions x.phase x.cells s) (root_questions m x s) (all_yes_lem (questions m rule x (gather s)) (step_done m rule x (gather s) y answer answered).0)).0

  answer_is : (s : ℕ) (y : HouseState m.State) (answer : Answer) → step m rule x (gather s) ≡ done y answer → answer ≡ sum (sum_at x.cells s)
  answer_is s y answer answered = sym (outcome_answer (first_no (questions m rule x (gather s))) (after m rule x (gather s)) y (reply m x (gather s)) answer answered)

  station_sum_is : (s : ℕ) → AllYes (gather_questions x.phase x.cells s) → sum_at x.cells s ≡ (station_at x.cells s).frozen +ℤ (sums_told m rule x history (2 * s + 1) +ℤ sums_told m rule x history (2 * s + 2))
  station_sum_is s y =
      let q = and_parts _ _ y.1.1.1.1.0 in
      sum_split (sums_told m rule x history) x.cells holds.sound.shape.stations holds.sound.shape.few (history_told m ml rule x history) s (ltb-true s x.cells.n y.0) q.0 q.1

  tells : GatherTells m rule x c (deficits_of (granted_calls m rule x history)) (sums_told m rule x history)
  tells =
      record {
        root = λ y answer answered. answer_is 0 y answer answered ∙ ap (λ z. sum z) (root_sum_is (yes 0 y answer answered));
        station = λ s y answer answered. answer_is s y answer answered ∙ ap (λ z. sum z) (station_sum_is s (yes s y answer answered));
        frozen = λ s. sym ((history_same m ml rule x history).between s);
      }

pub what_gather_tells : (m : Model) → models.Lawful m → WhatGatherTells m
what_gather_tells m ml rule x history = tells m ml rule x history
