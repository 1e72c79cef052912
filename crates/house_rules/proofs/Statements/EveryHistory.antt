-- Every history keeps the invariant, and what every granted call keeps beside it; the statements of histories rest on this.
use Rattle.std.proofs.Common.{◌≡◌, ℕ, ◌&&◌, leb, List, [], ◌∷◌, Some, None, Option, sym, refl, subst, arith}
use Rattle.std.proofs.lemmas.Bool.{true≢false, eqb-true, leb-true, and_parts}
use Rattle.sections.specs.Rule.{Rule}
use Rattle.methods.specs.Model.{Model}
use Rattle.common.specs.Questions.{first_no}
use Rattle.house_rules.specs.Calls.EveryCall.{Call, house_questions, method_questions, questions, after, reply, nothing}
use Rattle.house_rules.specs.Theorem.Cut.{Cut, no_cut, cut_after, cut_after_all, cut_of}
use Rattle.house_rules.specs.Calls.Make.{Handed, make_questions, made_house}
use Rattle.house_rules.specs.Theorem.Histories.{outcome, make, next, run, only_done, granted_among, History, granted_calls, done}
use Rattle.house_rules.specs.State.House.{HouseState}
use Rattle.house_rules.proofs.Calls.EveryCall.{granted_sound}
use Rattle.common.proofs.AllYes.{AllYes, all_yes_lem, yes_parts}
use Rattle.house_rules.proofs.Invariant.WholeHouse.{Holds}
use Rattle.house_rules.proofs.Calls.Make.{made_sound}
use Rattle.house_rules.proofs.Calls.Outcome.{done_same, never_done}
use Rattle.house_rules.proofs.Calls.Room.{granted_room}
use Rattle.house_rules.proofs.Calls.Served.{granted_served}
use Rattle.methods.specs.Model as models
use Rattle.house_rules.specs.Theorem.Progress.{Progress, no_progress, progress_after, progress_after_all, progress_of}

module _ (m : Model) (ml : models.Lawful m) (rule : Rule) where
  still_holds : (c : Cut) (x : HouseState m.State) → Holds m rule c x → (call : Call) → AllYes (house_questions rule x.phase x.cells (m.rules.outstanding x.method) call) → AllYes (method_questions m x call) → Holds m rule (cut_after c call) (after m rule x call)
  still_holds c x k call y z = record { sound = granted_sound m ml rule c x k call y z; room = granted_room m rule x call y k.room; served = granted_served m ml rule c x k call y z }

  pub granted_holds : (c : Cut) (x : HouseState m.State) (call : Call) → Holds m rule c x → first_no (questions m rule x call) ≡ None → Holds m rule (cut_after c call) (after m rule x call)
  granted_holds c x call k q =
      let y = yes_parts (house_questions rule x.phase x.cells (m.rules.outstanding x.method) call) (method_questions m x call) (all_yes_lem (questions m rule x call) q) in
      still_holds c x k call y.0 y.1

-- what make asks, and what it gives
pub made_yes : (m : Model) (handed : Handed) (q : m.State) (x : HouseState m.State) → make m handed q ≡ done x nothing → AllYes (make_questions handed (m.rules.outstanding q)) × (x ≡ made_house handed q)
made_yes m handed q x e = let g = go (first_no (make_questions handed (m.rules.outstanding q))) (made_house handed q) e in (all_yes_lem (make_questions handed (m.rules.outstanding q)) g.0, g.1)
  where
    go : (o : Option (ℕ × ℕ × ℕ)) (y : HouseState m.State) → outcome o y nothing ≡ done x nothing → (o ≡ None) × (x ≡ y)
    go None y e = (refl, sym (done_same y x nothing nothing e).0)
    go (Some code) y e = absurd (never_done code x nothing e)

pub made_holds : (m : Model) (rule : Rule) (handed : Handed) (q : m.State) → m.Valid q → AllYes (make_questions handed (m.rules.outstanding q)) → Holds m rule no_cut (made_house handed q)
made_holds m rule handed q v y =
    let a = and_parts (leb 1 handed.n) (leb handed.n 64) y.0 in
    let b = and_parts (leb 1 handed.tray_cells && leb handed.tray_cells 4096) (leb 1 handed.late_cells && leb handed.late_cells 4096) y.1.1.0 in
    let t = and_parts (leb 1 handed.tray_cells) (leb handed.tray_cells 4096) b.0 in
    let l = and_parts (leb 1 handed.late_cells) (leb handed.late_cells 4096) b.1 in
    let o = eqb-true (m.rules.outstanding q) 0 y.1.1.1.0 in
    record {
      sound = made_sound rule handed (m.rules.outstanding q) (leb-true 1 handed.n a.0) (leb-true handed.n 64 a.1);
      room = record { tray_cells_lem = leb-true handed.tray_cells 4096 t.1; late_cells_lem = leb-true handed.late_cells 4096 l.1; tray = omega arith; late = omega arith };
      served = record { valid = v; idle = λ _. o; counted = λ i. absurd (true≢false (sym i)) };
    }

-- what every granted call keeps, a run keeps
module _ (m : Model) (ml : models.Lawful m) (rule : Rule) (P : Cut → Progress → HouseState m.State → Type 0) (keeps : (c : Cut) (g : Progress) (x : HouseState m.State) → Holds m rule c x → P c g x → (call : Call) → AllYes (house_questions rule x.phase x.cells (m.rules.outstanding x.method) call) → AllYes (method_questions m x call) → P (cut_after c call) (progress_after c g call) (after m rule x call)) where
  pub run_keeps : (calls : List Call) (c : Cut) (g : Progress) (x : HouseState m.State) → Holds m rule c x → P c g x → P (cut_after_all c (granted_among m rule x calls)) (progress_after_all c g (granted_among m rule x calls)) (run m rule x calls)
  run_keeps [] c g x k w = w
  run_keeps (call ∷ calls) c g x k w = go (first_no (questions m rule x call)) refl (λ c' g' x' k' w'. run_keeps calls c' g' x' k' w')
    where
      go : (o : Option (ℕ × ℕ × ℕ)) → first_no (questions m rule x call) ≡ o → ((c' : Cut) (g' : Progress) (x' : HouseState m.State) → Holds m rule c' x' → P c' g' x' → P (cut_after_all c' (granted_among m rule x' calls)) (progress_after_all c' g' (granted_among m rule x' calls)) (run m rule x' calls)) → P (cut_after_all c (only_done (outcome o (after m rule x call) (reply m x call)) call (granted_among m rule (next x (outcome o (after m rule x call) (reply m x call))) calls))) (progress_after_all c g (only_done (outcome o (after m rule x call) (reply m x call)) call (granted_among m rule (next x (outcome o (after m rule x call) (reply m x call))) calls))) (run m rule (next x (outcome o (after m rule x call) (reply m x call))) calls)
      go None e ih =
          let y = yes_parts (house_questions rule x.phase x.cells (m.rules.outstanding x.method) call) (method_questions m x call) (all_yes_lem (questions m rule x call) e) in
          ih (cut_after c call) (progress_after c g call) (after m rule x call) (granted_holds m ml rule c x call k e) (keeps c g x k w call y.0 y.1)
      go (Some code) e ih = ih c g x k w

  -- and if it holds of a made house, it holds after every history
  pub history_keeps : ((handed : Handed) (q : m.State) → P no_cut no_progress (made_house handed q)) → (x : HouseState m.State) (history : History m rule x) → P (cut_of (granted_calls m rule x history)) (progress_of (granted_calls m rule x history)) x
  history_keeps made x history =
      let g = made_yes m history.handed history.method history.first history.made in
      let k = made_holds m rule history.handed history.method history.valid g.0 in
      subst (λ y. P (cut_of (granted_calls m rule x history)) (progress_of (granted_calls m rule x history)) y) history.leads
      (run_keeps history.calls no_cut no_progress history.first (subst (λ y. Holds m rule no_cut y) (sym g.1) k) (subst (λ y. P no_cut no_progress y) (sym g.1) (made history.handed history.method)))

pub history_holds : (m : Model) → models.Lawful m → (rule : Rule) (x : HouseState m.State) (history : History m rule x) → Holds m rule (cut_of (granted_calls m rule x history)) x
history_holds m ml rule x history =
    let g = made_yes m history.handed history.method history.first history.made in
    let k = made_holds m rule history.handed history.method history.valid g.0 in
    subst (λ y. Holds m rule (cut_of (granted_calls m rule x history)) y) history.leads
    (let h = subst (λ y. Holds m rule no_cut y) (sym g.1) k in run_keeps m ml rule (λ c _ y. Holds m rule c y) (λ c _ y w _ call a b. still_holds m ml rule c y w call a b) history.calls no_cut no_progress history.first h h)
