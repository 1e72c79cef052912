-- PostTells: a granted post answers the number of its slip, and no other slip has its name.
use Rattle.std.proofs.Common.{◌≡◌, ℕ, ◌+◌, Bool, true, false, cond, eqb, List, [], ◌∷◌, ℤ, Some, None, refl, ap, ◌∙◌, subst, arith}
use Rattle.std.proofs.lemmas.Bool.Decides.{nat_tests}
use Rattle.sections.specs.Rule.{Rule}
use Rattle.methods.specs.Model.{Model}
use Rattle.methods.specs.Model as models
use Rattle.common.specs.Questions.{first_no}
use Rattle.house_rules.specs.declared.slip.Slip.{Slip}
use Rattle.house_rules.specs.State.Names.{find, without, slips_of}
use Rattle.house_rules.specs.State.House.{Cells, HouseState, station_at}
use Rattle.house_rules.specs.Calls.Event.{enter, post, take}
use Rattle.house_rules.specs.Calls.EveryCall.{Call, open', turn, gather, report, close, file, event, number, questions, after, reply}
use Rattle.house_rules.specs.Calls.Post.{posted_slip, posted_cells}
use Rattle.house_rules.specs.Theorem.Cut.{Cut, no_cut, cut_after, cut_after_all, cut_of}
use Rattle.house_rules.specs.Theorem.Histories.{History, granted_calls}
use Rattle.house_rules.specs.Theorem.Posts.{call_posts, posts_of, TellsItsSlip, PostTells}
use Rattle.house_rules.proofs.Calls.Outcome.{outcome_answer, step_done}
use Rattle.house_rules.proofs.Invariant.Cells.{slips_push}
use Rattle.house_rules.proofs.Invariant.Names.{Naming, not_found, find_push_at, fresh_tray}
use Rattle.house_rules.proofs.Lists.Slips.{same_name_refl, find_without}
use Rattle.house_rules.proofs.Statements.EveryHistory.{granted_holds, history_holds}

-- the cut counts the posts of each station
call_posted : (c : Cut) (call : Call) (s : ℕ) → (cut_after c call).posted s ≡ c.posted s + call_posts s call
call_posted c (event (enter t a b r)) s = omega arith
call_posted c (event (post t to line amount)) s = go (eqb s t) refl
  where
    go : (b : Bool) → eqb s t ≡ b → cond b (c.posted t + 1) (c.posted s) ≡ c.posted s + cond b 1 0
    go true e = grind (arith, nat_tests)
    go false e = omega arith
call_posted c (event (take a b)) s = omega arith
call_posted c (open' t) s = omega arith
call_posted c (turn t) s = omega arith
call_posted c (gather t) s = omega arith
call_posted c (report t) s = omega arith
call_posted c close s = omega arith
call_posted c (file late_on_receipt text) s = omega arith

all_posted : (calls : List Call) (c : Cut) (s : ℕ) → (cut_after_all c calls).posted s ≡ c.posted s + posts_of s calls
all_posted [] c s = omega arith
all_posted (call ∷ calls) c s =
    let ih = all_posted calls (cut_after c call) s in
    let one = call_posted c call s in
    omega arith

-- a slip posted under a new name is found under it
posted_found : (cells : Cells) (s to line : ℕ) (amount : ℤ) → find s ((station_at cells s).posted + 1) (slips_of cells.tray) ≡ None → find s ((station_at cells s).posted + 1) (slips_of (posted_cells cells s to line amount).tray) ≡ Some (record { sender = s; number = (station_at cells s).posted + 1; receiver = to; line = line; amount = amount })
posted_found cells s to line amount new =
    ap (λ l. find s ((station_at cells s).posted + 1) l) (slips_push cells.tray (record { slip = posted_slip cells s to line amount; colour = (station_at cells s).colour }))
    ∙ find_push_at (slips_of cells.tray) (posted_slip cells s to line amount) new s ((station_at cells s).posted + 1)
    ∙ (let r = same_name_refl s ((station_at cells s).posted + 1) in rw r refl)

module _ (n : ℕ) (posted : ℕ → ℕ) (tray late : List Slip) (p : Naming n posted tray late) (s k : ℕ) where
  found_once : find s k (without s k tray) ≡ None
  found_once = find_without s k s k tray p.apart ∙ (let r = same_name_refl s k in rw r refl)

  found_none_late : (x : Slip) → find s k tray ≡ Some x → find s k late ≡ None
  found_none_late x here = not_found s k late (λ y e. let o = p.out s k y e in let z : ◌≡◌ {A = ℕ} 0 1 = cc in omega arith)

module _ (m : Model) (ml : models.Lawful m) (rule : Rule) (x : HouseState m.State) (s to line : ℕ) (amount : ℤ) (history : History m rule x) where
  -- the station's posted number is the number of its posts
  posts_are : (station_at x.cells s).posted ≡ posts_of s (granted_calls m rule x history)
  posts_are =
      let a = all_posted (granted_calls m rule x history) no_cut s in
      let b = (history_holds m ml rule x history).sound.common.sent_is s in
      omega arith

  post_told : first_no (questions m rule x (event (post s to line amount))) ≡ None → TellsItsSlip s ((station_at x.cells s).posted + 1) to line amount (posted_cells x.cells s to line amount) (number ((station_at x.cells s).posted + 1))
  post_told granted =
      let k = history_holds m ml rule x history in
      let z = granted_holds m ml rule (cut_of (granted_calls m rule x history)) x (event (post s to line amount)) k granted in
      let here = posted_found x.cells s to line amount (fresh_tray x.cells.n _ _ _ k.sound.common.naming s) in
      record {
        told = refl;
        under_way = here;
        alone = found_once _ _ _ _ z.sound.common.naming s ((station_at x.cells s).posted + 1);
        none_late = found_none_late _ _ _ _ z.sound.common.naming s ((station_at x.cells s).posted + 1) _ here;
      }

pub post_tells : (m : Model) → models.Lawful m → PostTells m
post_tells m ml rule x y s to line amount answer answered history =
    let call = event (post s to line amount) in
    let e = step_done m rule x call y answer answered in
    let a = outcome_answer (first_no (questions m rule x call)) (after m rule x call) y (reply m x call) answer answered in
    subst (λ k. TellsItsSlip s (k + 1) to line amount y.cells answer) (posts_are m ml rule x s to line amount history)
    (subst (λ (z : HouseState m.State). TellsItsSlip s ((station_at x.cells s).posted + 1) to line amount z.cells answer) e.1
    (subst (λ b. TellsItsSlip s ((station_at x.cells s).posted + 1) to line amount (posted_cells x.cells s to line amount) b) a
    (post_told m ml rule x s to line amount history e.0)))
