-- A post tells its caller the name of its slip, which no other slip of the house has.
use Rattle.std.specs.Prelude.{◌≡◌, ℕ, ◌+◌, cond, List, [], ◌∷◌, ℤ, Some, None, ◌==◌}
use Rattle.sections.specs.Rule.{Rule}
use Rattle.methods.specs.Model.{Model}
use Rattle.house_rules.specs.State.Names.{find, without, slips_of}
use Rattle.house_rules.specs.State.House.{Cells, HouseState}
use Rattle.house_rules.specs.Calls.Event.{Event, enter, post, take}
use Rattle.house_rules.specs.Calls.EveryCall.{Call, open', turn, gather, report, close, file, event, Answer, number}
use Rattle.house_rules.specs.Theorem.Histories.{done, step, History, granted_calls}

-- 1 for a post of station s, 0 for any other event, and for any other call
abbrev pub event_posts : (s : ℕ) → Event → ℕ
event_posts s (enter t a b r) = 0
event_posts s (post t to line amount) = cond (s == t) 1 0
event_posts s (take a b) = 0

abbrev pub call_posts : (s : ℕ) → Call → ℕ
call_posts s (event e) = event_posts s e
call_posts s (open' t) = 0
call_posts s (turn t) = 0
call_posts s (gather t) = 0
call_posts s (report t) = 0
call_posts s close = 0
call_posts s (file late_on_receipt text) = 0

-- how many of the calls are posts of station s
abbrev pub posts_of : (s : ℕ) → List Call → ℕ
posts_of s [] = 0
posts_of s (call ∷ calls) = call_posts s call + posts_of s calls

-- the answer is a number k; the slip of name (s, k) is under way to that receiver, with that line and amount; the tray
-- has no second slip of that name, and the late list has none
pub record TellsItsSlip (s k to line : ℕ) (amount : ℤ) (cells : Cells) (answer : Answer) : Type 0 where
  pub told : answer ≡ number k
  pub under_way : find s k (slips_of cells.tray) ≡ Some (record { sender = s; number = k; receiver = to; line = line; amount = amount })
  pub alone : find s k (without s k (slips_of cells.tray)) ≡ None
  pub none_late : find s k (slips_of cells.late) ≡ None

-- at every granted post of a house x with a history, k is one more than the posts of the station granted before
abbrev pub PostTells : Model → Type 0
PostTells m =
    (rule : Rule) (x y : HouseState m.State) (s to line : ℕ) (amount : ℤ) (answer : Answer) → step m rule x (event (post s to line amount)) ≡ done y answer →
    (history : History m rule x) → TellsItsSlip s (posts_of s (granted_calls m rule x history) + 1) to line amount y.cells answer
