-- What a gather tells its caller, by the granted calls.
use Rattle.std.specs.Prelude.{◌≡◌, ℕ, ◌+◌, ◌*◌, Bool, false, cond, not, ◌&&◌, List, [], ◌∷◌, length, ℤ, pos, ◌+ℤ◌, ◌-ℤ◌, ◌==◌}
use Rattle.sections.specs.Rule.{Rule}
use Rattle.methods.specs.Model.{Model}
use Rattle.house_rules.specs.State.House.{HouseState, station_at}
use Rattle.house_rules.specs.Calls.EveryCall.{Call, Answer, open', turn, gather, report, close, file, event, nothing, number, sum, sent, receipt, filed}
use Rattle.house_rules.specs.Theorem.Cut.{Cut, no_cut, put, cut_after_event, cut_after, cut_of}
use Rattle.house_rules.specs.Theorem.Progress.{Progress, no_progress, late_take, progress_after}
use Rattle.house_rules.specs.Theorem.Posts.{call_posts}
use Rattle.house_rules.specs.Calls.Event.{Event, enter, post, take}
use Rattle.house_rules.specs.Theorem.Histories.{Response, refused_with, granted, responses, done, step, History, granted_calls}
use Rattle.house_rules.specs.Theorem.PlainHouse.{blank, plain_run}

-- how many slips cross the cut in a house of n stations: those that the plain run of the events before it leaves under way
abbrev pub crossing : Rule → (n : ℕ) → Cut → ℕ
crossing rule n c = length (plain_run rule (blank n) c.before).under_way

-- the sum that a gather answers
abbrev pub sum_told : Answer → ℤ
sum_told nothing = pos 0
sum_told (number k) = pos 0
sum_told (sum z) = z
sum_told (sent messages) = pos 0
sum_told (receipt late messages) = pos 0
sum_told (filed written text) = pos 0

-- what the gather of each station has told in the present count, 0 before it: after a granted call and its answer
abbrev pub sums_after : (ℕ → ℤ) → Call → Answer → ℕ → ℤ
sums_after f (event e) answer = f
sums_after f (open' s) answer = λ t. pos 0
sums_after f (turn s) answer = f
sums_after f (gather s) answer = put f s (sum_told answer)
sums_after f (report s) answer = f
sums_after f close answer = f
sums_after f (file late_on_receipt text) answer = f

-- a refused call tells none
abbrev pub sums_response : (ℕ → ℤ) → Call → Response → ℕ → ℤ
sums_response f call (refused_with code) = f
sums_response f call (granted answer) = sums_after f call answer

-- after a list of calls, with the response to each
abbrev pub sums_by : (ℕ → ℤ) → List Call → List Response → ℕ → ℤ
sums_by f [] told = f
sums_by f (call ∷ calls) [] = f
sums_by f (call ∷ calls) (response ∷ told) = sums_by (sums_response f call response) calls told

-- after a history
abbrev pub sums_told : (m : Model) (rule : Rule) (x : HouseState m.State) → History m rule x → ℕ → ℤ
sums_told m rule x history = sums_by (λ t. pos 0) history.calls (responses m rule history.first history.calls)

-- the deficits, by the granted calls: of each station its granted posts less its granted takes, late ones apart
pub record Deficits : Type 0 where
  pub since : ℕ → ℤ  -- since its last turn, or since make
  pub between : ℕ → ℤ  -- between the turn before, or make, and its last turn; 0 until it has turned

abbrev pub no_deficits : Deficits
no_deficits = record { since = λ s. pos 0; between = λ s. pos 0 }

-- station s turns in a granted call: by open, by turn, or by a take while a count is open, where the cut says so
abbrev pub turns_in : Cut → Progress → Call → (s : ℕ) → Bool
turns_in c g (event e) s = g.open? && (not (c.turned s) && (cut_after_event c e).turned s)
turns_in c g (open' t) s = s == t
turns_in c g (turn t) s = s == t
turns_in c g (gather t) s = false
turns_in c g (report t) s = false
turns_in c g close s = false
turns_in c g (file late_on_receipt text) s = false

-- 1 for a granted take of station s that is not late, 0 for any other event, and for any other call
abbrev pub event_takes : Cut → Progress → (s : ℕ) → Event → ℕ
event_takes c g s (enter t a b r) = 0
event_takes c g s (post t to line amount) = 0
event_takes c g s (take a b) = cond (s == c.receiver a b && not (late_take c g a b)) 1 0

abbrev pub call_takes : Cut → Progress → (s : ℕ) → Call → ℕ
call_takes c g s (event e) = event_takes c g s e
call_takes c g s (open' t) = 0
call_takes c g s (turn t) = 0
call_takes c g s (gather t) = 0
call_takes c g s (report t) = 0
call_takes c g s close = 0
call_takes c g s (file late_on_receipt text) = 0

-- the deficits after a granted call: a turn comes before the post or take of the same call
abbrev pub deficits_after : Cut → Progress → Deficits → Call → Deficits
deficits_after c g d call =
    record {
      since = λ s. (cond (turns_in c g call s) (pos 0) (d.since s) +ℤ pos (call_posts s call)) -ℤ pos (call_takes c g s call);
      between = λ s. cond (turns_in c g call s) (d.since s) (d.between s);
    }

-- after a list of granted calls
abbrev pub deficits_after_all : Cut → Progress → Deficits → List Call → Deficits
deficits_after_all c g d [] = d
deficits_after_all c g d (call ∷ calls) = deficits_after_all (cut_after c call) (progress_after c g call) (deficits_after c g d call) calls

abbrev pub deficits_of : List Call → Deficits
deficits_of calls = deficits_after_all no_cut no_progress no_deficits calls

-- the root's granted gather answers how many slips cross the cut; that of any station answers its frozen deficit and what
-- the gathers of its children told in this count; and the frozen deficit of a station is its granted posts less its granted
-- takes, late ones apart, between the turn before and its last turn
pub record GatherTells (m : Model) (rule : Rule) (x : HouseState m.State) (c : Cut) (d : Deficits) (told : ℕ → ℤ) : Type 0 where
  pub root : (y : HouseState m.State) (answer : Answer) → step m rule x (gather 0) ≡ done y answer → answer ≡ sum (pos (crossing rule x.cells.n c))
  pub station : (s : ℕ) (y : HouseState m.State) (answer : Answer) → step m rule x (gather s) ≡ done y answer → answer ≡ sum ((station_at x.cells s).frozen +ℤ (told (2 * s + 1) +ℤ told (2 * s + 2)))
  pub frozen : (s : ℕ) → (station_at x.cells s).frozen ≡ d.between s

-- at every time of every history
abbrev pub WhatGatherTells : Model → Type 0
WhatGatherTells m = (rule : Rule) (x : HouseState m.State) (history : History m rule x) → GatherTells m rule x (cut_of (granted_calls m rule x history)) (deficits_of (granted_calls m rule x history)) (sums_told m rule x history)
