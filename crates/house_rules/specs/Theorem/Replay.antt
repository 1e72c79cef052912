-- The counting method of a house, replayed: read off the calls and what their callers were told, by the method's model.
use Rattle.std.specs.Prelude.{◌≡◌, ℕ, ◌+◌, cond, List, [], ◌∷◌, length, pos, ◌==◌}
use Rattle.sections.specs.Rule.{Rule}
use Rattle.methods.specs.Model.{Model}
use Rattle.house_rules.specs.State.House.{HouseState}
use Rattle.house_rules.specs.Calls.EveryCall.{Call, Answer, open', turn, gather, report, close, file, sum, sent, receipt, event}
use Rattle.house_rules.specs.Theorem.Histories.{Response, refused_with, granted, responses, step, done, History}
use Rattle.house_rules.specs.Theorem.Messages.{gathered_told}

-- the method's state, and the control messages that it has sent since the last open
pub record Replay (Q : Type 0) : Type 0 where
  pub method : Q
  pub messages : ℕ

-- it begins with n stations and so many arrivals to come
abbrev pub begins : (m : Model) → (n w : ℕ) → Replay m.State → Replay m.State
begins m n w r = record { method = m.rules.begun r.method n w; messages = r.messages + m.rules.begin_sent r.method n w }

-- it hears of an arrival at station s
abbrev pub hears : (m : Model) → (s : ℕ) → Replay m.State → Replay m.State
hears m s r = record { method = m.rules.arrived r.method s; messages = r.messages + m.rules.arrived_sent r.method s }

-- the messages are counted anew
abbrev pub counted_anew : {Q : Type 0} → Replay Q → Replay Q
counted_anew r = record { method = r.method; messages = 0 }

-- in a house of n stations a granted call tells the method something in two cases: the root's gather tells it n and the sum
-- that it answers, and a report of station s tells it of an arrival there
abbrev pub replay_call : (m : Model) → (n : ℕ) → Replay m.State → Call → Answer → Replay m.State
replay_call m n r (event e) answer = r
replay_call m n r (open' s) answer = counted_anew r
replay_call m n r (turn s) answer = r
replay_call m n r (gather s) answer = cond (s == 0) (begins m n (gathered_told answer) r) r
replay_call m n r (report s) answer = hears m s r
replay_call m n r close answer = r
replay_call m n r (file late_on_receipt text) answer = r

-- a refused call tells it nothing
abbrev pub replay_response : (m : Model) → (n : ℕ) → Replay m.State → Call → Response → Replay m.State
replay_response m n r call (refused_with code) = r
replay_response m n r call (granted answer) = replay_call m n r call answer

-- after a list of calls, with the response to each
abbrev pub replay : (m : Model) → (n : ℕ) → Replay m.State → List Call → List Response → Replay m.State
replay m n r [] told = r
replay m n r (call ∷ calls) [] = r
replay m n r (call ∷ calls) (response ∷ told) = replay m n (replay_response m n r call response) calls told

-- a history replayed: from the number of stations and the method handed to make
abbrev pub replayed : (m : Model) (rule : Rule) (x : HouseState m.State) → History m rule x → Replay m.State
replayed m rule x history =
    replay m history.handed.n (record { method = history.method; messages = 0 }) history.calls (responses m rule history.first history.calls)

-- The method of a house is in the state of the replay. What the root's granted gather answers is never negative, so the
-- method is told that very sum; a granted report answers what the model sends in the state of the replay, and a granted
-- close tells the late slips of the count and the messages of the replay
pub record ToldTheTruth (m : Model) (rule : Rule) (x : HouseState m.State) (r : Replay m.State) : Type 0 where
  pub method : x.method ≡ r.method
  pub sums : (y : HouseState m.State) (answer : Answer) → step m rule x (gather 0) ≡ done y answer → answer ≡ sum (pos (gathered_told answer))
  pub reports : (s : ℕ) (y : HouseState m.State) (answer : Answer) → step m rule x (report s) ≡ done y answer → answer ≡ sent (m.rules.arrived_sent r.method s)
  pub closes : (y : HouseState m.State) (answer : Answer) → step m rule x close ≡ done y answer → answer ≡ receipt (length y.cells.late) r.messages

-- at every time of every history
abbrev pub MethodIsToldTheTruth : Model → Type 0
MethodIsToldTheTruth m = (rule : Rule) (x : HouseState m.State) (history : History m rule x) → ToldTheTruth m rule x (replayed m rule x history)
