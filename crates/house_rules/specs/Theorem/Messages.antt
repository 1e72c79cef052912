-- The control messages since the last open, read off the calls and their answers.
use Rattle.std.specs.Prelude.{◌≡◌, ℕ, ◌+◌, ◌*◌, ◌≤◌, cond, List, [], ◌∷◌, length, ◌==◌, unsigned_abs}
use Rattle.common.specs.Limits.{most_messages}
use Rattle.sections.specs.Rule.{Rule}
use Rattle.methods.specs.Model.{Model}
use Rattle.house_rules.specs.State.House.{HouseState}
use Rattle.house_rules.specs.Calls.EveryCall.{Call, open', turn, gather, report, close, file, Answer, nothing, number, sum, sent, receipt, filed, event}
use Rattle.house_rules.specs.Theorem.Histories.{Outcome, refused, done, step, next, History}

-- what a gather answers, and what a report answers that it sent
abbrev pub gathered_told : Answer → ℕ
gathered_told nothing = 0
gathered_told (number k) = 0
gathered_told (sum z) = unsigned_abs z
gathered_told (sent messages) = 0
gathered_told (receipt late messages) = 0
gathered_told (filed written text) = 0

abbrev pub sent_told : Answer → ℕ
sent_told nothing = 0
sent_told (number k) = 0
sent_told (sum z) = 0
sent_told (sent messages) = messages
sent_told (receipt late messages) = 0
sent_told (filed written text) = 0

-- after a granted call, where they were so many before it: an open starts at 0; at the root's gather the method sends what
-- it begins with, over all stations and the sum answered; a report sends what it answers
abbrev pub messages_after : (m : Model) → HouseState m.State → (before : ℕ) → Call → Answer → ℕ
messages_after m x before (event e) answer = before
messages_after m x before (open' s) answer = 0
messages_after m x before (turn s) answer = before
messages_after m x before (gather s) answer = cond (s == 0) (before + m.rules.begin_sent x.method x.cells.n (gathered_told answer)) before
messages_after m x before (report s) answer = before + sent_told answer
messages_after m x before close answer = before
messages_after m x before (file late_on_receipt text) answer = before

-- a refused call sends none
abbrev pub messages_by : (m : Model) → HouseState m.State → (before : ℕ) → Call → Outcome m.State → ℕ
messages_by m x before call (refused code) = before
messages_by m x before call (done y answer) = messages_after m x before call answer

-- after a list of calls
abbrev pub messages_since : (m : Model) → Rule → HouseState m.State → (before : ℕ) → List Call → ℕ
messages_since m rule x before [] = before
messages_since m rule x before (call ∷ calls) = messages_since m rule (next x (step m rule x call)) (messages_by m x before call (step m rule x call)) calls

-- at every granted close of a house x with a history, the receipt tells the late slips of the count and these messages
abbrev pub CloseTellsTheMessages : Model → Type 0
CloseTellsTheMessages m =
    (rule : Rule) (x y : HouseState m.State) (answer : Answer) → step m rule x close ≡ done y answer → (history : History m rule x) →
    answer ≡ receipt (length y.cells.late) (messages_since m rule history.first 0 history.calls)

-- they are few: at most 1,000 for each late slip that the receipt tells, and 1,000 more
abbrev pub MessagesAreFew : Model → Type 0
MessagesAreFew m =
    (rule : Rule) (x y : HouseState m.State) (late messages : ℕ) → step m rule x close ≡ done y (receipt late messages) → History m rule x →
    messages ≤ most_messages * (late + 1)
