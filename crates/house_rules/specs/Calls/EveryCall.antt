-- The calls of a house after make: what each asks, what it leaves and what it answers.
use Rattle.std.specs.Prelude.{ℕ, ◌+◌, List, [], ◌++◌, length, ℤ}
use Rattle.sections.specs.Rule.{Rule}
use Rattle.common.specs.Questions.{Question, Code}
use Rattle.methods.specs.Model.{Model}
use Rattle.house_rules.specs.declared.phase.Phase.{Phase}
use Rattle.house_rules.specs.declared.phase.Phase.TheVariants.{Ready, Counting, Closed}
use Rattle.house_rules.specs.State.House.{Cells, HouseState, station_at}
use Rattle.house_rules.specs.State.Changes.{with_cells, in_phase}
use Rattle.house_rules.specs.Calls.Event.{Event, enter, post, take}
use Rattle.house_rules.specs.Calls.Enter.{enter_questions, entered_cells}
use Rattle.house_rules.specs.Calls.Post.{post_questions, posted_cells}
use Rattle.house_rules.specs.Calls.Take.{take_questions, taken_cells, under_way}
use Rattle.house_rules.specs.Calls.Open.{open_questions, opened_cells}
use Rattle.house_rules.specs.Calls.Turn.{turn_questions, turns}
use Rattle.house_rules.specs.Calls.Gather.{gather_questions, root_questions, sum_at, after_gather}
use Rattle.house_rules.specs.Calls.Report.{report_questions, arrived_questions, after_report}
use Rattle.house_rules.specs.Calls.Close.{close_questions}
use Rattle.house_rules.specs.Calls.File.{file_questions, text_of, written_over}

-- open' has a prime because `open` is a word of the language
pub data Call : Type 0 where
  event : Event → Call
  open' : (station : ℕ) → Call
  turn : (station : ℕ) → Call
  gather : (station : ℕ) → Call
  report : (station : ℕ) → Call
  close : Call
  file : (late_on_receipt : ℕ) (text : List ℕ) → Call  -- the late slips that the receipt tells, and the text handed in

pub data Answer : Type 0 where
  nothing : Answer
  number : ℕ → Answer  -- of the slip posted
  sum : ℤ → Answer  -- what was gathered
  sent : ℕ → Answer  -- control messages of a report
  receipt : (late messages : ℕ) → Answer  -- late slips, and control messages since open
  filed : (written : ℕ) (text : List ℕ) → Answer  -- how many bytes were written, and the text after

-- what the house itself asks, in order: of an event, and of any call
abbrev pub event_questions : Rule → Phase → Cells → Event → List (Question Code)
event_questions rule p cells (enter s a b r) = enter_questions rule cells s a b r
event_questions rule p cells (post s to line amount) = post_questions rule cells s to line amount
event_questions rule p cells (take a b) = take_questions rule p cells (under_way cells a b)

abbrev pub house_questions : Rule → Phase → Cells → (outstanding : ℕ) → Call → List (Question Code)
house_questions rule p cells outstanding (event e) = event_questions rule p cells e
house_questions rule p cells outstanding (open' s) = open_questions p cells s
house_questions rule p cells outstanding (turn s) = turn_questions p cells s
house_questions rule p cells outstanding (gather s) = gather_questions p cells s
house_questions rule p cells outstanding (report s) = report_questions p cells s
house_questions rule p cells outstanding close = close_questions p cells outstanding
house_questions rule p cells outstanding (file late_on_receipt text) = file_questions p cells late_on_receipt text

-- what its method asks after that
abbrev pub method_questions : (m : Model) → HouseState m.State → Call → List (Question Code)
method_questions m x (event e) = []
method_questions m x (open' s) = []
method_questions m x (turn s) = []
method_questions m x (gather s) = root_questions m x s
method_questions m x (report s) = arrived_questions m x s
method_questions m x close = []
method_questions m x (file late_on_receipt text) = []

abbrev pub questions : (m : Model) → Rule → HouseState m.State → Call → List (Question Code)
questions m rule x call = house_questions rule x.phase x.cells (m.rules.outstanding x.method) call ++ method_questions m x call

-- what a granted event leaves in the cells
abbrev pub cells_after_event : Rule → Phase → Cells → Event → Cells
cells_after_event rule p cells (enter s a b r) = entered_cells rule cells s a b r
cells_after_event rule p cells (post s to line amount) = posted_cells cells s to line amount
cells_after_event rule p cells (take a b) = taken_cells p cells (under_way cells a b)

-- what a granted call leaves
abbrev pub after : (m : Model) → Rule → HouseState m.State → Call → HouseState m.State
after m rule x (event e) = with_cells x (cells_after_event rule x.phase x.cells e)
after m rule x (open' s) = in_phase (with_cells x (opened_cells x.cells s)) Counting
after m rule x (turn s) = with_cells x (turns x.cells s)
after m rule x (gather s) = after_gather m x s
after m rule x (report s) = after_report m x s
after m rule x close = in_phase x Closed
after m rule x (file late_on_receipt text) = in_phase x Ready

-- what a granted event answers, and any granted call
abbrev pub event_reply : Cells → Event → Answer
event_reply cells (enter s a b r) = nothing
event_reply cells (post s to line amount) = number ((station_at cells s).posted + 1)
event_reply cells (take a b) = nothing

abbrev pub reply : (m : Model) → HouseState m.State → Call → Answer
reply m x (event e) = event_reply x.cells e
reply m x (open' s) = nothing
reply m x (turn s) = nothing
reply m x (gather s) = sum (sum_at x.cells s)
reply m x (report s) = sent (m.rules.arrived_sent x.method s)
reply m x close = receipt (length x.cells.late) x.cells.messages
reply m x (file late_on_receipt text) = filed (length (text_of x.cells)) (written_over (text_of x.cells) text)
