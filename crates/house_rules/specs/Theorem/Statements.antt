-- What is proved of every count, for every list of calls from a made house.
use Rattle.std.specs.Prelude.{◌≡◌, ◌≢◌, ℕ, ◌<◌, true, false, ◌↔◌, List, ◌++◌, map, ℤ, pos, None}
use Rattle.common.specs.Limits.{line_count}
use Rattle.std.specs.List.{AllByRecursion}
use Rattle.std.specs.List.Sorted.{IsPermutation}
use Rattle.sections.specs.Rule.{Rule}
use Rattle.common.specs.Questions.{first_no}
use Rattle.methods.specs.Model.{Model}
use Rattle.house_rules.specs.State.Names.{slips_of}
use Rattle.house_rules.specs.State.House.{Cells, HouseState, is_counting}
use Rattle.house_rules.specs.Calls.Make.{Handed}
use Rattle.house_rules.specs.Calls.EveryCall.{Call, open', close, file, Answer, nothing, number, sum, sent, receipt, filed, house_questions, method_questions}
use Rattle.house_rules.specs.Theorem.Histories.{done, refused, make, step, run, Response, refused_with, granted, responses, granted_among, is_done, History, granted_calls}
use Rattle.common.specs.Sums.{sum_of}
use Rattle.house_rules.specs.Calls.CountText.{score}
use Rattle.house_rules.specs.Calls.File.{text_of}
use Rattle.house_rules.specs.Theorem.PlainHouse.{blank, plain_run, RefusesNone}
use Rattle.house_rules.specs.Theorem.Cut.{cut_of}
use Rattle.house_rules.specs.Theorem.Progress.{Complete, progress_of}
use Rattle.house_rules.specs.Calls.Event.{Event, enter, post, take}

-- Consistent: the events before the cut, then the rest, are a run of the plain house that refuses none. Where the first
-- part ends it holds the recorded sheets, and the slips of the late list are under way; where the second part ends it
-- holds the sheets of the house, and the slips of the tray are under way. Colour and order of slips are set aside.
pub record Consistent (rule : Rule) (before after : List Event) (cells : Cells) : Type 0 where
  pub refuses_none : RefusesNone rule (blank cells.n) (before ++ after)
  pub recorded : (plain_run rule (blank cells.n) before).sheets ≡ cells.recorded
  pub late : IsPermutation (plain_run rule (blank cells.n) before).under_way (slips_of cells.late)
  pub sheets : (plain_run rule (blank cells.n) (before ++ after)).sheets ≡ cells.sheets
  pub under_way : IsPermutation (plain_run rule (blank cells.n) (before ++ after)).under_way (slips_of cells.tray)

-- The house is its plain run: from blank sheets, the run of every granted enter, post and take refuses none, and it holds
-- the sheets of the house and, in their order, the slips of its tray; colours are set aside
pub record PlainRunIs (rule : Rule) (all : List Event) (cells : Cells) : Type 0 where
  pub refuses_none : RefusesNone rule (blank cells.n) all
  pub sheets : (plain_run rule (blank cells.n) all).sheets ≡ cells.sheets
  pub under_way : (plain_run rule (blank cells.n) all).under_way ≡ slips_of cells.tray

-- after every history, in every phase
abbrev pub HouseIsItsPlainRun : Model → Type 0
HouseIsItsPlainRun m =
    (rule : Rule) (x : HouseState m.State) (history : History m rule x) → PlainRunIs rule (cut_of (granted_calls m rule x history)).all x.cells

-- for every history of a house x that close made y of
abbrev pub ClosesConsistently : (m : Model) → Rule → (x y : HouseState m.State) → Type 0
ClosesConsistently m rule x y =
    (history : History m rule x) →
    Consistent rule (cut_of (granted_calls m rule x history)).before (cut_of (granted_calls m rule x history)).after y.cells

-- at every granted close
abbrev pub CountsAreConsistent : Model → Type 0
CountsAreConsistent m =
    (rule : Rule) (x y : HouseState m.State) (answer : Answer) → step m rule x close ≡ done y answer → ClosesConsistently m rule x y

-- Scores: what an event gives a line
abbrev pub gain_of : Rule → (line : ℕ) → Event → ℤ
gain_of rule line (enter s a b r) = rule.gain a b r line
gain_of rule line (post s to l amount) = pos 0
gain_of rule line (take a b) = pos 0

-- each line's score is what the entries before the turns gave it
abbrev pub ClosesWithScores : (m : Model) → Rule → (x y : HouseState m.State) → Type 0
ClosesWithScores m rule x y =
    (history : History m rule x) (line : ℕ) → line < line_count →
    score y.cells.recorded (slips_of y.cells.late) line ≡ sum_of (gain_of rule line) (cut_of (granted_calls m rule x history)).before

-- at every granted close
abbrev pub ScoresAreGains : Model → Type 0
ScoresAreGains m =
    (rule : Rule) (x y : HouseState m.State) (answer : Answer) → step m rule x close ≡ done y answer → ClosesWithScores m rule x y

-- Exact: close is granted if and only if a count is open, all stations have gathered, no old-coloured slip is under way,
-- and each station has had as many reports in this count as late slips. All four go by the granted calls alone: the slips
-- under way are those that the plain run of all events leaves
abbrev pub ClosesExactly : (m : Model) → Rule → (x : HouseState m.State) → Type 0
ClosesExactly m rule x =
    (history : History m rule x) →
    (is_done (step m rule x close) ≡ true)
    ↔ Complete x.cells.n (cut_of (granted_calls m rule x history)) (progress_of (granted_calls m rule x history)) (plain_run rule (blank x.cells.n) (cut_of (granted_calls m rule x history)).all).under_way

abbrev pub CloseIsExact : Model → Type 0
CloseIsExact m = (rule : Rule) (x : HouseState m.State) → ClosesExactly m rule x

-- The method refuses nothing: where the house's own questions are all answered yes, so are the method's. So no refusal has
-- a number from 23 on, which are the method's
abbrev pub MethodRefusesNothing : Model → Type 0
MethodRefusesNothing m =
    (rule : Rule) (x : HouseState m.State) → History m rule x → (call : Call) →
    (first_no (house_questions rule x.phase x.cells (m.rules.outstanding x.method) call) ≡ None → first_no (method_questions m x call) ≡ None)
    × ((code : ℕ × ℕ × ℕ) → step m rule x call ≡ refused code → code.0 < 23)

-- Alike: an answer with its control messages set aside
abbrev pub messages_aside : Answer → Answer
messages_aside nothing = nothing
messages_aside (number k) = number k
messages_aside (sum z) = sum z
messages_aside (sent messages) = sent 0
messages_aside (receipt late messages) = receipt late 0
messages_aside (filed written text) = filed written text

abbrev pub response_aside : Response → Response
response_aside (refused_with code) = refused_with code
response_aside (granted answer) = granted (messages_aside answer)

-- two houses that differ in the method and the messages alone
pub record Alike {P Q : Type 0} (x : HouseState P) (y : HouseState Q) : Type 0 where
  pub phase : x.phase ≡ y.phase
  pub station_count : x.cells.n ≡ y.cells.n
  pub tray_cells : x.cells.tray_cells ≡ y.cells.tray_cells
  pub late_cells : x.cells.late_cells ≡ y.cells.late_cells
  pub sheets : x.cells.sheets ≡ y.cells.sheets
  pub recorded : x.cells.recorded ≡ y.cells.recorded
  pub stations : x.cells.stations ≡ y.cells.stations
  pub tray : x.cells.tray ≡ y.cells.tray
  pub late : x.cells.late ≡ y.cells.late

-- houses made alike but for the method and given the same calls give the same responses, the texts among them, and stay
-- alike
abbrev pub MethodsAgree : Model → Model → Type 0
MethodsAgree m k =
    (rule : Rule) (handed : Handed) (p : m.State) (q : k.State) → m.Valid p → k.Valid q →
    (x : HouseState m.State) (y : HouseState k.State) →
    make m handed p ≡ done x nothing → make k handed q ≡ done y nothing →
    (calls : List Call) →
    (map response_aside (responses m rule x calls) ≡ map response_aside (responses k rule y calls)) × Alike (run m rule x calls) (run k rule y calls)

-- Staying: from a close, or wherever no count is open, until the next granted open, record and late list stay as they are,
-- and so does the text; the phase stays too until a file is granted
abbrev pub NotOpen : Call → Type 0
NotOpen call = (s : ℕ) → call ≢ open' s

abbrev pub NotFile : Call → Type 0
NotFile call = (late_on_receipt : ℕ) (text : List ℕ) → call ≢ file late_on_receipt text

pub record Stays {Q : Type 0} (x y : HouseState Q) : Type 0 where
  pub shut : is_counting y.phase ≡ false  -- no count is open
  pub recorded : y.cells.recorded ≡ x.cells.recorded
  pub late : y.cells.late ≡ x.cells.late
  pub text : text_of y.cells ≡ text_of x.cells

abbrev pub CountsStay : Model → Type 0
CountsStay m =
    (rule : Rule) (x : HouseState m.State) (calls : List Call) → is_counting x.phase ≡ false → AllByRecursion NotOpen (granted_among m rule x calls) →
    Stays x (run m rule x calls) × (AllByRecursion NotFile (granted_among m rule x calls) → (run m rule x calls).phase ≡ x.phase)
