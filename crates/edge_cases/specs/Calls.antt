-- The calls of a house, one definition each.
use Rattle.std.specs.Prelude.{ℕ, List, ℤ}
use Rattle.house_rules.specs.Calls.EveryCall.{Call, event, open', turn, gather, report, close, file}
use Rattle.house_rules.specs.Calls.Event.{enter, post, take}

abbrev pub enter_at : (station a b : ℕ) (r : ℤ) → Call
enter_at s a b r = event (enter s a b r)

abbrev pub post_from : (station to line : ℕ) (amount : ℤ) → Call
post_from s to line amount = event (post s to line amount)

abbrev pub take_slip : (sender number : ℕ) → Call
take_slip a b = event (take a b)

abbrev pub open_at : (station : ℕ) → Call
open_at s = open' s

abbrev pub turn_at : (station : ℕ) → Call
turn_at s = turn s

abbrev pub gather_at : (station : ℕ) → Call
gather_at s = gather s

abbrev pub report_at : (station : ℕ) → Call
report_at s = report s

abbrev pub close_count : Call
close_count = close

abbrev pub file_text : (late_on_receipt : ℕ) (text : List ℕ) → Call
file_text late_on_receipt text = file late_on_receipt text
