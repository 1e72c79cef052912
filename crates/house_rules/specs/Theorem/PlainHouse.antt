-- The plain house: sheets and slips under way; no colours, no counts, no limits on cells or numbers.
use Rattle.std.specs.Prelude.{◌≡◌, ℕ, ◌+◌, Bool, true, cond, ◌&&◌, List, [], ◌∷◌, ◌++◌, length, replicate, ℤ, is_some, Some, None, Option, nat_lt, slice_index, slice_index_or, slice_set}
use Rattle.common.specs.Questions.{all_yes}
use Rattle.sections.specs.Rule.{Rule, blank_sheet, entered, debited, credited}
use Rattle.house_rules.specs.declared.slip.Slip.{Slip}
use Rattle.house_rules.specs.State.Names.{find, without}
use Rattle.house_rules.specs.Calls.Event.{Event, enter, post, take}

pub record PlainHouse : Type 0 where
  pub sheets : List (List ℤ)
  pub posted : List ℕ  -- each station's granted posts so far
  pub under_way : List Slip

-- n blank sheets and no slip under way
abbrev pub blank : (n : ℕ) → PlainHouse
blank n = record { sheets = replicate n blank_sheet; posted = replicate n 0; under_way = [] }

abbrev pub plain_sheet : PlainHouse → (s : ℕ) → List ℤ
plain_sheet p s = slice_index_or p.sheets s []

abbrev pub has_station : PlainHouse → (s : ℕ) → Bool
has_station p s = nat_lt s (length p.sheets)

-- the slip is removed and its receiver credited
abbrev pub plain_take : Rule → PlainHouse → Option Slip → Option PlainHouse
plain_take rule p None = None
plain_take rule p (Some x) =
    cond (all_yes (rule.credit (plain_sheet p x.receiver) x.line x.amount))
    (Some (record { sheets = slice_set p.sheets x.receiver (credited (plain_sheet p x.receiver) x.line x.amount); posted = p.posted; under_way = without x.sender x.number p.under_way }))
    None

-- one event; None where it is refused: no such station, no such slip, or the section does not admit it
abbrev pub plain_step : Rule → PlainHouse → Event → Option PlainHouse
plain_step rule p (enter s a b r) =
    cond (has_station p s && all_yes (rule.entry (plain_sheet p s) a b r))
    (Some (record { sheets = slice_set p.sheets s (entered (plain_sheet p s) (rule.gain a b r)); posted = p.posted; under_way = p.under_way }))
    None
plain_step rule p (post s to line amount) =
    cond ((has_station p s && has_station p to) && all_yes (rule.debit (plain_sheet p s) line amount))
    (Some (record { sheets = slice_set p.sheets s (debited (plain_sheet p s) line amount); posted = slice_set p.posted s (slice_index p.posted s + 1); under_way = p.under_way ++ (record { sender = s; number = slice_index p.posted s + 1; receiver = to; line = line; amount = amount } ∷ []) }))
    None
plain_step rule p (take a b) = plain_take rule p (find a b p.under_way)

-- what is refused alters nothing
abbrev pub or_stays : PlainHouse → Option PlainHouse → PlainHouse
or_stays p None = p
or_stays p (Some q) = q

abbrev pub plain_run : Rule → PlainHouse → List Event → PlainHouse
plain_run rule p [] = p
plain_run rule p (e ∷ es) = plain_run rule (or_stays p (plain_step rule p e)) es

-- no event of the run is refused
abbrev pub RefusesNone : Rule → PlainHouse → List Event → Type 0
RefusesNone rule p [] = Unit {0}
RefusesNone rule p (e ∷ es) = (is_some (plain_step rule p e) ≡ true) × RefusesNone rule (or_stays p (plain_step rule p e)) es
