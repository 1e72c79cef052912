-- How far the present count is, read off the granted calls alone.
use Rattle.std.specs.Prelude.{◌≡◌, ℕ, ◌+◌, ◌<◌, Bool, true, false, cond, not, ◌&&◌, List, [], ◌∷◌}
use Rattle.std.specs.List.{AllByRecursion}
use Rattle.house_rules.specs.declared.slip.Slip.{Slip}
use Rattle.house_rules.specs.Calls.EveryCall.{Call, open', turn, gather, report, close, file, event}
use Rattle.house_rules.specs.Theorem.Cut.{Cut, put, cut_after, no_cut}
use Rattle.house_rules.specs.Calls.Event.{Event, enter, post, take}

-- from a close until the next open all but `open?` still describe the count that was closed
pub record Progress : Type 0 where
  pub open? : Bool  -- a count is open
  pub gathered : ℕ → Bool  -- the stations that have gathered in it
  pub late_takes : ℕ → ℕ  -- how many late slips a station has had in it
  pub reports : ℕ → ℕ  -- how many reports it has had

abbrev pub no_progress : Progress
no_progress = record { open? = false; gathered = λ s. false; late_takes = λ s. 0; reports = λ s. 0 }

-- a slip is late if, while a count is open, it is old-coloured and its receiver has turned
abbrev pub late_take : Cut → Progress → (a b : ℕ) → Bool
late_take c g a b = g.open? && (c.turned (c.receiver a b) && not (c.new a b))

abbrev pub one_more : (ℕ → ℕ) → ℕ → ℕ → ℕ
one_more f s = put f s (f s + 1)

-- the late takes after an event
abbrev pub late_takes_after : Cut → Progress → Event → ℕ → ℕ
late_takes_after c g (enter s a b r) = g.late_takes
late_takes_after c g (post s to line amount) = g.late_takes
late_takes_after c g (take a b) = cond (late_take c g a b) (one_more g.late_takes (c.receiver a b)) g.late_takes

abbrev pub progress_after : Cut → Progress → Call → Progress
progress_after c g (event e) = record { open? = g.open?; gathered = g.gathered; late_takes = late_takes_after c g e; reports = g.reports }
progress_after c g (open' s) = record { open? = true; gathered = λ t. false; late_takes = λ t. 0; reports = λ t. 0 }
progress_after c g (turn s) = g
progress_after c g (gather s) = record { open? = g.open?; gathered = put g.gathered s true; late_takes = g.late_takes; reports = g.reports }
progress_after c g (report s) = record { open? = g.open?; gathered = g.gathered; late_takes = g.late_takes; reports = one_more g.reports s }
progress_after c g close = record { open? = false; gathered = g.gathered; late_takes = g.late_takes; reports = g.reports }
progress_after c g (file late_on_receipt text) = g

abbrev pub progress_after_all : Cut → Progress → List Call → Progress
progress_after_all c g [] = g
progress_after_all c g (call ∷ calls) = progress_after_all (cut_after c call) (progress_after c g call) calls

abbrev pub progress_of : List Call → Progress
progress_of calls = progress_after_all no_cut no_progress calls

-- a count that is complete: by cut and progress, and by the slips that are under way
pub record Complete (n : ℕ) (c : Cut) (g : Progress) (under_way : List Slip) : Type 0 where
  pub opened : g.open? ≡ true
  pub gathered : (s : ℕ) → s < n → g.gathered s ≡ true
  pub arrived : AllByRecursion (λ (x : Slip). c.new x.sender x.number ≡ true) under_way  -- none is old-coloured
  pub reported : (s : ℕ) → s < n → g.reports s ≡ g.late_takes s
