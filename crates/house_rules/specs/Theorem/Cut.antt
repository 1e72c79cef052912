-- The cut that a count makes, read off the granted calls alone.
use Rattle.std.specs.Prelude.{ℕ, ◌+◌, Bool, true, false, cond, ◌||◌, List, [], ◌∷◌, ◌++◌, ◌==◌}
use Rattle.house_rules.specs.State.Names.{same_name}
use Rattle.house_rules.specs.Calls.EveryCall.{Call, open', turn, gather, report, close, file, event}
use Rattle.house_rules.specs.Calls.Event.{Event, enter, post, take}

-- a function with one value changed
abbrev pub put : {X : Type 0} → (ℕ → X) → ℕ → X → ℕ → X
put f s v t = cond (t == s) v (f t)

abbrev pub put_slip : {X : Type 0} → (ℕ → ℕ → X) → ℕ → ℕ → X → ℕ → ℕ → X
put_slip f a b v x y = cond (same_name a b x y) v (f x y)

-- the present count is the one opened last: from its close until the next open the fields still describe it
pub record Cut : Type 0 where
  pub all : List Event  -- every granted event
  pub before : List Event  -- those before their stations' turns for the present count, in the old order
  pub after : List Event  -- the rest, in the old order
  pub turned : ℕ → Bool  -- the stations that have turned in the present count
  pub new : ℕ → ℕ → Bool  -- the slips posted in it by stations that had turned; every other slip is old-coloured
  pub posted : ℕ → ℕ  -- how many posts of a station were granted
  pub receiver : ℕ → ℕ → ℕ  -- the receiver of each slip posted

abbrev pub no_cut : Cut
no_cut = record { all = []; before = []; after = []; turned = λ s. false; new = λ a b. false; posted = λ s. 0; receiver = λ a b. 0 }

-- an event of a station that has turned, or has not
abbrev pub with_event : Cut → (turned : Bool) → Event → Cut
with_event c t e = record { all = c.all ++ (e ∷ []); before = cond t c.before (c.before ++ (e ∷ [])); after = cond t (c.after ++ (e ∷ [])) c.after; turned = c.turned; new = c.new; posted = c.posted; receiver = c.receiver }

abbrev pub with_turned : Cut → (ℕ → Bool) → Cut
with_turned c t = record { all = c.all; before = c.before; after = c.after; turned = t; new = c.new; posted = c.posted; receiver = c.receiver }

-- station s posts its slip number k
abbrev pub with_post : Cut → (s to k : ℕ) → Cut
with_post c s to k = record { all = c.all; before = c.before; after = c.after; turned = c.turned; new = put_slip c.new s k (c.turned s); posted = put c.posted s k; receiver = put_slip c.receiver s k to }

-- a count is opened: all events so far are before it, and one station has turned
abbrev pub with_open : Cut → (s : ℕ) → Cut
with_open c s = record { all = c.all; before = c.all; after = []; turned = put (λ t. false) s true; new = λ a b. false; posted = c.posted; receiver = c.receiver }

-- station q takes a slip: it turns just before, if the slip is new and it has not turned; the take is its event
abbrev pub with_take : Cut → (q a b : ℕ) → Cut
with_take c q a b = with_event (with_turned c (put c.turned q (c.turned q || c.new a b))) (c.turned q || c.new a b) (take a b)

-- the cut after an event, and after any call
abbrev pub cut_after_event : Cut → Event → Cut
cut_after_event c (enter s a b r) = with_event c (c.turned s) (enter s a b r)
cut_after_event c (post s to line amount) = with_event (with_post c s to (c.posted s + 1)) (c.turned s) (post s to line amount)
cut_after_event c (take a b) = with_take c (c.receiver a b) a b

abbrev pub cut_after : Cut → Call → Cut
cut_after c (event e) = cut_after_event c e
cut_after c (open' s) = with_open c s
cut_after c (turn s) = with_turned c (put c.turned s true)
cut_after c (gather s) = c
cut_after c (report s) = c
cut_after c close = c
cut_after c (file late_on_receipt text) = c

abbrev pub cut_after_all : Cut → List Call → Cut
cut_after_all c [] = c
cut_after_all c (call ∷ calls) = cut_after_all (cut_after c call) calls

-- the cut after the granted calls
abbrev pub cut_of : List Call → Cut
cut_of calls = cut_after_all no_cut calls
