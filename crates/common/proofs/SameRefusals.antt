-- A call that does what another does.
use Rattle.std.proofs.Common.{◌≡◌, List, Ok, Err, Result, ap, ◌∙◌}
use Rattle.common.specs.Questions.{Question, first_no}
use Rattle.common.specs.Did.{Did}

-- where the first no is the same, and what is altered is seen as a part of the whole
pub did_as : {A E C V W : Type 0} (whole : V → W) (qs rs : List (Question C)) (code : E → C) (G H : A → Type 0) (before after : V) (r : Result A E) → first_no rs ≡ first_no qs → ((a : A) → G a → H a) → Did qs code G before after r → Did rs code H (whole before) (whole after) r
did_as whole qs rs code G H before after (Ok a) same granted d = (same ∙ d.0, granted a d.1)
did_as whole qs rs code G H before after (Err x) same granted d = (same ∙ d.0, ap whole d.1)
