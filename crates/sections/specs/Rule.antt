-- A section's meaning: the figures of a sheet, and the rule that says what a call is asked and what an entry gains.
use Rattle.std.specs.Prelude.{◌≡◌, ℕ, ◌+◌, Bool, false, not, ◌&&◌, List, [], ◌∷◌, replicate, ℤ, pos, ◌+ℤ◌, ◌-ℤ◌, neg_ℤ, ◌≤ℤ◌, ◌==◌, nat_lt, slice_index_or, slice_set, Some}
use Rattle.common.specs.Limits.{line_count}
use Rattle.common.specs.Questions.{Question, first_no}

-- what a section asks of one call; a no tells the cause and the line of the fault
abbrev pub SectionQuestions : Type 0
SectionQuestions = List (Question (ℕ × ℕ))

-- entry, debit and credit: what is asked of a call, by the figures of the sheet and the call's arguments;
-- gain: what a granted entry gives each line, by its arguments alone
pub record Rule : Type 0 where
  pub entry : List ℤ → (a b : ℕ) (r : ℤ) → SectionQuestions
  pub debit : List ℤ → (line : ℕ) (amount : ℤ) → SectionQuestions
  pub credit : List ℤ → (line : ℕ) (amount : ℤ) → SectionQuestions
  pub gain : (a b : ℕ) (r : ℤ) → (line : ℕ) → ℤ

-- a sheet has 32 lines; a blank one has 0 at each
abbrev pub blank_sheet : List ℤ
blank_sheet = replicate line_count (pos 0)

abbrev pub figure_at : List ℤ → ℕ → ℤ
figure_at f line = slice_index_or f line (pos 0)

-- the figures with the gain of each line added, from line k on
abbrev pub gained_from : ℕ → (ℕ → ℤ) → List ℤ → List ℤ
gained_from k gain [] = []
gained_from k gain (x ∷ xs) = (x +ℤ gain k) ∷ gained_from (k + 1) gain xs

-- what the three calls leave where they are granted
abbrev pub entered : List ℤ → (ℕ → ℤ) → List ℤ
entered f gain = gained_from 0 gain f

abbrev pub debited : List ℤ → ℕ → ℤ → List ℤ
debited f line amount = slice_set f line (figure_at f line -ℤ amount)

abbrev pub credited : List ℤ → ℕ → ℤ → List ℤ
credited f line amount = slice_set f line (figure_at f line +ℤ amount)

-- two lines of a sheet that differ
abbrev pub good_lines : ℕ → ℕ → Bool
good_lines a b = nat_lt a line_count && (nat_lt b line_count && not (a == b))

-- each figure is from -n to n
abbrev pub Within : ℕ → List ℤ → Type 0
Within n f = (line : ℕ) → (neg_ℤ (pos n) ≤ℤ figure_at f line) × (figure_at f line ≤ℤ pos n)

-- what every rule asks before anything else: a line above 31, and equal lines in an entry, are cause 9
pub record Lawful (rule : Rule) : Type 0 where
  pub entry_lines : (f : List ℤ) (a b : ℕ) (r : ℤ) → good_lines a b ≡ false → first_no (rule.entry f a b r) ≡ Some (9, a)
  pub debit_line : (f : List ℤ) (line : ℕ) (amount : ℤ) → nat_lt line line_count ≡ false → first_no (rule.debit f line amount) ≡ Some (9, line)
  pub credit_line : (f : List ℤ) (line : ℕ) (amount : ℤ) → nat_lt line line_count ≡ false → first_no (rule.credit f line amount) ≡ Some (9, line)
