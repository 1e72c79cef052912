-- A line that enters a result: two lines of the sheet and the result, parted by tabs.
use Rattle.std.specs.Prelude.{ℕ, List, ℤ, Some, None, Option}
use Rattle.script.specs.declared.entries.Entry.{Entry}
use Rattle.script.specs.Fields.{field, rest}
use Rattle.script.specs.Numbers.{natural}

-- all three are well written, or there is no entry
abbrev pub entry_from : Option ℕ → Option ℕ → Option ℤ → Option Entry
entry_from None b r = None
entry_from (Some a) None r = None
entry_from (Some a) (Some b) None = None
entry_from (Some a) (Some b) (Some r) = Some (record { a = a; b = b; r = r })

-- the third field is all that follows the second tab
abbrev pub with_last : (List ℕ → Option ℤ) → (first second : List ℕ) → Option (List ℕ) → Option Entry
with_last result first second None = None
with_last result first second (Some last) = entry_from (natural first) (natural second) (result last)

abbrev pub with_more : (List ℕ → Option ℤ) → (first : List ℕ) → Option (List ℕ) → Option Entry
with_more result first None = None
with_more result first (Some more) = with_last result first (field more) (rest more)

-- by how the section writes its results
abbrev pub entry_of : (List ℕ → Option ℤ) → List ℕ → Option Entry
entry_of result line = with_more result (field line) (rest line)
