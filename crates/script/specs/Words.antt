-- The words of a script for the sections.
use Rattle.std.specs.Prelude.{ℕ, cond, List, Some, None, codes, Option}
use Rattle.std.specs.Str.{bytes_eq}
use Rattle.script.specs.declared.words.Kind.{Kind}
use Rattle.script.specs.declared.words.Kind.TheVariants.{Chess, Bridge}

abbrev pub kind_of : List ℕ → Option Kind
kind_of bs = cond (bytes_eq bs (codes "chess")) (Some Chess) (cond (bytes_eq bs (codes "bridge")) (Some Bridge) None)
