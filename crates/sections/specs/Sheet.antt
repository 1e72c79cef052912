-- A sheet as its 32 figures.
use Rattle.std.specs.Prelude.{List, ℤ}
use Rattle.sections.specs.declared.sheet.Sheet.{Sheet}

abbrev pub figures_of : {K : Type 0} → Sheet K → List ℤ
figures_of s = s.figures.values
