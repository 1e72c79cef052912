-- The two colours.
use Rattle.std.specs.Prelude.{Bool, true, false}
use Rattle.house_rules.specs.declared.colour.Colour.{Colour}
use Rattle.house_rules.specs.declared.colour.Colour.TheVariants.{White, Red}

abbrev pub other : Colour → Colour
other White = Red
other Red = White

abbrev pub differ : Colour → Colour → Bool
differ White White = false
differ White Red = true
differ Red White = true
differ Red Red = false
