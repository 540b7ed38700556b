-- Texts of what is left of a stimulus.
use Rattle.std.specs.Prelude.{ℕ, Bool, true, false, List, ◌++◌, Option, None, Some, codes, flat_map, map}
use Rattle.stimulus.specs.Texts.{property_line}
use Rattle.witness.specs.declared.cleared.Cleared.{Cleared}

-- a 0 or a 1, or an x for a value that was cleared
abbrev pub character_of : Option Bool → ℕ
character_of (Some false) = 48
character_of (Some true) = 49
character_of None = 120

-- the values one after another, and a line end
abbrev pub row_text : List (Option Bool) → List ℕ
row_text row = map character_of row ++ codes "\n"

-- a 1, the property, the values of the latches, those of the inputs at each time, and a dot, a line each
abbrev pub cleared_text : Cleared → List ℕ
cleared_text c = codes "1\n" ++ property_line c.property ++ row_text c.initial ++ flat_map row_text c.inputs ++ codes ".\n"
