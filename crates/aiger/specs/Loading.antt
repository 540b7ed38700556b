-- What is said of a text that should spell a circuit's file.
use Rattle.std.specs.Prelude.{◌≡◌, ◌≢◌, ◌<◌, ◌↔◌, ℕ, List, length}
use Rattle.graph.specs.File.{File}
use Rattle.graph.specs.Refusals.{number_of}
use Rattle.aiger.specs.Layouts.{SpellsFile, IsRefusalNumber}
use Rattle.aiger.specs.declared.load_error.LoadError.{LoadError}
use Rattle.aiger.specs.declared.load_error.LoadError.TheVariants.{Refused, Device}

-- the one file that the text spells
pub record IsFileOf (xs : List ℕ) (f : File) : Type 0 where
  pub spells : SpellsFile xs f
  pub only : (g : File) → SpellsFile xs g → g ≡ f

-- the text spells no file, and the number is one of its reader's refusals, but not out of memory; it is 1, too long,
-- exactly where there are more than 67108864 bytes
pub record SpellsNoFile (xs : List ℕ) (n : ℕ) : Type 0 where
  pub none : (f : File) → SpellsFile xs f → ⊥
  pub number : IsRefusalNumber xs n
  pub other : n ≢ 20
  pub too_long : (n ≡ 1) ↔ (67108864 < length xs)

-- why a text is refused: it spells no file, but for out of memory
abbrev pub IsRefusal : List ℕ → LoadError → Type 0
IsRefusal xs (Refused e) = number_of e ≢ 20 → SpellsNoFile xs (number_of e)
IsRefusal xs Device = Unit {0}
