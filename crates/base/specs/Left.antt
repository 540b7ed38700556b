-- What a reader of std may still give.
use mathlib.Core.Path.{refl, sym}
use mathlib.Core.List.{append-nil}
use mathlib.Core.Bool.{true≢false}
use Rattle.std.specs.Prelude.{ℕ, List, [], ◌++◌, Bool, true, false, Option, None, Some}
use Rattle.base.specs.Devices.{IsLeft}

-- there is always such a text
pub some_left : (given : List ℕ) (ended : Bool) (remaining : Option (List ℕ)) → (text : List ℕ) × (later : List ℕ) × IsLeft given ended remaining text later
some_left given true remaining = (given, [], (sym (append-nil given), λ _. refl, λ no. absurd (true≢false no)))
some_left given false None = (given, [], (sym (append-nil given), λ no. absurd (true≢false (sym no)), λ _. tt))
some_left given false (Some known) = (given ++ known, known, (refl, λ no. absurd (true≢false (sym no)), λ _. refl))
