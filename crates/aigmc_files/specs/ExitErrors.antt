-- What becomes of a refusal on its way to the end of a command.
use Rattle.std.specs.Prelude.{◌≡◌, ◌≢◌, ℕ}
use Rattle.aigmc_files.specs.Numbers.{number_of, place_of}
use Rattle.aigmc_files.specs.declared.exit_error.Role.{Role}
use Rattle.aigmc_files.specs.declared.exit_error.ExitError.{ExitError}
use Rattle.aigmc_files.specs.declared.exit_error.ExitError.TheVariants.{BadArgument, Taken, Told, Memory, Refused, Fault, System, At, NoProperty}

-- a refusal with this number and place, of the file with this role
abbrev pub IsAt : Role → ℕ → ℕ → ExitError → Type 0
IsAt role n p (At r number place word) = (r ≡ role) × (number ≡ n) × (place ≡ p)
IsAt role n p BadArgument = ⊥
IsAt role n p Taken = ⊥
IsAt role n p Told = ⊥
IsAt role n p Memory = ⊥
IsAt role n p (Refused e) = ⊥
IsAt role n p (Fault number place) = ⊥
IsAt role n p (System word) = ⊥
IsAt role n p (NoProperty property place has) = ⊥

-- the number of a refusal of what a file has: it is neither memory's nor a device's
abbrev pub IsOfText : ℕ → Type 0
IsOfText n = (n ≢ 20) × (n ≢ 21)

-- the same refusal, but one of the system as that of the file with this role
abbrev pub IsOfDevice : Role → ExitError → ExitError → Type 0
IsOfDevice role (System word) s = IsAt role 21 0 s
IsOfDevice role (Refused e) s = (number_of e ≡ 21 → IsAt role 21 0 s) × (number_of e ≢ 21 → s ≡ Refused e)
IsOfDevice role BadArgument s = s ≡ BadArgument
IsOfDevice role Taken s = s ≡ Taken
IsOfDevice role Told s = s ≡ Told
IsOfDevice role Memory s = s ≡ Memory
IsOfDevice role (Fault n p) s = s ≡ Fault n p
IsOfDevice role (At r n p word) s = s ≡ At r n p word
IsOfDevice role (NoProperty property p has) s = s ≡ NoProperty property p has

-- the same refusal, but one of what a file has as that of the file with this role
abbrev pub IsOfFile : Role → ExitError → ExitError → Type 0
IsOfFile role (Refused e) s = (IsOfText (number_of e) → IsAt role (number_of e) (place_of e) s) × ((IsOfText (number_of e) → ⊥) → s ≡ Refused e)
IsOfFile role (Fault n p) s = (IsOfText n → IsAt role n p s) × ((IsOfText n → ⊥) → s ≡ Fault n p)
IsOfFile role BadArgument s = s ≡ BadArgument
IsOfFile role Taken s = s ≡ Taken
IsOfFile role Told s = s ≡ Told
IsOfFile role Memory s = s ≡ Memory
IsOfFile role (System word) s = s ≡ System word
IsOfFile role (At r n p word) s = s ≡ At r n p word
IsOfFile role (NoProperty property p has) s = s ≡ NoProperty property p has
