-- What a reader over a source finds.
use Rattle.std.specs.Prelude.{◌≡◌, ℕ, List, ◌++◌, Some, None, Result, Ok, Err}
use Rattle.scan.specs.Reading.{◌>>=◌, Read}
use Rattle.stimulus.specs.declared.stim_error.StimError.TheVariants.{OutOfMemory}
use Rattle.replay.specs.declared.text_error.TextError.{TextError}
use Rattle.replay.specs.declared.text_error.TextError.TheVariants.{Refused, Device}

-- out of memory and a failing device aside, this holds of a refusal
abbrev pub ForText : TextError → Type 0 → Type 0
ForText (Refused (OutOfMemory refused)) P = Unit {0}
ForText (Refused other) P = P
ForText Device P = Unit {0}

-- what is read, with what was answered, is of P, and what follows it are the bytes that are held, and then the later ones of the
-- source; or nothing is read
abbrev pub FindsWith : {A X : Type 0} → (A → X → Type 0) → Read A → Result X TextError → List ℕ → List ℕ → Type 0
FindsWith P read (Ok x) held later = (a : _) × (read ≡ Some (a, held ++ later)) × P a x
FindsWith P read (Err e) held later = ForText e (read ≡ None)

-- what is read was answered, and what follows it are the bytes that are held, and then the later ones; or nothing is read
abbrev pub Finds : {A : Type 0} → Read A → Result A TextError → List ℕ → List ℕ → Type 0
Finds read (Ok x) held later = read ≡ Some (x, held ++ later)
Finds read (Err e) held later = ForText e (read ≡ None)

-- these values were read of a list that is read, and the others are read of the bytes that are held, and then the later ones
abbrev pub StillReads : {A : Type 0} → Read (List A) → List A → (List ℕ → Read (List A)) → List ℕ → List ℕ → Type 0
StillReads read front others held later = (others (held ++ later) >>= λ x. Some (front ++ x.0, x.1)) ≡ read
