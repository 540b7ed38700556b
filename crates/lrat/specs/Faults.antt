-- What each refusal of a line says.
use Rattle.std.specs.Prelude.{◌≡◌, ℕ, ◌<◌, ◌≤◌, ◌⊎◌, List, ◌∷◌, ◌++◌, length, take, get_or, Contains, All, ℤ, pos, neg_ℤ, None, Some, Option, unsigned_abs}
use Rattle.lrat.specs.Literals.{Finder, IsProper}
use Rattle.lrat.specs.Lines.{IsDenied, LeavesOnly, LeavesSeveral, Leads, Conflicts}
use Rattle.lrat.specs.declared.fault.Fault.{Fault}
use Rattle.lrat.specs.declared.fault.Fault.TheVariants.{UnknownId, SeveralLeft, TrueAlready, NotFalse, EarlyConflict, RepeatedLiteral, VariableRange, OutOfMemory}
use Rattle.lrat.specs.declared.look.Left.{Left}
use Rattle.lrat.specs.declared.look.Left.TheVariants.{False, One, Several}

-- what a look at a clause finds
abbrev pub Finds : List ℤ → List ℤ → Left → Type 0
Finds s c False = All (IsDenied s) c
Finds s c (One l) = LeavesOnly s c l
Finds s c Several = LeavesSeveral s c

-- the literal at place k is the first that is out of range, or else repeated or opposed
abbrev pub IsImproper : ℕ → List ℤ → Fault → Type 0
IsImproper n c VariableRange = (k : ℕ) × (k < length c) × IsProper n (take k c) × (n < unsigned_abs (get_or c k (pos 0)))
IsImproper n c RepeatedLiteral = (k : ℕ) × (k < length c) × IsProper n (take k c) × (unsigned_abs (get_or c k (pos 0)) ≤ n)
    × (Contains (take k c) (get_or c k (pos 0)) ⊎ Contains (take k c) (neg_ℤ (get_or c k (pos 0))))
IsImproper n c (OutOfMemory refused) = Unit {0}
IsImproper n c _ = ⊥

-- why a hint before the last stops at the set s
abbrev pub Stops : Finder → List ℤ → ℕ → Fault → Type 0
Stops m s id UnknownId = m id ≡ None
Stops m s id EarlyConflict = Conflicts m s id
Stops m s id SeveralLeft = (d : List ℤ) × (m id ≡ Some d) × LeavesSeveral s d
Stops m s id TrueAlready = (d : List ℤ) × (l : ℤ) × (m id ≡ Some d) × LeavesOnly s d l × Contains s l
Stops m s id (OutOfMemory refused) = Unit {0}
Stops m s id _ = ⊥

-- why the last hint stops at the set s
abbrev pub StopsLast : Finder → List ℤ → ℕ → Fault → Type 0
StopsLast m s id UnknownId = m id ≡ None
StopsLast m s id NotFalse = (d : List ℤ) × (l : ℤ) × (m id ≡ Some d) × Contains d l × (IsDenied s l → ⊥)
StopsLast m s id (OutOfMemory refused) = Unit {0}
StopsLast m s id _ = ⊥

-- the hints lead from s up to the one that stops
abbrev pub StopsWithin : Finder → List ℤ → List ℕ → Fault → Type 0
StopsWithin m s ids e = (done : List ℕ) × (id : ℕ) × (later : List ℕ) × (t : List ℤ) × (ids ≡ done ++ id ∷ later) × Leads m s done t × Stops m t id e

-- what a look has found after the literals c
abbrev pub SoFar : List ℤ → List ℤ → Option ℤ → Type 0
SoFar s c None = All (IsDenied s) c
SoFar s c (Some l) = LeavesOnly s c l
