-- When a line of a proof is accepted.
use Rattle.std.specs.Prelude.{◌≡◌, ℕ, ◌≢◌, List, [], ◌∷◌, ◌++◌, map, Contains, All, ℤ, neg_ℤ, Some}
use Rattle.lrat.specs.Literals.{Finder, IsProper}

-- the literal is false where those of s are true
abbrev pub IsDenied : List ℤ → ℤ → Type 0
IsDenied s l = Contains s (neg_ℤ l)

-- l is the one literal of the clause that s does not deny
pub record LeavesOnly (s c : List ℤ) (l : ℤ) : Type 0 where
  pub stands : Contains c l
  pub open_in : IsDenied s l → ⊥
  pub others : (k : ℤ) → Contains c k → k ≢ l → IsDenied s k

-- two distinct literals of the clause are not denied
pub record LeavesSeveral (s c : List ℤ) : Type 0 where
  pub one : ℤ
  pub other : ℤ
  pub stands : Contains c one × Contains c other
  pub distinct : one ≢ other
  pub open_in : (IsDenied s one → ⊥) × (IsDenied s other → ⊥)

-- the clause named by the hint leaves only l, which s does not hold yet
pub record SetsOne (m : Finder) (s : List ℤ) (id : ℕ) (l : ℤ) : Type 0 where
  pub clause : List ℤ
  pub found : m id ≡ Some clause
  pub leaves : LeavesOnly s clause l
  pub new_in : Contains s l → ⊥

-- the hints, in order, lead from the set s to the set t
abbrev pub Leads : Finder → List ℤ → List ℕ → List ℤ → Type 0
Leads m s [] t = t ≡ s
Leads m s (id ∷ ids) t = (l : ℤ) × SetsOne m s id l × Leads m (s ++ l ∷ []) ids t

-- each literal of the clause named by the hint is denied
pub record Conflicts (m : Finder) (s : List ℤ) (id : ℕ) : Type 0 where
  pub clause : List ℤ
  pub found : m id ≡ Some clause
  pub denied : All (IsDenied s) clause

-- the hints show the clause: from its denials they lead to a set that denies the last one
pub record AreHintsFor (m : Finder) (c : List ℤ) (hints : List ℕ) : Type 0 where
  pub first : List ℕ
  pub last : ℕ
  pub are : hints ≡ first ++ last ∷ []
  pub reached : List ℤ
  pub leads : Leads m (map neg_ℤ c) first reached
  pub conflict : Conflicts m reached last

-- the line is accepted over these clauses
pub record IsAcceptedLine (n : ℕ) (m : Finder) (c : List ℤ) (hints : List ℕ) : Type 0 where
  pub proper : IsProper n c
  pub shown : AreHintsFor m c hints
