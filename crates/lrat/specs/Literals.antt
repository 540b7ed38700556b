-- Literals, clauses, and the assignments that make them true.
use Rattle.std.specs.Prelude.{◌≡◌, ℕ, zero, suc, ◌≤◌, ◌≢◌, Bool, true, false, not, List, Contains, All, AllPairs, ℤ, pos, negsuc, neg_ℤ, Some, Option, unsigned_abs}

-- which clause has an id
abbrev pub Finder : Type 0
Finder = ℕ → Option (List ℤ)

-- whether a literal is true where v gives the variables' values: 0 is no literal
abbrev pub is_true : (ℕ → Bool) → ℤ → Bool
is_true v (pos zero) = false
is_true v (pos (suc n)) = v (suc n)
is_true v (negsuc n) = not (v (suc n))

-- one of the clause's literals is true
abbrev pub IsSatisfied : (ℕ → Bool) → List ℤ → Type 0
IsSatisfied v c = (l : ℤ) × Contains c l × (is_true v l ≡ true)

-- each clause has a literal that is true
abbrev pub Satisfies : (ℕ → Bool) → Finder → Type 0
Satisfies v m = (id : ℕ) (c : List ℤ) → m id ≡ Some c → IsSatisfied v c

-- the clause is true wherever all of the list are
abbrev pub Follows : List (List ℤ) → List ℤ → Type 0
Follows cs c = (v : ℕ → Bool) → All (IsSatisfied v) cs → IsSatisfied v c

-- a literal of one of the variables 1 to n
abbrev pub IsLiteral : ℕ → ℤ → Type 0
IsLiteral n l = (l ≢ pos 0) × (unsigned_abs l ≤ n)

-- in range, and no literal is repeated or opposed
abbrev pub IsProper : ℕ → List ℤ → Type 0
IsProper n c = All (λ l. unsigned_abs l ≤ n) c × AllPairs (λ a b. (a ≢ b) × (a ≢ neg_ℤ b)) c
