-- One mark for each variable tells which literals are held.
use Rattle.std.specs.Prelude.{◌≡◌, ℕ, ◌^◌, ◌<◌, ◌≤◌, ◌+◌, List, length, get_or, Contains, All, AllPairs, ◌≢◌, ℤ, pos, negsuc, neg_ℤ, unsigned_abs}
use Rattle.lrat.specs.Literals.{IsLiteral}
use Rattle.lrat.specs.declared.mark.Mark.{Mark}
use Rattle.lrat.specs.declared.mark.Mark.TheVariants.{Neither, Positive, Negative}

-- the mark of the literal's variable where it is held
abbrev pub mark_of : ℤ → Mark
mark_of (pos n) = Positive
mark_of (negsuc n) = Negative

-- what the mark says of the variable's literals
abbrev pub Says : List ℤ → ℕ → Mark → Type 0
Says t v Neither = (Contains t (pos v) → ⊥) × (Contains t (neg_ℤ (pos v)) → ⊥)
Says t v Positive = Contains t (pos v) × (Contains t (neg_ℤ (pos v)) → ⊥)
Says t v Negative = (Contains t (pos v) → ⊥) × Contains t (neg_ℤ (pos v))

-- no variable twice
abbrev pub AreApart : List ℤ → Type 0
AreApart t = AllPairs (λ a b. (a ≢ b) × (a ≢ neg_ℤ b)) t

-- each literal's variable has a mark, which says what is held of it
pub record AreMarked (n : ℕ) (marks : List Mark) (t : List ℤ) : Type 0 where
  pub small : n < 2 ^ 31
  pub marked : (l : ℤ) → IsLiteral n l → unsigned_abs l < length marks
  pub sized : length marks ≤ n + 1
  pub are_literals : All (IsLiteral n) t
  pub apart : AreApart t
  pub say : (v : ℕ) → Says t v (get_or marks v Neither)

-- the literals' variables have no mark any more, and the others have theirs
pub record IsUnmarked (old new : List Mark) (t : List ℤ) : Type 0 where
  pub places : length new ≡ length old
  pub gone : All (λ l. get_or new (unsigned_abs l) Neither ≡ Neither) t
  pub kept : (v : ℕ) → All (λ l. unsigned_abs l ≢ v) t → get_or new v Neither ≡ get_or old v Neither
