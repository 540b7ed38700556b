-- The clauses of a formula, and behind them those of lines.
use Rattle.std.specs.Prelude.{◌≡◌, ℕ, ◌+◌, ◌<◌, ◌≤◌, true, List, [], ◌∷◌, ◌++◌, ℤ, length, All, refl}
use Rattle.std.specs.Coded.{Coded, code_by, coded×, coded_ℕ}
use Rattle.lrat.specs.Literals.{IsLiteral}
use Rattle.lrat.specs.Slots.{Row, Slot, row_code}

-- these clauses, all live, under the ids from k on
abbrev pub slots_from : ℕ → List (List ℤ) → List Slot
slots_from k [] = []
slots_from k (c ∷ cs) = record { id = k; live = true; clause = c } ∷ slots_from (k + 1) cs

-- the slots in a row, of which so many at the front stay as they are
pub record Shelf : Type 0 where
  pub row : Row
  pub given : ℕ

abbrev pub shelf_code : Coded Shelf
shelf_code = code_by (Row × ℕ) (coded× row_code coded_ℕ) (λ s. (s.row, s.given)) (λ p. record { row = p.0; given = p.1 }) (λ _. refl)

-- how the fields of `Shelf` are seen
abbrev pub shelf_of : List (List ℤ) → ℕ → Row → Shelf
shelf_of cs given r = record { row = record { vars = r.vars; slots = slots_from 1 cs ++ r.slots }; given = given }

-- so many clauses of literals of the variables 1 to n, whose ids fit 32 bits
pub record AreShelved (n : ℕ) (cs : List (List ℤ)) (given : ℕ) : Type 0 where
  pub number : given ≡ length cs
  pub few : length cs < 4294967296
  pub in_range : All (λ c. All (IsLiteral n) c) cs

-- what stays as it is is shared, and none of it is hidden
pub record AreLoose (given mark : ℕ) (hidden : List ℕ) : Type 0 where
  pub shared : given ≤ mark
  pub loose : All (λ i. given ≤ i) hidden
