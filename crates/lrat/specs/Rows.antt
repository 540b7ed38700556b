-- Clauses as lists, and gates among them.
use Rattle.std.specs.Prelude.{ℕ, ℤ, pos, ◌+◌, ◌≤◌, ◌+ℤ◌, ◌-ℤ◌, int_lt, if◌then◌else◌, List, [], ◌∷◌, ◌++◌, take, drop, length, map, flat_map, neg_ℤ, unsigned_abs, All}
use Rattle.lrat.specs.declared.gate_literals.GateLiterals.{GateLiterals}
use Rattle.lrat.specs.declared.run.Run.{Run}

-- the output is true exactly where both sides are
abbrev pub and_clauses : GateLiterals → List (List ℤ)
and_clauses g =
    (neg_ℤ g.output ∷ g.left ∷ []) ∷ (neg_ℤ g.output ∷ g.right ∷ []) ∷ (g.output ∷ neg_ℤ g.left ∷ neg_ℤ g.right ∷ []) ∷ []

-- the negation of each literal fits 32 bits
pub record HasNegations (g : GateLiterals) : Type 0 where
  pub output : unsigned_abs g.output ≤ 2147483647
  pub left : unsigned_abs g.left ≤ 2147483647
  pub right : unsigned_abs g.right ≤ 2147483647

-- the literal whose variable is greater by s
abbrev pub moved_literal : ℕ → ℤ → ℤ
moved_literal s z = if int_lt z (pos 0) then z -ℤ pos s else z +ℤ pos s

-- the same gate over variables that are greater by s
abbrev pub moved_gate : ℕ → GateLiterals → GateLiterals
moved_gate s g = record { output = moved_literal s g.output; left = moved_literal s g.left; right = moved_literal s g.right }

-- the literals and their negations fit 32 bits where their variables are greater by s
pub record FitsMoved (s : ℕ) (g : GateLiterals) : Type 0 where
  pub output : unsigned_abs g.output + s ≤ 2147483647
  pub left : unsigned_abs g.left + s ≤ 2147483647
  pub right : unsigned_abs g.right + s ≤ 2147483647

-- the clauses of a run's gates
abbrev pub run_clauses : Run → List (List ℤ)
run_clauses r = flat_map and_clauses (map (moved_gate r.shift) r.gates.now)

-- a list with another one in it, behind so many items
abbrev pub with_inside : {A : Type 0} → ℕ → List A → List A → List A
with_inside n ys xs = take n xs ++ ys ++ drop n xs

-- the lists, with the clauses of each run where it stands
abbrev pub rows : List (List ℤ) → List Run → List (List ℤ)
rows ls [] = ls
rows ls (r ∷ rs) = with_inside r.lists (run_clauses r) (rows ls rs)

-- how many gates there are
abbrev pub gate_count : List Run → ℕ
gate_count [] = 0
gate_count (r ∷ rs) = length r.gates.now + gate_count rs

-- a run behind some of n lists, of gates that fit where they are moved
pub record IsRunIn (n : ℕ) (r : Run) : Type 0 where
  pub within : r.lists ≤ n
  pub fits : All (FitsMoved r.shift) r.gates.now

-- lists, and runs among them
abbrev pub AreRowed : List (List ℤ) → List Run → Type 0
AreRowed ls rs = All (IsRunIn (length ls)) rs
