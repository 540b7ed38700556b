-- How what defines a variable is read.
use Rattle.std.specs.Prelude.{ℕ, ◌+◌, ◌-◌, ◌*◌, ◌||◌, zero, suc, List, [], ◌∷◌, Some, None, nat_lt, ◌==◌, if◌then◌else◌}
use Rattle.scan.specs.Reading.{◌>>=◌, Read}
use Rattle.graph.specs.declared.circuit.Lit.{Lit}
use Rattle.graph.specs.declared.circuit.Latch.{Latch}
use Rattle.graph.specs.declared.circuit.Gate.{Gate}
use Rattle.aag.specs.Lines.{lit, next_at, latch_end_at}

-- a number in at most k groups of seven bits, the lowest first; the high bit says that another follows, and behind others
-- no number is 0
unfoldable pub groups_at : ℕ → List ℕ → Read ℕ
groups_at zero bytes = None
groups_at (suc k) [] = None
groups_at (suc k) (c ∷ cs) =
    if nat_lt c 128 then Some (c, cs)
    else (if nat_lt c 256 then (groups_at k cs >>= λ r. if r.0 == 0 then None else Some (c - 128 + 128 * r.0, r.1)) else None)

-- such a number from least to most
unfoldable pub delta_at : ℕ → ℕ → List ℕ → Read ℕ
delta_at least most bytes = do
  r ← groups_at 4 bytes
  if nat_lt r.0 least || nat_lt most r.0 then None else Some r

-- an input, of which nothing is written
abbrev pub input_at : Lit → List ℕ → Read Lit
input_at own bytes = Some (own, bytes)

-- a latch without its literal
unfoldable pub latch_at : ℕ → Lit → List ℕ → Read Latch
latch_at max own bytes = do
  next ← next_at max bytes
  latch_end_at own next.0.0 next.0.1 next.1

-- a gate by the differences of its literals; one that is greater than the literal that it is taken from is refused before
-- (delta_at), so no subtraction stops at 0
unfoldable pub gate_at : Lit → List ℕ → Read Gate
gate_at own bytes = do
  first ← delta_at 1 own.0 bytes
  second ← delta_at 0 (own.0 - first.0) first.1
  Some (record { lhs = own; rhs0 = lit (own.0 - first.0); rhs1 = lit (own.0 - first.0 - second.0) }, second.1)

-- as many as the count says, that define the variables from first on
unfoldable pub numbered_at : {A : Type 0} → (Lit → List ℕ → Read A) → ℕ → ℕ → List ℕ → Read (List A)
numbered_at one first zero bytes = Some ([], bytes)
numbered_at one first (suc n) bytes = do
  x ← one (lit (2 * first)) bytes
  others ← numbered_at one (suc first) n x.1
  Some (x.0 ∷ others.0, others.1)
