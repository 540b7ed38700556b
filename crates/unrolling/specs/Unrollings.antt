-- Literals of clauses that stand for a circuit's variables at a time of a run (bounded model checking, Biere, Cimatti, Clarke, Zhu 1999).
use Rattle.std.specs.Prelude.{◌≡◌, ℕ, ◌+◌, ◌<◌, ◌≤◌, ◌%◌, ◌==◌, if◌then◌else◌, Bool, List, [], ◌∷◌, ◌++◌, length, slice_index_or, All, ℤ, pos, negsuc, neg_ℤ}
use Rattle.graph.specs.declared.circuit.Lit.{Lit}
use Rattle.graph.specs.declared.circuit.Latch.{Latch}
use Rattle.graph.specs.declared.parts.Parts.{Parts}
use Rattle.graph.specs.Circuits.{Valuation, variable, place, IsRun, KeepsConstraints, at}
use Rattle.lrat.specs.Literals.{is_true, IsLiteral}
use Rattle.cnf.specs.Meaning.{KeepsNow}
use Rattle.cuts.specs.declared.cut.Cut.{Cut}
use Rattle.unrolling.specs.declared.function.Function.{Function}
use Rattle.unrolling.specs.declared.cone.Cone.{Cone}
use Rattle.unrolling.specs.declared.encoder.Encoder.{Encoder}
use Rattle.unrolling.specs.Cones.{IsFilled, input_at, latch_at}
use Rattle.unrolling.specs.Encodings.{IsEncoding, IsGate, Told, told, AreKept}

-- the literal at a place of a table
abbrev pub literal_at : List ℤ → ℕ → ℤ
literal_at table k = slice_index_or table k (negsuc 0)

-- the literal of clauses for a literal of the circuit, by a table of its variables
abbrev pub literal_of : List ℤ → Lit → ℤ
literal_of table a = if a.0 % 2 == 1 then neg_ℤ (literal_at table (variable a)) else literal_at table (variable a)

-- the function of a table's literals that a cut is of its leaves
abbrev pub by_table : List ℤ → Cut → Function
by_table table c = record { table = c.table; leaves = (literal_at table c.leaves.0, literal_at table c.leaves.1, literal_at table c.leaves.2, literal_at table c.leaves.3) }

-- the variables of the cone's k-th input and latch
abbrev pub input_of : Parts → Cone → ℕ → ℕ
input_of m c k = input_at m.inputs (slice_index_or c.inputs.items k 0)

abbrev pub latch_of : Parts → Cone → ℕ → Lit
latch_of m c k = (latch_at m.latches (slice_index_or c.latches.items k 0)).lit

-- the literals of the first state, by the latches' positions, and for each time how many variables come before those of its inputs
pub record Leaves : Type 0 where
  pub initial : List ℤ
  pub firsts : List ℕ

-- one time more, whose inputs come behind this number of variables
abbrev pub later : Leaves → ℕ → Leaves
later s first = record { initial = s.initial; firsts = s.firsts ++ first ∷ [] }

-- the assignment gives the cone's latches the values of the run's first state, and the cone's inputs those of the run's inputs
pub record Follows (m : Parts) (c : Cone) (s : Leaves) (r : List Valuation) (v : ℕ → Bool) : Type 0 where
  pub runs : IsRun m r
  pub state : (k : ℕ) → k < length c.latches.items → is_true v (literal_at s.initial (slice_index_or c.latches.items k 0)) ≡ place (at r 0) (variable (latch_of m c k))
  pub inputs : (t k : ℕ) → t < length s.firsts → t < length r → k < length c.inputs.items → v (slice_index_or s.firsts t 0 + (k + 1)) ≡ place (at r t) (input_of m c k)

-- where the clauses are satisfied, the literal has the value that the variable has at that time of the run that the assignment follows
abbrev pub Stands : Parts → Cone → Leaves → Told → ℕ → ℕ → ℤ → Type 0
Stands m c s d t x l = (r : List Valuation) (v : ℕ → Bool) → Follows m c s r v → AreKept v d → t < length r → is_true v l ≡ place (at r t) x

-- the variables behind the first ones have the values of the cone's inputs at that time
abbrev pub AreFresh : Parts → Cone → Leaves → ℕ → ℕ → Type 0
AreFresh m c s t first = (r : List Valuation) (v : ℕ → Bool) → Follows m c s r v → t < length r → (k : ℕ) → k < length c.inputs.items → v (first + (k + 1)) ≡ place (at r t) (input_of m c k)

-- literals of the first n variables that stand for the cone's latches at that time
pub record AreStates (m : Parts) (c : Cone) (s : Leaves) (d : Told) (t n : ℕ) (state : List ℤ) : Type 0 where
  pub literals : All (IsLiteral n) state
  pub stands : (k : ℕ) → k < length c.latches.items → Stands m c s d t (variable (latch_of m c k)) (literal_at state k)

-- literals of the first n variables, those of the first i inputs, j latches and g cells of the cone as they stand for these at a time
pub record IsTable (m : Parts) (c : Cone) (s : Leaves) (d : Told) (t n i j g : ℕ) (table : List ℤ) : Type 0 where
  pub whole : length table ≡ m.max_var + 1
  pub literals : All (IsLiteral n) table
  pub stands : (x : ℕ) → IsFilled m c i j g x → Stands m c s d t x (literal_at table x)

-- the constant that the latch is reset to, or what is false
abbrev pub constant_of : Latch → ℤ
constant_of l = if l.reset.0 == 1 then pos 1 else negsuc 0

-- for each latch a literal: a constant where the latch is reset to one, and else a variable of its own, if it is of the cone
pub record AreInitial (m : Parts) (c : Cone) (initial : List ℤ) : Type 0 where
  pub whole : length initial ≡ length m.latches
  pub literals : All (IsLiteral (length c.latches.items + 1)) initial
  pub low : (k : ℕ) → k < length m.latches → (latch_at m.latches k).reset.0 ≡ 0 → literal_at initial k ≡ negsuc 0
  pub high : (k : ℕ) → k < length m.latches → (latch_at m.latches k).reset.0 ≡ 1 → literal_at initial k ≡ pos 1
  pub opened : (k : ℕ) → k < length c.latches.items → 1 < (latch_at m.latches (slice_index_or c.latches.items k 0)).reset.0 →
      literal_at initial (slice_index_or c.latches.items k 0) ≡ pos (k + 2)

-- the clauses of the times so far: they keep the constraints at these, every run that does is followed by an assignment
-- that satisfies them, and the state has the literals of the cone's latches at the next time
pub record IsUnrolled (m : Parts) (c : Cone) (s : Leaves) (state : List ℤ) (e : Encoder) (cs : List (List ℤ)) : Type 0 where
  pub encoding : IsEncoding e
  pub range : All (All (IsLiteral e.variables)) cs
  pub initial : AreInitial m c s.initial
  pub opened : length c.latches.items + 1 ≤ e.variables
  pub inputs : All (λ first. first + length c.inputs.items ≤ e.variables) s.firsts
  pub free : (x : ℕ) → x ≤ length c.latches.items + 1 → IsGate e.functions.items x → ⊥
  pub free_inputs : (t k : ℕ) → t < length s.firsts → k < length c.inputs.items → IsGate e.functions.items (slice_index_or s.firsts t 0 + (k + 1)) → ⊥
  pub whole : length state ≡ length c.latches.items
  pub states : AreStates m c s (told e cs) (length s.firsts) e.variables state
  pub keeps : (r : List Valuation) (v : ℕ → Bool) → Follows m c s r v → AreKept v (told e cs) → (t : ℕ) → t < length s.firsts → t < length r → KeepsNow m (at r t)
  pub exists : (r : List Valuation) → IsRun m r → KeepsConstraints m r → length s.firsts ≤ length r → (v : ℕ → Bool) × Follows m c s r v × AreKept v (told e cs)
