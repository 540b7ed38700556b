-- What a solver has of one time of a circuit.
--
-- The circuit's variables come first, then the one that is true, then one for each guard.
use Rattle.std.specs.Prelude.{◌≡◌, ℕ, ◌+◌, ◌<◌, if◌then◌else◌, Option, Some, List, ◌∷◌, ◌++◌, length, map, slice_index_or, All, Contains, ℤ, pos, neg_ℤ}
use Rattle.graph.specs.declared.circuit.Lit.{Lit}
use Rattle.graph.specs.declared.parts.Parts.{Parts}
use Rattle.cnf.specs.Clauses.{literal, denial, time_clauses}
use Rattle.cones.specs.Marks.{IsMarked, IsCone}
use Rattle.cones.specs.Reach.{IsGateTable}
use Rattle.cones.specs.Partial.{HasGates, HasConstraints}
use Rattle.ic3_step.specs.declared.cone.Cone.{Cone}
use Rattle.states.specs.declared.state_lit.StateLit.{StateLit}
use Rattle.ic3_step.specs.Queries.{IsUnasked, ArePartGates}
use Rattle.ic3_step.specs.States.{Guarded}

-- a solver's greatest variable, its clauses, and the cone that it was asked about
pub record Contents : Type 0 where
  pub vars : ℕ
  pub clauses : List (List ℤ)
  pub cone : Option Cone

-- the literal of a guard, by which its clauses hold
abbrev pub guard_literal : Parts → ℕ → ℤ
guard_literal m g = pos (m.max_var + 2 + g)

-- the circuit's literal of a latch, by its position
abbrev pub latch_literal : Parts → ℕ → Lit
latch_literal m i = slice_index_or (map (λ l. l.lit) m.latches) i (record { 0 = 0 })

-- the literal of clauses that is true where the latch has the value
abbrev pub state_literal : Parts → StateLit → ℤ
state_literal m a = if a.value then literal m.max_var 0 (latch_literal m a.latch) else denial m.max_var 0 (latch_literal m a.latch)

-- the clause, or not its guard
abbrev pub guarded_clause : Parts → Guarded → List ℤ
guarded_clause m g = neg_ℤ (guard_literal m g.guard) ∷ map (state_literal m) g.clause

-- the tables of the circuit's gates, marks of a cone, and among the clauses those of the cone's gates
pub record IsGrown (m : Parts) (c : Cone) (cs : List (List ℤ)) : Type 0 where
  pub table : IsGateTable m c.table
  pub places : length c.marks.items ≡ m.max_var + 1
  pub closed : IsCone m (IsMarked c.marks.items)
  pub gates : HasGates m (IsMarked c.marks.items) cs
  pub unasked : IsUnasked m c.asked.items
  pub part_gates : ArePartGates m c.part_gates

-- each of the clauses after is one before, or one of these
pub record IsMoreOf (all before after : List (List ℤ)) : Type 0 where
  pub added : List (List ℤ)
  pub is : after ≡ before ++ added
  pub among : All (Contains all) added

-- the solver has a cone of the circuit at one time, with the constraints; room for this number of guards; these clauses under
-- guards; and nothing else
pub record IsLoaded (m : Parts) (room : ℕ) (gs : List Guarded) (t : Contents) : Type 0 where
  pub vars : t.vars ≡ m.max_var + 1 + room
  pub cone : Cone
  pub is : t.cone ≡ Some cone
  pub grown : IsGrown m cone t.clauses
  pub constraints : HasConstraints m (IsMarked cone.marks.items) t.clauses
  pub guarded : All (λ g. Contains t.clauses (guarded_clause m g)) gs
  pub only : All (Contains (time_clauses m 0 ++ map (guarded_clause m) gs)) t.clauses

-- it has the circuit, and these guards are among those that there is room for
pub record HasGuards (m : Parts) (guards : List ℕ) (t : Contents) : Type 0 where
  pub room : ℕ
  pub added : List Guarded
  pub loaded : IsLoaded m room added t
  pub below : All (λ g. g < room) guards
