-- The functions whose clauses a solver has: those alone that are asked for, and what they depend on.
use Rattle.std.specs.Prelude.{◌≡◌, ℕ, ◌<◌, ◌≤◌, Bool, true, not, List, [], ◌∷◌, ◌++◌, map, length, All, ℤ, neg_ℤ, unsigned_abs}
use Rattle.graph.specs.declared.parts.Parts.{Parts}
use Rattle.lrat.specs.Literals.{IsLiteral}
use Rattle.lrat.specs.Shared.{unit_clauses}
use Rattle.cnf.specs.Meaning.{AreSatisfied}
use Rattle.cones.specs.Marks.{IsMarked}
use Rattle.truth_tables.specs.declared.cube.Side.{Side}
use Rattle.truth_tables.specs.declared.cube.Side.TheVariants.{Free, True, False}
use Rattle.truth_tables.specs.declared.cube.Cube.{Cube}
use Rattle.truth_tables.specs.Tables.{value}
use Rattle.truth_tables.specs.Cubes.{in_some, IsCover}
use Rattle.unrolling.specs.declared.function.Function.{Function}
use Rattle.unrolling.specs.declared.encoder.Encoder.{Encoder}
use Rattle.unrolling.specs.Encodings.{IsDefined, IsGate}
use Rattle.unrolling.specs.Unrollings.{literal_of}

-- what is true where the leaf is not as the cube wants it
abbrev pub side_clause : Side → ℤ → List ℤ
side_clause Free l = []
side_clause True l = neg_ℤ l ∷ []
side_clause False l = l ∷ []

-- the literal is true where the leaves are in the cube
abbrev pub cube_clause : ℤ → ℤ × ℤ × ℤ × ℤ → Cube → List ℤ
cube_clause x q k = x ∷ (side_clause k.first q.0 ++ (side_clause k.second q.1 ++ (side_clause k.third q.2 ++ side_clause k.fourth q.3)))

-- the clauses of a cover of the function, and of a cover of its complement, are added
pub record IsSaid (x : ℤ) (f : Function) (cs ds : List (List ℤ)) : Type 0 where
  pub on : List Cube
  pub off : List Cube
  pub cover : IsCover f.table on
  pub complement : (a b c d : Bool) → not (value f.table a b c d) ≡ in_some off a b c d
  pub clauses : ds ≡ (cs ++ map (cube_clause x f.leaves) on) ++ map (cube_clause (neg_ℤ x) f.leaves) off

-- the clauses make a function what it is, where they do so for the marked variables before it
abbrev pub IsDecided : List Function → List (List ℤ) → List Bool → ℕ → Type 0
IsDecided fs cs marks x = IsGate fs x → (w u : ℕ → Bool) → AreSatisfied w cs → IsDefined fs u → ((y : ℕ) → y < x → IsMarked marks y → u y ≡ w y) → u x ≡ w x

-- the clauses are over marked variables
abbrev pub AreOver : ℕ → List Bool → List (List ℤ) → Type 0
AreOver n marks cs = All (All (λ l. IsLiteral n l × IsMarked marks (unsigned_abs l))) cs

abbrev pub AreUpTo : ℕ → List Bool → Type 0
AreUpTo n marks = (x : ℕ) → IsMarked marks x → x ≤ n

-- the solver has the clauses of each marked variable
pub record AreGiven (e : Encoder) (marks : List Bool) (cs : List (List ℤ)) : Type 0 where
  pub places : e.variables < length marks
  pub range : AreUpTo e.variables marks
  pub clauses : AreOver e.variables marks cs
  pub decided : (x : ℕ) → IsMarked marks x → IsDecided e.functions.items cs marks x
  pub truth : (w : ℕ → Bool) → AreSatisfied w cs → w 1 ≡ true

-- the later clauses say no more than the earlier ones and the functions
pub record IsMore (fs : List Function) (cs ds : List (List ℤ)) : Type 0 where
  pub weaker : (v : ℕ → Bool) → AreSatisfied v ds → AreSatisfied v cs
  pub stronger : (v : ℕ → Bool) → IsDefined fs v → AreSatisfied v cs → AreSatisfied v ds

-- the clauses of this variable are given, and what it depends on is marked
pub record IsGivenOne (e : Encoder) (t u : List Bool) (cs ds : List (List ℤ)) (x : ℕ) : Type 0 where
  pub range : AreUpTo e.variables t → AreUpTo e.variables u
  pub over : AreOver e.variables t cs → AreOver e.variables u ds
  pub more : IsMore e.functions.items cs ds
  pub decided : IsDecided e.functions.items ds u x

-- the clauses of one time are added: some that say no more than the functions, and the constraints
pub record AreAdded (m : Parts) (e : Encoder) (table : List ℤ) (cs es : List (List ℤ)) : Type 0 where
  pub clauses : List (List ℤ)
  pub range : All (All (IsLiteral e.variables)) clauses
  pub more : IsMore e.functions.items cs clauses
  pub units : es ≡ clauses ++ unit_clauses (map (literal_of table) m.constraints)
