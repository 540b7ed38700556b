-- The bad literal at the last time of a circuit in a solver.
use Rattle.std.specs.Prelude.{◌≡◌, ℕ, ◌+◌, ◌<◌, ◌≤◌, Bool, List, [], ◌∷◌, length, ℤ, unsigned_abs}
use Rattle.graph.specs.declared.parts.Parts.{Parts}
use Rattle.lrat.specs.Literals.{is_true}
use Rattle.unrolling.specs.declared.cone.Cone.{Cone}
use Rattle.unrolling.specs.declared.unrolling.Unrolling.{Unrolling}
use Rattle.graph.specs.Circuits.{Valuation, value_of, at}
use Rattle.cnf.specs.Formulas.{bad_literal}
use Rattle.cones.specs.Marks.{IsMarked}
use Rattle.solver.specs.Answers.{IsModel}
use Rattle.solver.specs.declared.answer.Answer.{Answer}
use Rattle.solver.specs.declared.answer.Answer.TheVariants.{Model, Core, Spent}
use Rattle.unrolling.specs.Encodings.{Told, told, AreKept}
use Rattle.unrolling.specs.Demands.{AreGiven}
use Rattle.unrolling.specs.Unrollings.{Leaves, Follows, IsUnrolled}
use Rattle.unrolling.specs.Times.{leaves_of}

-- the literal has the bad literal's value at that time of each run that an assignment follows which satisfies the clauses
abbrev pub StandsForBad : Parts → Cone → Leaves → Told → ℕ → ℤ → Type 0
StandsForBad m c s d steps l = (r : List Valuation) (v : ℕ → Bool) → Follows m c s r v → AreKept v d → steps < length r → is_true v l ≡ value_of (at r steps) (bad_literal m 0)

-- a model of the clauses by which the bad literal is true at the last time
pub record IsBadModel (m : Parts) (c : Cone) (u : Unrolling) (steps : ℕ) (b : List Bool) : Type 0 where
  pub clauses : List (List ℤ)
  pub vars : ℕ
  pub literal : ℤ
  pub unrolled : IsUnrolled m c (leaves_of u) u.state.items u.encoder clauses
  pub times : length u.firsts.items ≡ steps + 1
  pub few : u.encoder.variables ≤ vars
  pub given : AreGiven u.encoder u.given.items clauses
  pub marked : IsMarked u.given.items (unsigned_abs literal)
  pub stands : StandsForBad m c (leaves_of u) (told u.encoder clauses) steps literal
  pub model : IsModel vars clauses (literal ∷ []) b

-- the answer's model, where it is one, is such a model
abbrev pub IsBadAnswer : Parts → Cone → Unrolling → ℕ → Answer → Type 0
IsBadAnswer m c u steps (Model b) = IsBadModel m c u steps b.items
IsBadAnswer m c u steps (Core core) = Unit {0}
IsBadAnswer m c u steps Spent = Unit {0}
