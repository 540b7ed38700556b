-- What the answer to a query says.
use Rattle.std.specs.Prelude.{◌≡◌, ℕ, ◌⊎◌, List, All, Contains}
use Rattle.base.specs.Budget.{Steps}
use Rattle.graph.specs.declared.circuit.Lit.{Lit}
use Rattle.graph.specs.declared.parts.Parts.{Parts}
use Rattle.graph.specs.Circuits.{Valuation, variable, defined, state_of}
use Rattle.ic3_step.specs.declared.reply.Reply.{Reply}
use Rattle.ic3_step.specs.declared.reply.Reply.TheVariants.{Found, Core, Spent}
use Rattle.states.specs.States.{IsTime}
use Rattle.ic3_step.specs.States.{Guarded, HoldsGuarded, IsAt, AllSet}

-- the literal is a constant, or of a variable that the circuit defines
abbrev pub IsUsable : Parts → Lit → Type 0
IsUsable m a = (variable a ≡ 0) ⊎ Contains (defined m) (variable a)

-- what is answered: a time at which the literals are true, in any state; some of the literals that are true at none in whose
-- state the clauses of these guards hold; or that the budget is exhausted
abbrev pub IsReply : Parts → List Guarded → List ℕ → List Lit → Steps → Reply → Type 0
IsReply m gs guards lits after (Found t) = (w : Valuation) × IsAt m lits w t × AllSet w lits
IsReply m gs guards lits after (Core core) =
    All (Contains lits) core × ((w : Valuation) → IsTime m w → HoldsGuarded gs guards (state_of m w) → AllSet w core → ⊥)
IsReply m gs guards lits after Spent = after.left ≡ 0
