-- What a solver's answer says of the runs of a number of steps.
use Rattle.std.proofs.Common.{ℕ, List, Bool, ℤ, Option, sym, subst}
use Rattle.base.specs.Budget.{Steps}
use Rattle.graph.specs.declared.parts.Parts.{Parts}
use Rattle.solver.specs.Answers.{IsModel, IsCore, IsLawful}
use Rattle.solver.specs.declared.answer.Answer.{Answer}
use Rattle.solver.specs.declared.answer.Answer.TheVariants.{Model, Core, Spent}
use Rattle.engine.specs.declared.finding.Finding.{Finding}
use Rattle.unrolling.specs.declared.cone.Cone.{Cone}
use Rattle.unrolling.specs.declared.unrolling.Unrolling.{Unrolling}
use Rattle.bmc.specs.Depths.{IsAnswerOf, IsFoundBy, IsOfSteps, IsUnsetAfter}
use Rattle.bmc.specs.Times.{IsBadAnswer, IsBadModel}

pub bad_answer : (m : Parts) (c : Cone) (u : Unrolling) (steps vars : ℕ) (cs : List (List ℤ)) (ls : List ℤ) (after : Steps) (answer : Answer) → ((b : List Bool) → IsModel vars cs ls b → IsBadModel m c u steps b) →
    IsLawful vars cs ls after answer → IsBadAnswer m c u steps answer
bad_answer m c u steps vars cs ls after (Model b) to lawful = to b.items lawful
bad_answer m c u steps vars cs ls after (Core core) to lawful = tt
bad_answer m c u steps vars cs ls after Spent to lawful = tt

pub answer_of : (m : Parts) (steps vars : ℕ) (cs : List (List ℤ)) (ls : List ℤ) (after : Steps) (answer : Answer) → ((core : List ℤ) → IsCore cs ls core → IsUnsetAfter m steps) →
    IsLawful vars cs ls after answer → IsAnswerOf m steps after answer
answer_of m steps vars cs ls after (Model b) to lawful = tt
answer_of m steps vars cs ls after (Core core) to lawful = to core.items lawful
answer_of m steps vars cs ls after Spent to lawful = lawful

-- what is found by an answer is of that number of steps
pub found_of : (m : Parts) (steps : ℕ) (after : Steps) (answer : Answer) (found : Option Finding) → IsAnswerOf m steps after answer → IsFoundBy m steps answer found → IsOfSteps m steps after found
found_of m steps after (Model b) found says by = subst (IsOfSteps m steps after) (sym by.1) (by.2 after)
found_of m steps after (Core core) found says by = subst (IsOfSteps m steps after) (sym by) says
found_of m steps after Spent found says by = subst (IsOfSteps m steps after) (sym by) says
