use Rattle.std.proofs.Common.{◌≡◌, true, List, All, subst}
use Rattle.graph.specs.declared.circuit.Lit.{Lit}
use Rattle.graph.specs.Circuits.{value_of}
use Rattle.witness.proofs.resting.left_of_time.Goals as goal

pub returns-clause-enough : goal.returns-clause-enough
returns-clause-enough c = λ st line w has_state has_line at.
    c.in_ok-wanted.ensures.means w (subst (λ (lits : List Lit). All (λ a. value_of w a ≡ true) lits) c.deref-4.ensures.value (c.in_ok-left_of.ensures.enough st line w has_state has_line at))
