use Rattle.std.proofs.Common.{◌||◌}
use Rattle.graph.specs.Circuits.{value_of}
use Rattle.witness_circuits.specs.Witnesses.{is_true}
use Rattle.witness_additions.specs.Spread.{AreSame}
use Rattle.witness_additions.proofs.spreading.clause_of.Given as goal

abbrev pub invariant-parts : goal.invariant-parts
invariant-parts l = AreSame l.gates (λ w. is_true w l.clause.items || is_true w l.pending.items) (λ w. value_of w l.fn.lit)
