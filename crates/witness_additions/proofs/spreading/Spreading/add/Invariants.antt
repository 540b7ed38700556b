use Rattle.std.proofs.Common.{◌&&◌}
use Rattle.graph.specs.Circuits.{value_of}
use Rattle.witness_circuits.specs.Witnesses.{are_true}
use Rattle.witness_pairs.specs.Drafts.{all_true}
use Rattle.witness_additions.specs.Spread.{AreSame}
use Rattle.witness_additions.proofs.spreading.Spreading.add.Given as goal

abbrev pub invariant-items : goal.invariant-items
invariant-items l = AreSame l.gates (λ w. are_true w l.clauses && all_true w l.pending.items) (λ w. are_true w l.initial.clauses && value_of w l.fn.lit)
