use Rattle.std.proofs.Common.{take}
use Rattle.witness_circuits.specs.Witnesses.{are_true}
use Rattle.witness_pairs.specs.Drafts.{all_true}
use Rattle.witness_additions.specs.Spread.{AreSame}
use Rattle.witness_additions.proofs.spreading.Spreading.found.Given as goal

abbrev pub invariant-loop-lit : goal.invariant-loop-lit
invariant-loop-lit l = AreSame l.gates (λ w. are_true w l.clauses) (λ w. all_true w (take l.lit-index l.lits))
