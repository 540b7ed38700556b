use Rattle.std.proofs.Common.{◌≡◌, true, arith}
use Rattle.graph.specs.Circuits.{value_of}
use Rattle.witness.proofs.NextLaws.{three_known, three_true}
use Rattle.witness.proofs.resting.wanted.Goals as goal

pub returns-clause-known : goal.returns-clause-known
returns-clause-known c = three_known c.args.circuit.now c.args.goal.now c.in_ok-nexts.nexts.items _ c.parts.ensures.well_formed
    (grind (arith, c.in_ok-extend-2.ensures.items, c.in_ok-extend.ensures.items, c.in_ok-wanted.ensures, c.as_slice.ensures, c.parts.ensures.parts, c.deref.ensures.value))
    c.requires.goal c.in_ok-nexts.ensures.known

pub returns-clause-means : goal.returns-clause-means
returns-clause-means c = λ w all.
    let parts = three_true (λ a. value_of w a ≡ true) c.args.circuit.now.constraints c.args.goal.now c.in_ok-nexts.nexts.items _
    (grind (arith, c.in_ok-extend-2.ensures.items, c.in_ok-extend.ensures.items, c.in_ok-wanted.ensures, c.as_slice.ensures, c.parts.ensures.parts, c.deref.ensures.value)) all in
    (parts.0, c.in_ok-nexts.ensures.means w parts.1)
