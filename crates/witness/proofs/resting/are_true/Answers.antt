use Rattle.std.proofs.Common.{arith}
use Rattle.cones.proofs.Grown.{known_small}
use Rattle.witness.proofs.resting.are_true.Goals as goal

pub literal_value-requires : goal.literal_value-requires
literal_value-requires c =
    let small = known_small c.args.circuit.now c.args.lits.now c.well_formed-2.ensures c.requires.known c.loop-lit.lit-index (record { 0 = 0 }) (omega (arith, c.loop-lit-test.true)) in
    omega (arith, small, c.requires.places)
