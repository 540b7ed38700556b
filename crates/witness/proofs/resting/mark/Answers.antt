use Rattle.cones.proofs.Grown.{full, full_serves, full_inside, full_all, none_closed, known_small}
use Rattle.std.proofs.Common.{arith}
use Rattle.witness.proofs.resting.mark.Goals as goal

pub extend-requires-clause-wanted : goal.extend-requires-clause-wanted
extend-requires-clause-wanted c = known_small c.args.circuit.now c.args.lits.now c.well_formed-2.ensures c.requires.known

pub extend-requires-clause-domain : goal.extend-requires-clause-domain
extend-requires-clause-domain c =
    let m = c.args.circuit.now in
    let small = known_small m c.args.lits.now c.well_formed-2.ensures c.requires.known in
    (full m, full_serves m c.args.values.now c.well_formed-2.ensures (omega (arith, c.requires.agrees.valuation.places)) c.requires.agrees.gates, full_inside m c.args.marks.now c.requires.places, full_all m c.args.lits.now small)

pub extend-requires-clause-closed : goal.extend-requires-clause-closed
extend-requires-clause-closed c = none_closed c.args.circuit.now c.args.values.now c.args.marks.now c.requires.clear
