use Rattle.cone_of_influence.proofs.Laws.{laws}
use Rattle.cone_of_influence.proofs.reducing.laws.Goals as goal

pub returns : goal.returns
returns c =
    laws c.args.circuit.now c.args.part.now.circuit c.args.part.now.tables c.order.result.now c.order-2.result.now
    (record { well_formed = c.well_formed-2.ensures; ordered = c.order.ensures }) (record { well_formed = c.well_formed-3.ensures; ordered = c.order-2.ensures }) c.requires.for_bad c.requires.reduced
