use Rattle.latch_map.proofs.Runs.{map_holds}
use Rattle.latch_map.proofs.mapping.latch_map.Goals as goal

pub returns-clause-lines : goal.returns-clause-lines
returns-clause-lines c =
    map_holds c.args.circuit.now c.args.certificate.now c.as_slice.result.now c.in_ok-found.found c.in_ok-table.table.items c.as_slice-2.result.now
    c.well_formed-2.ensures c.as_slice.ensures c.as_slice-2.ensures.value c.in_ok-table.ensures c.in_ok-found.ensures.lines
