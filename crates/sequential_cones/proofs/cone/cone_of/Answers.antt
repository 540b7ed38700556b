use Rattle.std.proofs.Common.{◌+◌, arith}
use Rattle.sequential_cones.proofs.Over.{all_cone, if_ok_then}
use Rattle.sequential_cones.proofs.cone.cone_of.Goals as goal

pub returns : goal.returns
returns c = if_ok_then _ _ c.filled.result (λ v is. all_cone c.args.circuit.now c.args.watched (c.args.circuit.now.max_var + 1) v.items c.well_formed-2.ensures c.requires (omega arith) (rw c.max_var.ensures at is)) c.filled.ensures
