use Rattle.std.proofs.Common.{take, All}
use Rattle.lrat.specs.Limits.{IsId}
use Rattle.lrat.proofs.proof.are_ids.Given as goal

abbrev pub invariant-loop-id : goal.invariant-loop-id
invariant-loop-id l = All IsId (take l.id-index l.ids)
