use Rattle.std.proofs.Common.{◌≡◌, map, take}
use Rattle.cdcl_log.specs.Units.{unit_id}
use Rattle.cdcl_log.proofs.closing.unit_ids.Given as goal

abbrev pub invariant-loop-index : goal.invariant-loop-index
invariant-loop-index l = l.ids.items ≡ map (unit_id l.numbering.base) (take l.index-index l.indices)
