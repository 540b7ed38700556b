use Rattle.std.proofs.Common.{◌≡◌, take}
use Rattle.std.specs.List.{flat_map}
use Rattle.cdcl_log.specs.Closings.{hints_of}
use Rattle.cdcl_log.proofs.lemmas.all_hints.Given as goal

abbrev pub invariant-loop-closing : goal.invariant-loop-closing
invariant-loop-closing l = l.hints.items ≡ flat_map hints_of (take l.closing-index l.closings)
