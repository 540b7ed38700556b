use Rattle.std.proofs.Common.{◌≡◌, ◌++◌, drop}
use Rattle.aigmc_certificates.specs.WitnessFiles.{own_resets}
use Rattle.aigmc_certificates.proofs.witness_file.own_resets.Given as goal

abbrev pub invariant-loop-position : goal.invariant-loop-position
invariant-loop-position l = l.own.items ++ own_resets (drop l.position l.given) (drop l.position l.resets) ≡ own_resets l.given l.resets
