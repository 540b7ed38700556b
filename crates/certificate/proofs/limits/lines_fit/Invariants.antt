use Rattle.std.proofs.Common.{All, take}
use Rattle.lrat.specs.Limits.{IsLine}
use Rattle.certificate.proofs.limits.lines_fit.Given as goal

abbrev pub invariant-loop-proof : goal.invariant-loop-proof
invariant-loop-proof l = All (All IsLine) (take l.proof-index l.sections)
