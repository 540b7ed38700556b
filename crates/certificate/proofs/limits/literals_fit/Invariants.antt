use Rattle.std.proofs.Common.{◌<◌, All, take}
use Rattle.certificate.proofs.limits.literals_fit.Given as goal

abbrev pub invariant-loop-literal : goal.invariant-loop-literal
invariant-loop-literal l = All (λ a. a.0 < 4294967296) (take l.literal-index l.literals)
