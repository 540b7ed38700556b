use Rattle.std.proofs.Common.{All, take}
use Rattle.certificate3.specs.Texts.{IsWord}
use Rattle.certificate3.proofs.limits.literals_fit.Given as goal

abbrev pub invariant-loop-literal : goal.invariant-loop-literal
invariant-loop-literal l = All IsWord (take l.literal-index l.literals)
