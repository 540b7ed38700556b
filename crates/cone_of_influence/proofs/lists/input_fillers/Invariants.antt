use Rattle.std.proofs.Common.{◌≡◌, map, take}
use Rattle.cone_of_influence.specs.Reduced.{input_filler as word}
use Rattle.cone_of_influence.proofs.lists.input_fillers.Given as goal

abbrev pub invariant-loop-lit : goal.invariant-loop-lit
invariant-loop-lit l = l.fillers ≡ map (word l.marks) (take l.lit-index l.inputs)
