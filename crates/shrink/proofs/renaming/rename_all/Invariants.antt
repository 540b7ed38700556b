use Rattle.std.proofs.Common.{◌≡◌, map, take}
use Rattle.shrink.specs.Hashed.{renamed as word}
use Rattle.shrink.proofs.renaming.rename_all.Given as goal

abbrev pub invariant-loop-lit : goal.invariant-loop-lit
invariant-loop-lit l = l.renamed ≡ map (word l.image) (take l.lit-index l.lits)
